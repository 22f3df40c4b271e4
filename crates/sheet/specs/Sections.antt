-- Where a reading stands among the sections of a sheet, and how many strips a desk has.
use Rattle.std.specs.Prelude.{ℕ, ◌-◌, List, get_or}

-- the section that is being read: none yet, one of the three, or flight behind its order field
abbrev pub no_section : ℕ
no_section = 0

abbrev pub in_mosaic : ℕ
in_mosaic = 1

abbrev pub in_sorting : ℕ
in_sorting = 2

abbrev pub in_flight : ℕ
in_flight = 3

abbrev pub after_order : ℕ
after_order = 4

-- the strips of a desk, which is numbered from 1
unfoldable pub strips_of_desk : List ℕ → ℕ → ℕ
strips_of_desk counts desk = get_or counts (desk - 1) 0
