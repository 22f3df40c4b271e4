-- Sheets as bytes, field by field (01, "The sheet"), for the table of worked sheets.
use Rattle.std.specs.Prelude.{ℕ, List, [], ◌++◌}
use Rattle.field.specs.Bytes.{bytes_of}
use Rattle.field.specs.Field.{field_bytes}
use Rattle.sheet.specs.Tags.{mosaic_head_tag, mosaic_strip_tag, sorting_head_tag, sorting_strip_tag, flight_head_tag, flight_block_tag, flight_order_tag}

-- fields of a sheet: the heads, a strip of two stations with its bench time, a strip of a desk, a block, a pass order
abbrev pub mosaic_head : ℕ → ℕ → List ℕ
mosaic_head stations mount = field_bytes mosaic_head_tag (bytes_of 1 stations ++ bytes_of 2 mount)

abbrev pub strip_of_two : ℕ → ℕ → ℕ → List ℕ
strip_of_two first second bench = field_bytes mosaic_strip_tag (bytes_of 2 first ++ bytes_of 2 second ++ bytes_of 2 bench)

abbrev pub sorting_head : ℕ → List ℕ
sorting_head desks = field_bytes sorting_head_tag (bytes_of 1 desks)

abbrev pub strip_of_desk : ℕ → ℕ → ℕ → List ℕ
strip_of_desk desk scan time = field_bytes sorting_strip_tag (bytes_of 1 desk ++ bytes_of 2 scan ++ bytes_of 2 time)

abbrev pub flight_head : List ℕ
flight_head = field_bytes flight_head_tag []

abbrev pub block : ℕ → ℕ → ℕ → List ℕ
block first delay second = field_bytes flight_block_tag (bytes_of 2 first ++ bytes_of 2 delay ++ bytes_of 2 second)

abbrev pub pass_order : ℕ → List ℕ
pass_order order = field_bytes flight_order_tag (bytes_of 8 order)
