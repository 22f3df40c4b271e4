-- A written turn of 0 is an empty flight head (02, Req 06: "an empty head means 0"): with the one or the other, the same sheet is read with the same number and
-- the same sections, and the places of later fields are two higher.
-- The idea: both heads are refused or pass by the section before them alone, and begin a flight with a turn of 0 (MovedPlaces.antt has what follows behind
-- them).
use Rattle.std.specs.Prelude.{ℕ, ◌+◌, ◌≡◌, List, [], ◌∷◌}
use Rattle.std.proofs.Common.{◌∙◌}
use Rattle.field.specs.Bytes.{bytes_of}
use Rattle.sheet.specs.Tags.{flight_head_tag}
use Rattle.sheet.specs.MovedPlaces.{with_field}

-- a sheet with an empty flight head behind some bytes and before others, and the same sheet with a written turn of 0
abbrev pub with_empty_head : List ℕ → List ℕ → List ℕ
with_empty_head before rest = with_field before flight_head_tag [] rest

abbrev pub with_written_zero : List ℕ → List ℕ → List ℕ
with_written_zero before rest = with_field before flight_head_tag (bytes_of 2 0) rest
