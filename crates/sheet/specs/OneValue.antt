-- A window of one value is an exact delay (02, Req 07: "an exact delay being a window of one value"): with a block of tag 31, and with one of tag 33 in its
-- place whose two bounds are its delay, the same sheet is read with the same number and the same sections, and in the second the places of later fields are two
-- higher.
-- The idea: both blocks have the same values, the delay once or twice, and add the same block (MovedPlaces.antt has what follows behind them).
use Rattle.std.specs.Prelude.{ℕ, ◌+◌, ◌≤◌, ◌≡◌, List, [], ◌∷◌, ◌++◌}
use Rattle.std.proofs.Common.{◌∙◌}
use Rattle.field.specs.Bytes.{bytes_of}
use Rattle.sheet.specs.Tags.{flight_block_tag, flight_window_block_tag}
use Rattle.sheet.specs.MovedPlaces.{with_field}

-- a sheet with a block of passes a and b and the delay l behind some bytes and before others, and the same sheet with a window from l to l
abbrev pub with_exact_delay : List ℕ → ℕ → ℕ → ℕ → List ℕ → List ℕ
with_exact_delay before a l b rest = with_field before flight_block_tag (bytes_of 2 a ++ bytes_of 2 l ++ bytes_of 2 b) rest

abbrev pub with_one_value : List ℕ → ℕ → ℕ → ℕ → List ℕ → List ℕ
with_one_value before a l b rest = with_field before flight_window_block_tag (bytes_of 2 a ++ bytes_of 2 l ++ bytes_of 2 l ++ bytes_of 2 b) rest
