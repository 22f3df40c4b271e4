-- An absent weight is a weight of 1 (02, Req 09: "absent means 1"): with a strip that carries no weight, and with the same strip and a last byte of 1, a sheet
-- is read with the same number and the same sections, and in the second the places of later fields are one higher.
-- The idea: the values before the weight are the same, a weight of 1 is within its range, and both strips are stored with the weight 1 (MovedPlaces.antt has
-- what follows behind them).
use Rattle.std.specs.Prelude.{ℕ, ◌+◌, ◌*◌, ◌≤◌, ◌<◌, ◌≡◌, List, [], ◌∷◌, ◌++◌}
use Rattle.std.proofs.Common.{◌∙◌}
use Rattle.sheet.specs.Tags.{mosaic_strip_tag, sorting_strip_tag}
use Rattle.sheet.specs.MovedPlaces.{with_field}
use Rattle.sheet.specs.declared.Reading.{Reading}

-- a strip of a mosaic or of a sorting, whose content without a weight has so many bytes where a reading stands
pub data StripAt (st : Reading) (tag others : ℕ) : Type 0 where
  of_mosaic_holds : tag ≡ mosaic_strip_tag → others ≡ 2 * st.mosaic.stations + 2 → StripAt st tag others
  of_sorting_holds : tag ≡ sorting_strip_tag → others ≡ 5 → StripAt st tag others

-- a sheet with a strip behind some bytes and before others, and the same sheet with a last byte of 1 in the strip
abbrev pub without_weight : List ℕ → ℕ → List ℕ → List ℕ → List ℕ
without_weight before tag content rest = with_field before tag content rest

abbrev pub with_weight_one : List ℕ → ℕ → List ℕ → List ℕ → List ℕ
with_weight_one before tag content rest = with_field before tag (content ++ (1 ∷ [])) rest
