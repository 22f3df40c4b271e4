-- The weights of a sheet's strips (02, Req 09): "any other value is 6"; each weight is the one that its strip's field gives; and where no strip carries one,
-- each is 1.
-- The idea: the values before a weight decide before it does; a strip is stored behind those before it, which keep their weights.
use Rattle.std.specs.Prelude.{ℕ, ◌+◌, ◌-◌, ◌*◌, ◌≤◌, ◌<◌, ◌≡◌, List, [], ◌∷◌, ◌++◌, ◌⊎◌}
use Rattle.std.proofs.Common.{◌∙◌}
use Rattle.std.proofs.Math.ListN.{get_or}
use Rattle.field.specs.Bytes.{number_at}
use Rattle.sheet.specs.Limits.{most_weight}
use Rattle.sheet.specs.Tags.{mosaic_strip_tag, sorting_strip_tag}
use Rattle.sheet.specs.FieldTable.{mosaic_strip, sorting_strip, content_values, InRange}
use Rattle.sheet.specs.Decode.{weight_of}
use Rattle.sheet.specs.FlightPlaces.{FieldRead}
use Rattle.sheet.specs.AbsentWeight.{StripAt}
use Rattle.sheet.specs.declared.Reading.{Reading}

-- "its weight, 1 to 100; .. any other value is 6": a strip that carries a weight, its values before it within their ranges, and the weight not from 1 to 100
pub data WeightOut (s : List ℕ) (st : Reading) (tag len : ℕ) : Type 0 where
  mosaic : tag ≡ mosaic_strip_tag → len ≡ 2 * st.mosaic.stations + 2 + 1 → InRange (content_values s (st.at + 3) (mosaic_strip st.mosaic.stations))
      → (number_at s (st.at + 3 + (2 * st.mosaic.stations + 2)) 1 < 1) ⊎ (most_weight < number_at s (st.at + 3 + (2 * st.mosaic.stations + 2)) 1)
      → WeightOut s st tag len
  sorting : tag ≡ sorting_strip_tag → len ≡ 5 + 1
      → InRange (content_values s (st.at + 3) (sorting_strip st.sorting.desks))
      → (number_at s (st.at + 3 + 5) 1 < 1) ⊎ (most_weight < number_at s (st.at + 3 + 5) 1) → WeightOut s st tag len

-- The field that strip j, from 0, of a mosaic was read from, j strips having been read before it, and its weight.
pub record MosaicWeightRead (s : List ℕ) (j weight : ℕ) : Type 0 where
  pub at : ℕ
  pub len : ℕ
  pub field : FieldRead s mosaic_strip_tag len at
  pub strips_before : field.reading.mosaic.strips ≡ j
  pub weight_is : weight ≡ weight_of s (at + 3) len (2 * field.reading.mosaic.stations + 2)

-- The field that strip k of desk d, both from 0, was read from, k strips of that desk having been read before it, and its weight.
pub record SortingWeightRead (s : List ℕ) (d k weight : ℕ) : Type 0 where
  pub at : ℕ
  pub len : ℕ
  pub field : FieldRead s sorting_strip_tag len at
  pub desk_is : number_at s (at + 3) 1 ≡ d + 1
  pub strips_before : get_or field.reading.sorting.counts d 0 ≡ k
  pub weight_is : weight ≡ weight_of s (at + 3) len 5

-- "unweighted strips", those of the mosaic or those of the sorting, by their tag: each of their fields has the length of one without a weight
unfoldable pub Unweighted : ℕ → List ℕ → Type 0
Unweighted tag s = (len at others : ℕ) (f : FieldRead s tag len at) → StripAt f.reading tag others → len ≡ others
