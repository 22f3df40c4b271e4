-- The field table by tag: the contents that it has for each, two for a flight head and for a strip, and that a field of a length that is due has the values of
-- its content.
-- The idea: for a tag that is known the table computes. Only the rows of a mosaic strip do not: they are there or not by the number of stations.
use Rattle.std.specs.Prelude.{ℕ, ◌+◌, ◌*◌, ◌≤◌, ◌≡◌, ◌&&◌, ◌⊎◌, eqb}
use Rattle.std.proofs.Common.{◌∙◌, true≢false}
use Rattle.std.proofs.Math.Bool.{cond}
use mathlib.Core.List.{List, [], ◌∷◌, ◌++◌}
use Rattle.field.specs.Bytes.{number_at}
use Rattle.sheet.specs.Limits.{most_weight}
use Rattle.sheet.specs.Among.{Among}
use Rattle.sheet.specs.FieldTable.{TableRow, mosaic_strip}
use Rattle.sheet.specs.FieldTable.{length_of, Value}
use Rattle.sheet.specs.FieldTable.{content_values}
use Rattle.sheet.specs.FieldTable.Range.{count}
use Rattle.sheet.specs.FieldTable.Value.{value}

-- a row of a tag whose content has a length
pub record RowOfLength (tag len : ℕ) (table : List TableRow) : Type 0 where
  pub row : TableRow
  pub in_table : Among row table
  pub of_tag : tag ≡ row.tag
  pub of_length_holds : len ≡ length_of row.content

-- the value of a weight, behind so many other bytes: none where the content has no other
unfoldable pub weight_values : List ℕ → ℕ → ℕ → ℕ → List Value
weight_values s c len others = cond (eqb len others) [] (value (count 1 most_weight) (number_at s (c + others) 1) ∷ [])

-- the values of a strip from station k on, of which n are left: the station times, and the bench time behind them
unfoldable pub strip_from : List ℕ → ℕ → ℕ → ℕ → List Value
strip_from s c k n = content_values s (c + 2 * k) (mosaic_strip n)
