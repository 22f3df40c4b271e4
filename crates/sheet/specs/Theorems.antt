-- What holds of every sheet: it is refused exactly for a cause of the table, with its number and place, and else accepted; and what is accepted is sound.
-- The idea: the reading goes from field to field as the rows say; each step ends in the first row that fails or in the next field.
use Rattle.std.specs.Prelude.{ℕ, ◌+◌, ◌-◌, ◌≤◌, ◌<◌, ◌≡◌, List}
use Rattle.std.proofs.Common.{◌∙◌}
use Rattle.sheet.specs.Table.{Reached, Cause, Complete}
use Rattle.sheet.specs.Read.{refused, accepted}
use Rattle.sheet.specs.declared.Reading.{Reading}
use Rattle.sheet.specs.declared.Sheet.{Sheet}

-- how the reading of a sheet ends
pub data Outcome (s : List ℕ) (r : Sheet) : Type 0 where
  is_accepted : (st : Reading) → Reached s st → Complete s st → r ≡ accepted st → Outcome s r
  is_refused : (st : Reading) (number place : ℕ) → Reached s st → Cause s st number place → r ≡ refused number place → Outcome s r
