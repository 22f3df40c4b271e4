-- What the functions ask and give.
use Rattle.std.specs.Prelude.{◌≡◌, Bool, List, ℕ, ◌-◌, ◌*◌, ◌<◌, length}
use Rattle.difference.specs.System.{least_values, solvable}
use Rattle.difference.specs.Rows.{item}
use Rattle.difference.specs.declared.Constraint.{Constraint}
use Rattle.flight_order.specs.Constraints.{OrderedFlight, constraint_of, system_for}
use Rattle.flight_order.specs.Good.{Good}

-- The first k rows are the first k constraints.
pub record Rows (F : OrderedFlight) (rows : List Constraint) (k : ℕ) : Type 0 where
  pub written : (j : ℕ) → j < k → item rows j ≡ constraint_of F j

-- What is asked with the room for the constraints, and with the room for the starts.
pub record WriteConstraintsPre (F : OrderedFlight) (rows : List Constraint) : Type 0 where
  pub good : Good F
  pub rows_length : length rows ≡ 4 * F.blocks - 1

pub record LeastStartsPre (F : OrderedFlight) (rows : List Constraint) (starts : List ℕ) : Type 0 where
  pub room : WriteConstraintsPre F rows
  pub starts_length : length starts ≡ 2 * F.blocks

-- The least starts of every pass, and whether there are any.
pub record Least (F : OrderedFlight) (rows : List Constraint) (t : List ℕ) (found : Bool) : Type 0 where
  pub written : Rows F rows (4 * F.blocks - 1)
  pub starts : t ≡ least_values (system_for F)
  pub result : found ≡ solvable (system_for F)
