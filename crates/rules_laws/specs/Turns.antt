-- The turn between any two passes, and between each pass and the next one in the order kept (02, Req 06: "Each pass starts at least g after the pass before it
-- ends"): it is the same to say the one or the other.
use Rattle.std.specs.Prelude.{ℕ, ◌+◌, ◌*◌, ◌≤◌, ◌<◌, List}
use Rattle.order.specs.Passes.{pass_at}
use Rattle.sheet.specs.declared.FlightSection.{FlightSection}
use Rattle.rules.specs.Flight.{pass_start, pass_end}
use Rattle.rules.specs.declared.Passes.{Passes}

-- each pass but the first starts at least the turn after the pass before it in the order ends
pub record NextApart (f : FlightSection) (order : ℕ) (ps : List Passes) : Type 0 where
  pub apart : (k : ℕ) → k + 1 < 2 * f.blocks → pass_end f ps (pass_at f.blocks order k) + f.turn ≤ pass_start f ps (pass_at f.blocks order (k + 1))
