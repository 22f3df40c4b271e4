-- Lists of passes, and the starts and times of the rules by the number of the pass.
use Rattle.std.specs.Prelude.{List, ℕ, ◌+◌}
use Rattle.base.specs.Listed.{listed}
use Rattle.difference.specs.System.{value}
use Rattle.sheet.specs.declared.FlightSection.{FlightSection}
use Rattle.rules.specs.declared.Passes.{Passes}
use Rattle.flight_order.specs.Constraints.{least_starts}

-- The passes of n blocks where pass p starts at y p.
unfoldable pub passes_with_starts : ℕ → (ℕ → ℕ) → List Passes
passes_with_starts n y = listed n (λ i. record { first = y i; second = y (n + i) })

-- The passes of a flight at their least starts in an order.
unfoldable pub least_passes : FlightSection → ℕ → List Passes
least_passes f order = passes_with_starts f.blocks (value (least_starts f order))
