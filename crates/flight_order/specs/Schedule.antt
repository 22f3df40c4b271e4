-- The numbered constraints say the three rules of a schedule: each delay in its window, and each pass of the order after the pass before it.
use Rattle.std.specs.Prelude.{ℕ, ◌+◌, ◌*◌, ◌≤◌, ◌<◌, get_or}
use Rattle.order.specs.Passes.{pass_at, time_of}
use Rattle.flight_order.specs.Constraints.{OrderedFlight}

-- y p is the start of pass p.
pub record Schedule (F : OrderedFlight) (y : ℕ → ℕ) : Type 0 where
  pub at_least : (i : ℕ) → i < F.blocks → y i + (get_or F.first i 0 + get_or F.shortest i 0) ≤ y (F.blocks + i)
  pub at_most : (i : ℕ) → i < F.blocks → y (F.blocks + i) ≤ y i + (get_or F.first i 0 + get_or F.longest i 0)
  pub in_order : (j : ℕ) → j + 1 < 2 * F.blocks
      → y (pass_at F.blocks F.order j) + (time_of F.blocks F.first F.second (pass_at F.blocks F.order j) + F.turn)
      ≤ y (pass_at F.blocks F.order (j + 1))
