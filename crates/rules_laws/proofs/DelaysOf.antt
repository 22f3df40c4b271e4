-- The delays that lie between the starts of a timetable.
use Rattle.std.specs.Prelude.{ℕ, ◌+◌, ◌-◌, ◌≤◌, ◌<◌, ◌≡◌, List, get_or}
use Rattle.base.specs.Listed.{listed, listed_at}
use Rattle.sheet.specs.declared.FlightSection.{FlightSection}
use Rattle.rules.specs.Flight.{passes_at}
use Rattle.rules.specs.declared.Passes.{Passes}

module _ (f : FlightSection) (ps : List Passes) where
  -- the delays that lie between the starts
  pub delays_of : List ℕ
  delays_of = listed f.blocks (λ i. (passes_at ps i).second - ((passes_at ps i).first + get_or f.first i 0))

  pub delay_at : (i : ℕ) → i < f.blocks → get_or delays_of i 0 ≡ (passes_at ps i).second - ((passes_at ps i).first + get_or f.first i 0)
  unfolding delays_of
  delay_at i l = listed_at f.blocks _ i 0 l
