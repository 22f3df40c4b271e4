-- The turn between any two passes, and between each pass and the next one in the order kept (02, Req 06: "Each pass starts at least g after the pass before it
-- ends"): it is the same to say the one or the other.
use Rattle.std.specs.Prelude.{ℕ, ◌+◌, ◌*◌, ◌≤◌, ◌<◌, List}
use Rattle.order.specs.Order.{Proper}
use Rattle.sheet.specs.Sound.{FlightSound}
use Rattle.sheet.specs.declared.FlightSection.{FlightSection}
use Rattle.rules.specs.Flight.{clear_at, AllApart, FlightUnder, Keeps}
use Rattle.rules.specs.declared.Passes.{Passes}
use Rattle.rules_laws.proofs.FlightRunning.{next_apart, all_apart, order_kept}
use Rattle.rules_laws.specs.Turns.{NextApart}

module _ (f : FlightSection) (w : ℕ) (ps : List Passes) (proper : Proper f.blocks w) where
  pub neighbours_apart : {c : ℕ} → FlightUnder c f ps → Keeps f w ps → NextApart f w ps
  unfolding clear_at
  neighbours_apart law keeps = record { apart = next_apart f ps w law keeps proper }

  pub neighbours_enough : NextApart f w ps → FlightSound f → AllApart f ps × Keeps f w ps
  unfolding clear_at
  neighbours_enough next sound = (all_apart f ps w proper next.apart, order_kept f ps w proper next.apart sound)
