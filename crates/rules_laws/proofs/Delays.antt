-- A window is a choice of exact delays (02, Req 07: "an exact delay being a window of one value"): a timetable of a flight is one of the same flight with some
-- choice of delays in its windows, and conversely.
-- The idea: the delays chosen are those that lie between the two starts of each block.
use Rattle.std.specs.Prelude.{ℕ, ◌+◌, ◌-◌, ◌≤◌, ◌<◌, ◌≡◌, List, get_or}
use Rattle.std.proofs.Math.Path.{refl}
use Rattle.std.proofs.Common.{arith}
use Rattle.sheet.specs.declared.FlightSection.{FlightSection}
use Rattle.rules.specs.Flight.{pass_start, pass_time, pass_end, second_due, DelayKept, clear_at, FlightUnder, Keeps, flight_figure}
use Rattle.rules.specs.declared.Passes.{Passes}
use Rattle.rules_laws.specs.Delays.{with_delays, DelaysChosen, ChoiceKept}
use Rattle.rules_laws.proofs.DelaysOf.{delays_of, delay_at}

-- "A second pass starts exactly l after its first ends": so it is where the window has the one value l
pub exact_delay : (f : FlightSection) (i l : ℕ) (p : Passes) → get_or f.shortest i 0 ≡ l → get_or f.longest i 0 ≡ l
    → (DelayKept f i p → p.second ≡ second_due f i p l) × (p.second ≡ second_due f i p l → DelayKept f i p)
unfolding second_due
exact_delay f i l p lo hi = (
  λ k. omega (arith, k.at_least, k.at_most),
  λ e. record { at_least = omega arith; at_most = omega arith },
)

module _ (f : FlightSection) (ps : List Passes) where
  pub choice_kept : {c : ℕ} → FlightUnder c f ps → ChoiceKept c f ps
  unfolding second_due pass_end pass_start pass_time clear_at
  choice_kept law = record {
    delays = delays_of f ps;
    chosen = record {
      at_least = λ i l. omega (arith, delay_at f ps i l, (law.delay_kept i l).at_least);
      at_most = λ i l. omega (arith, delay_at f ps i l, (law.delay_kept i l).at_least, (law.delay_kept i l).at_most);
    };
    under = record {
      every_block = law.every_block;
      delay_kept = λ i l. record {
        at_least = omega (arith, delay_at f ps i l, (law.delay_kept i l).at_least);
        at_most = omega (arith, delay_at f ps i l);
      };
      apart = law.apart;
      within = law.within;
    };
  }

  pub kept_choice : {c : ℕ} (delays : List ℕ) → DelaysChosen f delays → FlightUnder c (with_delays delays f) ps → FlightUnder c f ps
  unfolding second_due pass_end pass_start pass_time clear_at
  kept_choice delays chosen law = record {
    every_block = law.every_block;
    delay_kept = λ i l. record {
      at_least = omega (arith, chosen.at_least i l, (law.delay_kept i l).at_least);
      at_most = omega (arith, chosen.at_most i l, (law.delay_kept i l).at_most);
    };
    apart = law.apart;
    within = law.within;
  }

  -- the order that is kept and the figure have no part in it
  pub same_order : (delays : List ℕ) (w : ℕ) → (Keeps f w ps → Keeps (with_delays delays f) w ps) × (Keeps (with_delays delays f) w ps → Keeps f w ps)
  unfolding pass_start
  same_order delays w = (λ k. record { by_start = k.by_start }, λ k. record { by_start = k.by_start })

  pub same_figure : (delays : List ℕ) → flight_figure (with_delays delays f) ps ≡ flight_figure f ps
  unfolding flight_figure pass_end pass_start pass_time
  same_figure delays = refl
