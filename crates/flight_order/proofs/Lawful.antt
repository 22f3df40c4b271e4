-- A schedule of the constraints is what the rules call a timetable that keeps the order, and conversely: by the constraints each pass ends, and
-- the turn is over, before the next in the order starts, which by the laws of the rules makes all pairs apart. The last pass of the order ends last, and so
-- gives the figure.
use Rattle.std.specs.Prelude.{◌≡◌, List, ℕ, ◌+◌, ◌-◌, ◌*◌, ◌≤◌, ◌<◌}
use Rattle.std.proofs.Common.{sym, ap, ◌∙◌}
use Rattle.std.proofs.Math.Decide.{ℕ_discrete}
use native.Mathlib.Omega.{arith}
use Rattle.order.specs.Order.{Proper}
use Rattle.order.specs.Passes.{pass_at, time_of}
use Rattle.order.specs.PassLaws.{pass_known, position, last_pass}
use Rattle.sheet.specs.Sound.{FlightSound}
use Rattle.sheet.specs.declared.FlightSection.{FlightSection}
use Rattle.rules.specs.Flight.{pass_start, pass_time, pass_end, second_due, clear_at, Clear, FlightUnder, Keeps, flight_figure}
use Rattle.rules.specs.declared.Passes.{Passes}
use Rattle.base.specs.SumLaws.{greatest_most, greatest_part}
use Rattle.rules_laws.proofs.FlightRunning.{start_first, second_start, end_is, clear_end, next_apart, before_later, all_apart, order_kept}
use Rattle.flight_order.specs.Constraints.{flight_in}
use Rattle.flight_order.specs.Schedule.{Schedule}
use Rattle.flight_order.specs.Timetable.{passes_with_starts}
use Rattle.flight_order.proofs.Timetable.{passes_length, passes_first, passes_second, start_from, time_is}

module _ (f : FlightSection) (w : ℕ) (proper : Proper f.blocks w) where
  -- From the rules to the constraints.
  pub lawful_schedule : {c : ℕ} (ps : List Passes) → FlightUnder c f ps → Keeps f w ps → Schedule (flight_in f w) (pass_start f ps)
  unfolding pass_end clear_at second_due
  lawful_schedule ps law keeps = record {
    at_least = λ i l. omega (arith, (law.delay_kept i l).at_least, start_first f ps i l, second_start f ps i);
    at_most = λ i l. omega (arith, (law.delay_kept i l).at_most, start_first f ps i l, second_start f ps i);
    in_order = order;
  }
    where
      order : (j : ℕ) → j + 1 < 2 * f.blocks
          → pass_start f ps (pass_at f.blocks w j) + (time_of f.blocks f.first f.second (pass_at f.blocks w j) + f.turn)
          ≤ pass_start f ps (pass_at f.blocks w (j + 1))
      order j l =
          omega (
            arith,
            next_apart f ps w law keeps proper j l,
            time_is f (pass_at f.blocks w j),
          )

  -- From the constraints to the rules.
  module _ (y : ℕ → ℕ) (schedule : Schedule (flight_in f w) y) where
    next : (k : ℕ) → k + 1 < 2 * f.blocks
        → Clear f (passes_with_starts f.blocks y) (pass_at f.blocks w k) (pass_at f.blocks w (k + 1))
    unfolding pass_end clear_at
    next k l =
        rw (
          start_from f y (pass_at f.blocks w k) (pass_known proper k (omega arith)),
          start_from f y (pass_at f.blocks w (k + 1)) (pass_known proper (k + 1) l),
        )
        (omega (arith, schedule.in_order k l, time_is f (pass_at f.blocks w k)))

    pub schedule_keeps : FlightSound f → Keeps f w (passes_with_starts f.blocks y)
    schedule_keeps sound = order_kept f (passes_with_starts f.blocks y) w proper next sound

    pub schedule_lawful : {c : ℕ} → ((p : ℕ) → p < 2 * f.blocks → y p + pass_time f p ≤ c) → FlightUnder c f (passes_with_starts f.blocks y)
    unfolding pass_end second_due
    schedule_lawful low = record {
      every_block = passes_length f.blocks y;
      delay_kept = λ i l. record {
        at_least = rw (passes_first f.blocks y i l, passes_second f.blocks y i l) (omega (arith, schedule.at_least i l));
        at_most = rw (passes_first f.blocks y i l, passes_second f.blocks y i l) (omega (arith, schedule.at_most i l));
      };
      apart = all_apart f (passes_with_starts f.blocks y) w proper next;
      within = λ p l. rw (start_from f y p l) (low p l);
    }

  module _ {c : ℕ} (some : 0 < f.blocks) (ps : List Passes) (law : FlightUnder c f ps) (keeps : Keeps f w ps) where
    -- No pass ends after the last one.
    last_ends : (p : ℕ) → p < 2 * f.blocks → pass_end f ps p ≤ pass_end f ps (2 * f.blocks - 1)
    last_ends p l = go (position proper p l)
      where
        go : (k : ℕ) × (k < 2 * f.blocks) × (pass_at f.blocks w k ≡ p) → pass_end f ps p ≤ pass_end f ps (2 * f.blocks - 1)
        go a = at (ℕ_discrete a.0 (2 * f.blocks - 1))
          where
            at : Dec (a.0 ≡ 2 * f.blocks - 1) → pass_end f ps p ≤ pass_end f ps (2 * f.blocks - 1)
            at (yes e) = rw same (omega arith)
              where
                same : p ≡ 2 * f.blocks - 1
                same = sym a.2 ∙ ap (pass_at f.blocks w) e ∙ last_pass proper some
            at (no e) = omega (arith, before, clear_end f ps p, end_is f ps (2 * f.blocks - 1))
              where
                before : Clear f ps p (2 * f.blocks - 1)
                before =
                    rw (a.2, last_pass proper some)
                    at (before_later f ps w proper (next_apart f ps w law keeps proper) a.0 (2 * f.blocks - 1) (omega arith) (omega arith))

    pub figure_last : flight_figure f ps ≡ pass_end f ps (2 * f.blocks - 1)
    unfolding flight_figure
    figure_last =
        omega (
          arith,
          greatest_most (2 * f.blocks) (pass_end f ps (2 * f.blocks - 1)) (λ p. pass_end f ps p) last_ends,
          greatest_part (2 * f.blocks) (λ p. pass_end f ps p) (2 * f.blocks - 1) (omega arith),
        )
