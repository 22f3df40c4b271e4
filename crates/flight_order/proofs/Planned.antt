-- What the least starts of a proper order are by the rules: a lawful timetable that keeps the order, if there is one under any ceiling, in which no pass
-- could start earlier, and whose figure no other has below it.
use Rattle.std.specs.Prelude.{◌≡◌, true, List, ℕ, ◌+◌, ◌-◌, ◌*◌, ◌≤◌, ◌<◌, get_or}
use Rattle.std.proofs.Math.Path.{sym, ap}
use Rattle.std.proofs.Common.{◌∙◌, eq-eqb, ne_eqb}
use Rattle.std.proofs.Math.Decide.{dec_lt}
use native.Mathlib.Omega.{arith}
use Rattle.order.specs.Order.{Proper}
use Rattle.difference.specs.System.{value, holds, least_values, solvable}
use Rattle.difference.specs.Least.{solvable_solves, least_below, solution_solvable}
use Rattle.sheet.specs.Sound.{FlightSound}
use Rattle.sheet.specs.declared.FlightSection.{FlightSection}
use Rattle.rules.specs.Flight.{pass_start, pass_time, pass_end, FlightUnder, FlightLawful, Keeps, flight_figure}
use Rattle.rules.specs.declared.Passes.{Passes}
use Rattle.base.specs.SumLaws.{greatest_most}
use Rattle.rules_laws.proofs.FlightRunning.{time_second}
use Rattle.flight_order.specs.Constraints.{flight_in, system_for, least_starts, possible_in, order_figure}
use Rattle.flight_order.specs.Schedule.{Schedule}
use Rattle.flight_order.proofs.Schedule.{schedule_solves, solves_schedule}
use Rattle.flight_order.proofs.Good.{inside}
use Rattle.flight_order.specs.Timetable.{passes_with_starts, least_passes}
use Rattle.flight_order.proofs.Timetable.{passes_length, start_from}
use Rattle.flight_order.proofs.Lawful.{lawful_schedule, schedule_keeps, schedule_lawful, figure_last}
use Rattle.flight_order.specs.Ceiling.{latest_end}
use Rattle.flight_order.proofs.Ceiling.{sound_good, least_end}

module _ (f : FlightSection) (w : ℕ) (sound : FlightSound f) (proper : Proper f.blocks w) where
  -- A schedule shows that the order is possible.
  pub schedule_possible : 0 < f.blocks → (y : ℕ → ℕ) → Schedule (flight_in f w) y → possible_in f w ≡ true
  unfolding possible_in
  schedule_possible some y s =
      solution_solvable (system_for (flight_in f w)) (inside (flight_in f w) (sound_good f w sound some proper)) y (schedule_solves (flight_in f w) y s)

  pub empty_possible : (0 < f.blocks → ⊥) → possible_in f w ≡ true
  unfolding possible_in solvable holds
  empty_possible none = ap (λ (m : ℕ). holds (system_for (flight_in f w)) m (least_values (system_for (flight_in f w)))) e
    where
      e : 4 * f.blocks - 1 ≡ 0
      e = omega (arith, none)

  pub kept_possible : {c : ℕ} (ps : List Passes) → FlightUnder c f ps → Keeps f w ps → possible_in f w ≡ true
  kept_possible ps law keeps = go (dec_lt 0 f.blocks)
    where
      go : Dec (0 < f.blocks) → possible_in f w ≡ true
      go (yes some) = schedule_possible some (pass_start f ps) (lawful_schedule f w proper ps law keeps)
      go (no none) = empty_possible none

  pub start_least : (p : ℕ) → p < 2 * f.blocks → pass_start f (least_passes f w) p ≡ value (least_starts f w) p
  unfolding least_passes
  start_least p l = start_from f (value (least_starts f w)) p l

  least_schedule : 0 < f.blocks → possible_in f w ≡ true → Schedule (flight_in f w) (value (least_starts f w))
  unfolding possible_in least_starts
  least_schedule some e =
      solves_schedule (flight_in f w) (value (least_starts f w))
      (solvable_solves (system_for (flight_in f w)) (inside (flight_in f w) (sound_good f w sound some proper)) e)

  pub possible_keeps : possible_in f w ≡ true → Keeps f w (least_passes f w)
  unfolding least_passes
  possible_keeps e = go (dec_lt 0 f.blocks)
    where
      go : Dec (0 < f.blocks) → Keeps f w (passes_with_starts f.blocks (value (least_starts f w)))
      go (yes some) = schedule_keeps f w proper (value (least_starts f w)) (least_schedule some e) sound
      go (no none) = record { by_start = λ j k h l. absurd (omega (arith, none)) }

  pub possible_lawful : possible_in f w ≡ true → FlightLawful f (least_passes f w)
  unfolding least_passes
  possible_lawful e = go (dec_lt 0 f.blocks)
    where
      go : Dec (0 < f.blocks) → FlightLawful f (passes_with_starts f.blocks (value (least_starts f w)))
      go (yes some) =
          schedule_lawful f w proper (value (least_starts f w)) (least_schedule some e)
          (λ p l. omega (arith, least_end f sound w some proper e p l))
      go (no none) = record {
        every_block = passes_length f.blocks (value (least_starts f w));
        delay_kept = λ i l. absurd (omega (arith, none));
        apart = λ p q lp lq ne. absurd (omega (arith, none));
        within = λ p l. absurd (omega (arith, none));
      }

  starts_below : {c : ℕ} → 0 < f.blocks → (ps : List Passes) → FlightUnder c f ps → Keeps f w ps → (p : ℕ) → value (least_starts f w) p ≤ pass_start f ps p
  unfolding least_starts
  starts_below some ps law keeps p =
      least_below (system_for (flight_in f w)) (inside (flight_in f w) (sound_good f w sound some proper)) (pass_start f ps)
      (schedule_solves (flight_in f w) (pass_start f ps) (lawful_schedule f w proper ps law keeps)) p

  -- No pass starts earlier in any timetable that keeps the order.
  pub least_earliest : {c : ℕ} (ps : List Passes) → FlightUnder c f ps → Keeps f w ps → (p : ℕ) → p < 2 * f.blocks
      → pass_start f (least_passes f w) p ≤ pass_start f ps p
  least_earliest ps law keeps p l = rw (start_least p l) (starts_below (omega arith) ps law keeps p)

  -- The figure.
  last_time : 0 < f.blocks → pass_time f (2 * f.blocks - 1) ≡ get_or f.second (f.blocks - 1) 0
  last_time some = time_second f (2 * f.blocks - 1) (omega arith) ∙ ap (λ (i : ℕ). get_or f.second i 0) back
    where
      back : 2 * f.blocks - 1 - f.blocks ≡ f.blocks - 1
      back = omega arith

  figure_some : 0 < f.blocks → order_figure f w ≡ value (least_starts f w) (2 * f.blocks - 1) + get_or f.second (f.blocks - 1) 0
  unfolding order_figure
  figure_some some = rw (ne_eqb f.blocks 0 (λ e. omega arith))

  pub figure_none : (0 < f.blocks → ⊥) → order_figure f w ≡ 0
  unfolding order_figure
  figure_none none = rw (eq-eqb f.blocks 0 (omega (arith, none)))

  empty_figure : (0 < f.blocks → ⊥) → (ps : List Passes) → flight_figure f ps ≡ 0
  unfolding flight_figure
  empty_figure none ps = omega (arith, greatest_most (2 * f.blocks) 0 (λ p. pass_end f ps p) (λ p l. absurd (omega (arith, none))))

  pub least_figure_lem : possible_in f w ≡ true → flight_figure f (least_passes f w) ≡ order_figure f w
  unfolding pass_end
  least_figure_lem e = go (dec_lt 0 f.blocks)
    where
      go : Dec (0 < f.blocks) → flight_figure f (least_passes f w) ≡ order_figure f w
      go (yes some) =
          figure_last f w proper some (least_passes f w) (possible_lawful e) (possible_keeps e)
          ∙ omega (arith, start_least (2 * f.blocks - 1) (omega arith), last_time some, figure_some some)
      go (no none) = empty_figure none (least_passes f w) ∙ sym (figure_none none)

  pub figure_below : {c : ℕ} (ps : List Passes) → FlightUnder c f ps → Keeps f w ps → order_figure f w ≤ flight_figure f ps
  unfolding pass_end
  figure_below ps law keeps = go (dec_lt 0 f.blocks)
    where
      go : Dec (0 < f.blocks) → order_figure f w ≤ flight_figure f ps
      go (yes some) =
          omega (
            arith,
            figure_last f w proper some ps law keeps,
            starts_below some ps law keeps (2 * f.blocks - 1),
            last_time some,
            figure_some some,
          )
      go (no none) = omega (arith, figure_none none)

  pub least_ends : possible_in f w ≡ true → (p : ℕ) → p < 2 * f.blocks → pass_end f (least_passes f w) p ≤ latest_end
  unfolding pass_end
  least_ends e p l = rw (start_least p l) (least_end f sound w (omega arith) proper e p l)
