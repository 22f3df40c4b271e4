-- The theorems on the flight's plan, for every sound flight section f. The program's promise is that its plan is `is_possible f`, `least_figure f`,
-- `chosen_order f` and `chosen_passes f` (Choice.antt); the rules are those of crate rules.
use Rattle.std.specs.Prelude.{◌≡◌, refl, Bool, true, false, List, ℕ, ◌+◌, ◌*◌, ◌≤◌, ◌<◌}
use Rattle.std.proofs.Common.{sym, ◌∙◌, true≢false, arith}
use Rattle.sheet.specs.Sound.{FlightSound}
use Rattle.sheet.specs.declared.FlightSection.{FlightSection}
use Rattle.rules.specs.Flight.{passes_at, pass_end, FlightUnder, FlightLawful, Keeps, OrderAllowed, flight_figure}
use Rattle.rules.specs.declared.Passes.{Passes}
use Rattle.base.specs.LeastFigure.{NoLarger}
use Rattle.order.specs.Order.{Proper}
use Rattle.rules_laws.proofs.FlightRunning.{start_first, second_start}
use Rattle.flight_order.specs.Ceiling.{latest_end}
use Rattle.flight_order.specs.Timetable.{least_passes}
use Rattle.flight_order.proofs.Planned.{possible_lawful, possible_keeps, kept_possible, least_earliest, least_figure_lem, figure_below, least_ends}
use Rattle.flight.specs.Choice.{one_by_one, chosen_order, is_possible, least_figure, chosen_passes}
use Rattle.flight.specs.Chosen.{LongestBelowTurn, short_unfit, chosen_none, chosen_proper, chosen_allowed, chosen_least, allowed_possible, impossible_short}
use Rattle.flight.specs.Chosen.{short_impossible}

module _ (f : FlightSection) (sound : FlightSound f) where
  -- A plan that is possible is a timetable, keeps its order, and the order is the given one or, where none is given, a proper one.
  pub flight_lawful : is_possible f ≡ true → FlightLawful f (chosen_passes f) × Keeps f (chosen_order f) (chosen_passes f) × OrderAllowed f (chosen_order f)
  unfolding is_possible chosen_passes
  flight_lawful e = (
    possible_lawful f (chosen_order f) sound (chosen_proper f sound) e,
    possible_keeps f (chosen_order f) sound (chosen_proper f sound) e,
    chosen_allowed f sound,
  )

  -- Its figure is the rules' figure.
  pub flight_figure_lem : is_possible f ≡ true → flight_figure f (chosen_passes f) ≡ least_figure f
  unfolding is_possible chosen_passes least_figure
  flight_figure_lem e = least_figure_lem f (chosen_order f) sound (chosen_proper f sound) e

  -- No timetable that keeps an allowed order has a smaller figure, under any ceiling.
  pub flight_least : {c : ℕ} (w : ℕ) (ps : List Passes) → FlightUnder c f ps → Keeps f w ps → OrderAllowed f w → least_figure f ≤ flight_figure f ps
  flight_least w ps law keeps allowed =
      omega (
        arith,
        chosen_least f sound w allowed (kept_possible f w sound allowed.proper ps law keeps),
        figure_below f w sound allowed.proper ps law keeps,
      )

  -- 02, Req 01: "for each section's timetable that would pass it there is one within it of no larger figure": for each that obeys the rules under any ceiling
  -- and keeps a proper order there is one that keeps the same order
  pub flight_ceiling : {c : ℕ} (w : ℕ) (ps : List Passes) → FlightUnder c f ps → Keeps f w ps → Proper f.blocks w
      → NoLarger (λ qs. FlightLawful f qs × Keeps f w qs) (flight_figure f) ps
  flight_ceiling w ps law keeps proper =
      let possible = kept_possible f w sound proper ps law keeps in
      record {
        timetable = least_passes f w;
        obeys = (possible_lawful f w sound proper possible, possible_keeps f w sound proper possible);
        no_larger = omega (arith, least_figure_lem f w sound proper possible, figure_below f w sound proper ps law keeps);
      }

  -- No pass starts earlier in any timetable that keeps the chosen order; where an order is given, in any allowed plan.
  pub flight_earliest : (ps : List Passes) → FlightLawful f ps → Keeps f (chosen_order f) ps → (i : ℕ) → i < f.blocks
      → ((passes_at (chosen_passes f) i).first ≤ (passes_at ps i).first) × ((passes_at (chosen_passes f) i).second ≤ (passes_at ps i).second)
  unfolding chosen_passes
  flight_earliest ps law keeps i l = (
    rw (start_first f (chosen_passes f) i l, start_first f ps i l)
        at (least_earliest f (chosen_order f) sound (chosen_proper f sound) ps law keeps i (omega arith)),
    rw (second_start f (chosen_passes f) i, second_start f ps i)
        at (least_earliest f (chosen_order f) sound (chosen_proper f sound) ps law keeps (f.blocks + i) (omega arith)),
  )

  -- The plan is not possible exactly where no timetable keeps an allowed order; then none does under any ceiling.
  pub flight_impossible : (is_possible f ≡ false → (c w : ℕ) (ps : List Passes) → FlightUnder c f ps → Keeps f w ps → OrderAllowed f w → ⊥)
      × (((w : ℕ) (ps : List Passes) → FlightLawful f ps → Keeps f w ps → OrderAllowed f w → ⊥) → is_possible f ≡ false)
  flight_impossible = (
    λ e c w ps law keeps allowed. true≢false (sym (allowed_possible f sound w allowed (kept_possible f w sound allowed.proper ps law keeps)) ∙ e),
    λ none. go none (is_possible f) refl,
  )
    where
      go : ((w : ℕ) (ps : List Passes) → FlightLawful f ps → Keeps f w ps → OrderAllowed f w → ⊥) → (b : Bool) → is_possible f ≡ b → b ≡ false
      go none true e = let h = flight_lawful e in absurd (none (chosen_order f) (chosen_passes f) h.0 h.1 h.2)
      go none false e = refl

  -- 02, Req 06. Where no order is given, the plan is not possible exactly where some block's longest delay is shorter than the turn ..
  pub flight_free : f.ordered ≡ false → (is_possible f ≡ false → LongestBelowTurn f) × (LongestBelowTurn f → is_possible f ≡ false)
  flight_free e = (impossible_short f sound e, short_impossible f sound)

  -- .. and then no order is searched for: that of the blocks one after the other is taken, which is not possible either.
  pub flight_unsearched : f.ordered ≡ false → LongestBelowTurn f → chosen_order f ≡ one_by_one f.blocks
  flight_unsearched e short = chosen_none f e (short_unfit f short)

  -- The ceiling is never met: every pass of the plan ends by `latest_end`, 32 times both passes and the longest delay of a block, and 63 turns.
  pub flight_ends : is_possible f ≡ true → (p : ℕ) → p < 2 * f.blocks → pass_end f (chosen_passes f) p ≤ latest_end
  unfolding is_possible chosen_passes
  flight_ends e p l = least_ends f (chosen_order f) sound (chosen_proper f sound) e p l
