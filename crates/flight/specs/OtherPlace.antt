-- The place that a flight section keeps for 11 has no part in its plan: with another one, order, possibility and passes are the same.
use Rattle.std.specs.Prelude.{◌≡◌, Bool, ◌&&◌, List, get_or}
use Rattle.std.proofs.Math.Path.{refl, sym, ap}
use Rattle.std.proofs.Common.{◌∙◌}
use Rattle.std.proofs.Math.Bool.{true, false}
use Prim.Native.Nat.{ℕ, zero, suc}
use Rattle.std.proofs.Math.Dec.{leb}
use Rattle.sheet.specs.SameContent.{with_place}
use Rattle.sheet.specs.declared.FlightSection.{FlightSection}
use Rattle.rules.specs.Flight.{pass_start, pass_time, pass_end, flight_figure}
use Rattle.rules.specs.declared.Passes.{Passes}
use Rattle.flight_order.specs.Constraints.{least_starts, possible_in, order_figure}
use Rattle.flight_order.specs.Timetable.{least_passes}
use Rattle.flight_search.specs.Orders.{orders_of}
use Rattle.flight.specs.Choice.{delays_fit, chosen_order, is_possible, chosen_passes}
use Rattle.flight.specs.Chosen.{chosen_given, chosen_free, chosen_none}

module _ (place : ℕ) (f : FlightSection) where
  fit_placed : (k : ℕ) → delays_fit (with_place place f) k ≡ delays_fit f k
  unfolding delays_fit
  fit_placed zero = refl
  fit_placed (suc k) = ap (λ b. b && leb f.turn (get_or f.longest k 0)) (fit_placed k)

  pub order_placed : chosen_order (with_place place f) ≡ chosen_order f
  unfolding orders_of possible_in order_figure least_starts
  order_placed = go f.ordered refl (delays_fit f f.blocks) refl
    where
      go : (o : Bool) → f.ordered ≡ o → (b : Bool) → delays_fit f f.blocks ≡ b → chosen_order (with_place place f) ≡ chosen_order f
      go true e b d = chosen_given (with_place place f) e ∙ sym (chosen_given f e)
      go false e true d = chosen_free (with_place place f) e (fit_placed f.blocks ∙ d) ∙ sym (chosen_free f e d)
      go false e false d = chosen_none (with_place place f) e (fit_placed f.blocks ∙ d) ∙ sym (chosen_none f e d)

  pub possible_placed : is_possible (with_place place f) ≡ is_possible f
  unfolding is_possible possible_in
  possible_placed = ap (possible_in f) order_placed

  pub passes_placed : chosen_passes (with_place place f) ≡ chosen_passes f
  unfolding chosen_passes least_passes least_starts
  passes_placed = ap (least_passes f) order_placed

  pub figure_placed : (ps : List Passes) → flight_figure (with_place place f) ps ≡ flight_figure f ps
  unfolding flight_figure pass_end pass_start pass_time
  figure_placed ps = refl
