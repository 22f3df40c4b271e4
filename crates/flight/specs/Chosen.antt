-- The chosen order is proper and as given. Where none is given it is possible exactly where every longest delay is at least the turn, and then no proper order
-- that is possible has a smaller figure. The idea: a block's own two passes are the turn apart in any timetable, so its longest delay is at least the turn.
use Rattle.std.specs.Prelude.{◌≡◌, Bool, ◌&&◌, Option, List, ℕ, zero, suc, ◌+◌, ◌*◌, ◌≤◌, ◌<◌, leb, get_or}
use Rattle.std.proofs.Math.Path.{refl, sym, ap}
use Rattle.std.proofs.Common.{◌∙◌, true≢false, ⊎_elim, arith, leb-true, leb-false}
use Rattle.std.proofs.Math.Bool.{true, false}
use Rattle.std.proofs.Math.Decide.{ℕ_discrete}
use Rattle.base.specs.Branch.{both}
use Rattle.order.specs.Order.{Proper}
use Rattle.sheet.specs.Sound.{FlightSound}
use Rattle.sheet.specs.declared.FlightSection.{FlightSection}
use Rattle.rules.specs.Flight.{passes_at, pass_start, second_due, DelayKept, FlightUnder, OrderAllowed}
use Rattle.rules.specs.declared.Passes.{Passes}
use Rattle.rules_laws.proofs.FlightRunning.{start_first, second_start, time_first, end_is, clear_end}
use Rattle.flight_order.specs.Constraints.{possible_in, order_figure}
use Rattle.flight_order.specs.Timetable.{least_passes}
use Rattle.flight_order.proofs.Planned.{possible_lawful}
use Rattle.flight_search.specs.Orders.{orders_of}
use Rattle.flight_search.specs.Search.{no_incumbent, order_of, searched}
use Rattle.flight_search.specs.Searched.{NoWorse, search_no_worse}
use Rattle.flight_search.specs.declared.Incumbent.{Incumbent}
use Rattle.flight.specs.Choice.{delays_fit, one_by_one, free_order, chosen_order, is_possible, least_figure}
use Rattle.flight.specs.OneByOne.{one_by_one_proper, one_by_one_possible}

-- The test of the delays decides it, one way and the other.
pub delays_long : (f : FlightSection) (k : ℕ) → delays_fit f k ≡ true → (i : ℕ) → i < k → f.turn ≤ get_or f.longest i 0
unfolding delays_fit
delays_long f zero e i l = absurd (omega arith)
delays_long f (suc k) e i l = go (ℕ_discrete i k) (both (delays_fit f k) (leb f.turn (get_or f.longest k 0)) e) (delays_long f k)
  where
    go : Dec (i ≡ k) → (delays_fit f k ≡ true) × (leb f.turn (get_or f.longest k 0) ≡ true)
        → (delays_fit f k ≡ true → (i : ℕ) → i < k → f.turn ≤ get_or f.longest i 0) → f.turn ≤ get_or f.longest i 0
    go (yes q) p before = rw q (leb-true _ _ p.1)
    go (no q) p before = before p.0 i (omega arith)

-- a block whose longest delay is shorter than the turn
pub record LongestBelowTurn (f : FlightSection) : Type 0 where
  pub block : ℕ
  pub known : block < f.blocks
  pub short : get_or f.longest block 0 < f.turn

pub delay_short : (f : FlightSection) (k : ℕ) → k ≤ f.blocks → delays_fit f k ≡ false → LongestBelowTurn f
unfolding delays_fit
delay_short f zero l e = absurd (true≢false e)
delay_short f (suc k) l e = go (delays_fit f k) refl e (delay_short f k (omega arith))
  where
    go : (b : Bool) → delays_fit f k ≡ b → b && leb f.turn (get_or f.longest k 0) ≡ false → (delays_fit f k ≡ false → LongestBelowTurn f) → LongestBelowTurn f
    go false q e before = before q
    go true q e before = record { block = k; known = omega arith; short = omega (arith, leb-false f.turn (get_or f.longest k 0) e) }

pub short_unfit : (f : FlightSection) → LongestBelowTurn f → delays_fit f f.blocks ≡ false
short_unfit f s = go (delays_fit f f.blocks) refl
  where
    go : (b : Bool) → delays_fit f f.blocks ≡ b → b ≡ false
    go true e = absurd (omega (arith, s.short, delays_long f f.blocks e s.block s.known))
    go false e = refl

-- In any timetable a block's own passes are the turn apart, so its longest delay is at least the turn.
pub own_apart : {c : ℕ} (f : FlightSection) → FlightSound f → (ps : List Passes) → FlightUnder c f ps → (i : ℕ) → i < f.blocks
    → f.turn ≤ get_or f.longest i 0
unfolding second_due
own_apart f sound ps law i l =
    ⊎_elim (λ h. omega (arith, h, kept.at_most, first, second, clear_end f ps i, end_is f ps i, time_first f i l))
    (λ h. absurd (omega (arith, h, kept.at_least, first, second, clear_end f ps (f.blocks + i), end_is f ps (f.blocks + i), sound.least_first i l)))
    (law.apart i (f.blocks + i) (omega arith) (omega arith) (λ e. omega arith))
  where
    kept : DelayKept f i (passes_at ps i)
    kept = law.delay_kept i l

    first : pass_start f ps i ≡ (passes_at ps i).first
    first = start_first f ps i l

    second : pass_start f ps (f.blocks + i) ≡ (passes_at ps i).second
    second = second_start f ps i

module _ (f : FlightSection) where
  pub chosen_given : f.ordered ≡ true → chosen_order f ≡ f.order
  unfolding chosen_order
  chosen_given e = rw e

  not_given : f.ordered ≡ false → chosen_order f ≡ free_order f
  unfolding chosen_order
  not_given e = rw e

  order_found : (b : Bool) → delays_fit f f.blocks ≡ b
      → free_order f ≡ elim b [ true ↦ order_of (searched (orders_of f) (2 * f.blocks) 0 no_incumbent) | false ↦ one_by_one f.blocks ]
  unfolding free_order
  order_found b e = ap (λ (x : Bool). elim x [ true ↦ order_of (searched (orders_of f) (2 * f.blocks) 0 no_incumbent) | false ↦ one_by_one f.blocks ]) e

  pub chosen_free : f.ordered ≡ false → delays_fit f f.blocks ≡ true → chosen_order f ≡ order_of (searched (orders_of f) (2 * f.blocks) 0 no_incumbent)
  chosen_free e long = not_given e ∙ order_found true long

  pub chosen_none : f.ordered ≡ false → delays_fit f f.blocks ≡ false → chosen_order f ≡ one_by_one f.blocks
  chosen_none e short = not_given e ∙ order_found false short

  result : Option Incumbent
  result = searched (orders_of f) (2 * f.blocks) 0 no_incumbent

  as_good : (w : ℕ) → Proper f.blocks w → possible_in f w ≡ true → NoWorse (orders_of f) w (order_of result)
  unfolding orders_of result
  as_good w proper possible = search_no_worse (orders_of f) w proper possible

  module _ (sound : FlightSound f) where
    -- Where an order is possible every longest delay is at least the turn ..
    possible_long : (w : ℕ) → Proper f.blocks w → possible_in f w ≡ true → (i : ℕ) → i < f.blocks → f.turn ≤ get_or f.longest i 0
    possible_long w proper possible = own_apart f sound (least_passes f w) (possible_lawful f w sound proper possible)

    possible_fits : (w : ℕ) → Proper f.blocks w → possible_in f w ≡ true → delays_fit f f.blocks ≡ true
    possible_fits w proper possible = go (delays_fit f f.blocks) refl
      where
        go : (b : Bool) → delays_fit f f.blocks ≡ b → b ≡ true
        go true e = refl
        go false e = let s = delay_short f f.blocks (omega arith) e in absurd (omega (arith, s.short, possible_long w proper possible s.block s.known))

    -- .. and where every longest delay is, the search finds an order.
    found : delays_fit f f.blocks ≡ true → NoWorse (orders_of f) (one_by_one f.blocks) (order_of result)
    found long = as_good (one_by_one f.blocks) (one_by_one_proper f.blocks) (one_by_one_possible f sound (delays_long f f.blocks long))

    pub chosen_proper : Proper f.blocks (chosen_order f)
    unfolding orders_of result
    chosen_proper = go f.ordered refl (delays_fit f f.blocks) refl
      where
        go : (o : Bool) → f.ordered ≡ o → (b : Bool) → delays_fit f f.blocks ≡ b → Proper f.blocks (chosen_order f)
        go true e b d = rw (chosen_given e) (sound.given e)
        go false e true d = rw (chosen_free e d) (found d).proper
        go false e false d = rw (chosen_none e d) (one_by_one_proper f.blocks)

    pub chosen_allowed : OrderAllowed f (chosen_order f)
    chosen_allowed = record { proper = chosen_proper; as_given = chosen_given }

    pub free_possible : f.ordered ≡ false → delays_fit f f.blocks ≡ true → is_possible f ≡ true
    unfolding is_possible orders_of result
    free_possible e long = rw (chosen_free e long) (found long).possible

    pub chosen_least : (w : ℕ) → OrderAllowed f w → possible_in f w ≡ true → least_figure f ≤ order_figure f w
    unfolding least_figure orders_of result
    chosen_least w allowed possible = go f.ordered refl (possible_fits w allowed.proper possible)
      where
        go : (o : Bool) → f.ordered ≡ o → delays_fit f f.blocks ≡ true → order_figure f (chosen_order f) ≤ order_figure f w
        go true e long = rw (chosen_given e, allowed.as_given e) (omega arith)
        go false e long = rw (chosen_free e long) (as_good w allowed.proper possible).figure

    pub allowed_possible : (w : ℕ) → OrderAllowed f w → possible_in f w ≡ true → is_possible f ≡ true
    unfolding is_possible
    allowed_possible w allowed possible = go f.ordered refl
      where
        go : (o : Bool) → f.ordered ≡ o → possible_in f (chosen_order f) ≡ true
        go true e = ap (possible_in f) (chosen_given e ∙ sym (allowed.as_given e)) ∙ possible
        go false e = free_possible e (possible_fits w allowed.proper possible)

    -- So a flight without an order is possible exactly where no longest delay is shorter than the turn.
    pub impossible_short : f.ordered ≡ false → is_possible f ≡ false → LongestBelowTurn f
    impossible_short e none = go (delays_fit f f.blocks) refl
      where
        go : (b : Bool) → delays_fit f f.blocks ≡ b → LongestBelowTurn f
        go true d = absurd (true≢false (sym (free_possible e d) ∙ none))
        go false d = delay_short f f.blocks (omega arith) d

    pub short_impossible : LongestBelowTurn f → is_possible f ≡ false
    unfolding is_possible
    short_impossible s = go (possible_in f (chosen_order f)) refl
      where
        go : (b : Bool) → possible_in f (chosen_order f) ≡ b → b ≡ false
        go true e = absurd (omega (arith, s.short, possible_long (chosen_order f) chosen_proper e s.block s.known))
        go false e = refl
