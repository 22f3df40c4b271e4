-- One order tried, as the code does it: what the least starts of the order give for the incumbent.
use mathlib.Core.Path.{◌≡◌, sym, ap, ◌∙◌}
use mathlib.Core.Bool.{Bool, true, false, not}
use mathlib.Core.List.{List}
use Prim.Native.Nat.{ℕ, ◌+◌, ◌-◌, ◌*◌, ◌^◌, ◌≤◌, ◌<◌}
use native.Mathlib.Omega.{arith}
use lib.ListN.{get_or}
use borrow.Author.Tests.{not-true, not-false, lt-ltb, le-ltb, ne_eqb}
use Rattle.std.specs.Prelude.{Option, None, Some}
use Rattle.order.specs.Order.{Proper}
use Rattle.difference.specs.declared.Constraint.{Constraint}
use Rattle.sheet.specs.declared.FlightSection.{FlightSection}
use Rattle.flight_order.specs.Constraints.{flight_in, least_starts, possible_in, order_figure}
use Rattle.flight_order.specs.Good.{Good}
use Rattle.flight_order.proofs.Good.{least_low}
use Rattle.flight_order.specs.Clauses.{LeastStartsPre, Least}
use Rattle.flight_search.specs.Search.{Orders, below, improves, tried}
use Rattle.flight_search.specs.Orders.{orders_of}
use Rattle.flight_search.specs.Clauses.{BlockTimes, TryOrderPre}
use Rattle.flight_search.specs.declared.Incumbent.{Incumbent}

-- An order that is not possible, or has no smaller figure, leaves the incumbent; another replaces it.
module _ (O : Orders) (w : ℕ) (b : Option Incumbent) where
  abbrev found : Option Incumbent
  found = Some (record { figure = O.figure w; order = w })

  stays : improves O w b ≡ false → b ≡ tried O w b
  unfolding tried
  stays e = rw e

  replaced : improves O w b ≡ true → found ≡ tried O w b
  unfolding tried
  replaced e = rw e

pub times_good : {f : FlightSection} {w : ℕ} → BlockTimes f → Proper f.blocks w → Good (flight_in f w)
times_good times proper = record {
  some = times.some;
  few = times.few;
  proper = proper;
  first_long = times.first_long;
  second_long = times.second_long;
  shortest_long = times.shortest_long;
  longest_long = times.longest_long;
  turn_low = omega (arith, times.turn_low);
  first_low = times.first_low;
  second_low = times.second_low;
  shortest_low = times.shortest_low;
  longest_low = times.longest_low;
}

pub least_starts_pre : {f : FlightSection} {w : ℕ} {rows : List Constraint} {starts : List ℕ} → TryOrderPre f w rows starts
    → LeastStartsPre (flight_in f w) rows starts
least_starts_pre pre = record {
  room = record { good = times_good pre.room.times pre.proper; rows_length = pre.room.rows_length };
  starts_length = pre.room.starts_length;
}

module _ {f : FlightSection} {w : ℕ} (times : BlockTimes f) (proper : Proper f.blocks w)
    {rows : List Constraint} {starts : List ℕ} {possible : Bool} (least : Least (flight_in f w) rows starts possible) where
  pub figure_fits : get_or starts (2 * f.blocks - 1) 0 + get_or f.second (f.blocks - 1) 0 < 2 ^ 64
  figure_fits =
      rw least.starts
      (omega (
        arith,
        least_low (flight_in f w) (times_good times proper) (2 * f.blocks - 1),
        times.second_low (f.blocks - 1),
      ))

  same_possible : (orders_of f).possible w ≡ possible
  unfolding orders_of possible_in
  same_possible = sym least.result

  same_figure : (orders_of f).figure w ≡ get_or starts (2 * f.blocks - 1) 0 + get_or f.second (f.blocks - 1) 0
  unfolding orders_of order_figure least_starts
  same_figure = rw (ne_eqb f.blocks 0 (λ e. omega (arith, times.some)), least.starts)

  pub try_impossible : (b : Option Incumbent) → not possible ≡ true → b ≡ tried (orders_of f) w b
  unfolding improves
  try_impossible b e = stays (orders_of f) w b (rw (same_possible, not-true possible e))

  module _ (e : not possible ≡ false) where
    decided : (b : Option Incumbent) (i : Bool) → below (get_or starts (2 * f.blocks - 1) 0 + get_or f.second (f.blocks - 1) 0) b ≡ i
        → improves (orders_of f) w b ≡ i
    unfolding improves
    decided b i d = rw (same_possible, not-false possible e, same_figure) d

    replaces : (b : Option Incumbent) → below (get_or starts (2 * f.blocks - 1) 0 + get_or f.second (f.blocks - 1) 0) b ≡ true
        → Some (record { figure = get_or starts (2 * f.blocks - 1) 0 + get_or f.second (f.blocks - 1) 0; order = w }) ≡ tried (orders_of f) w b
    replaces b d = ap (λ (v : ℕ). Some (record { figure = v; order = w })) (sym same_figure) ∙ replaced (orders_of f) w b (decided b true d)

    pub try_first : (b : Option Incumbent) → b ≡ None
        → Some (record { figure = get_or starts (2 * f.blocks - 1) 0 + get_or f.second (f.blocks - 1) 0; order = w }) ≡ tried (orders_of f) w b
    try_first b q = replaces b (rw q)

    module _ (b : Option Incumbent) (c : Incumbent) (q : b ≡ Some c) where
      pub try_stays : c.figure ≤ get_or starts (2 * f.blocks - 1) 0 + get_or f.second (f.blocks - 1) 0
          → ◌≡◌ {A = Option Incumbent} (Some c) (tried (orders_of f) w b)
      try_stays l = sym q ∙ stays (orders_of f) w b (decided b false (rw q (le-ltb _ c.figure l)))

      pub try_replaces : get_or starts (2 * f.blocks - 1) 0 + get_or f.second (f.blocks - 1) 0 < c.figure
          → Some (record { figure = get_or starts (2 * f.blocks - 1) 0 + get_or f.second (f.blocks - 1) 0; order = w }) ≡ tried (orders_of f) w b
      try_replaces l = replaces b (rw q (lt-ltb _ c.figure l))
