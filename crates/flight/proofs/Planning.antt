-- The plan put together: the least starts of the order, copied by block; and the order, given or searched for.
use mathlib.Core.Path.{◌≡◌, refl, sym, ap, subst, ◌∙◌}
use mathlib.Core.Bool.{Bool, true, false, not}
use mathlib.Core.List.{List}
use Prim.Native.Nat.{ℕ, ◌+◌, ◌-◌, ◌*◌, ◌^◌, ◌≤◌, ◌<◌}
use native.Mathlib.Omega.{arith}
use lib.ListN.{length, get_or, take, replicate}
use lib.Seq.{length-take-le}
use Rattle.std.proofs.Common.{length-take}
use borrow.Author.Tests.{ne_eqb, not-true, not-false}
use Rattle.base.specs.Listed.{listed, listed_length, listed_taken}
use Rattle.order.specs.Order.{Proper}
use Rattle.difference.specs.System.{value}
use Rattle.sheet.specs.Sound.{FlightSound}
use Rattle.sheet.specs.declared.FlightSection.{FlightSection}
use Rattle.rules.specs.Flight.{no_passes}
use Rattle.rules.specs.declared.Passes.{Passes}
use Rattle.flight_order.specs.Constraints.{ordered_flight, flight_in, free_section, section_of, least_starts, possible_in, order_figure}
use Rattle.flight_order.specs.declared.Blocks.{Blocks}
use Rattle.difference.specs.declared.Constraint.{Constraint}
use Rattle.std.specs.Prelude.{Option}
use Rattle.flight_order.specs.Timetable.{passes_with_starts, least_passes}
use Rattle.flight_order.proofs.Good.{least_low}
use Rattle.flight_order.proofs.Ceiling.{sound_good}
use Rattle.flight_order.proofs.Planned.{empty_possible, figure_none}
use Rattle.flight_order.specs.Clauses.{LeastStartsPre, Least}
use Rattle.flight_search.specs.Search.{no_incumbent, order_of, searched}
use Rattle.flight_search.specs.Orders.{orders_of}
use Rattle.flight.specs.Choice.{delays_fit, one_by_one, chosen_order, is_possible, least_figure, chosen_passes, passes_of_plan, PlannedIn, Planned}
use Rattle.flight.specs.Chosen.{chosen_given, chosen_free, chosen_none, chosen_proper}
use Rattle.flight.specs.Clauses.{Lent, PlanChosenPre, PlanInOrderPre, PlanBlocksPre, PassesAtPre, PassesAt}
use Rattle.flight.proofs.Copying.{none_at}
use Rattle.flight_search.specs.declared.Incumbent.{Incumbent}
use Rattle.flight.specs.declared.FlightPlan.{FlightPlan}

module _ (f : FlightSection) (w : ℕ) {rows₀ : List Constraint} {starts₀ : List ℕ} (pre : PlanInOrderPre f w rows₀ starts₀) where
  pub least_starts_pre : LeastStartsPre (ordered_flight f.blocks w f.turn f.first f.second f.shortest f.longest) rows₀ starts₀
  least_starts_pre = record {
    room = record { good = sound_good f w pre.plan.blocks.sound pre.plan.blocks.some pre.proper; rows_length = pre.plan.rows_length };
    starts_length = pre.plan.starts_length;
  }

  module _ {rows : List Constraint} {starts : List ℕ} {found : Bool}
      (least : Least (ordered_flight f.blocks w f.turn f.first f.second f.shortest f.longest) rows starts found) where
    pub plan_figure_fits : get_or starts (2 * f.blocks - 1) 0 + get_or f.second (f.blocks - 1) 0 < 2 ^ 64
    plan_figure_fits =
        rw least.starts
        (omega (
          arith,
          least_low (ordered_flight f.blocks w f.turn f.first f.second f.shortest f.longest) least_starts_pre.room.good (2 * f.blocks - 1),
          pre.plan.blocks.sound.most_second (f.blocks - 1),
        ))

    pub passes_at_pre : length starts ≡ length starts₀ → PassesAtPre starts f.blocks
    passes_at_pre e = record { few = pre.plan.blocks.sound.most_blocks_holds; within = omega (arith, pre.plan.starts_length, e) }

    blocks_long : (blocks : List Passes) → PassesAt starts f.blocks f.blocks blocks → f.blocks ≤ length blocks
    blocks_long blocks a =
        omega (arith, length-take f.blocks blocks, ap length a.passes, listed_length {A = Passes} f.blocks (λ k. record { first = value starts k; second = value starts (f.blocks + k) }))

    pub plan_made : (blocks : List Passes) → PassesAt starts f.blocks f.blocks blocks
        → PlannedIn f w
        (record { possible = found; figure = get_or starts (2 * f.blocks - 1) 0 + get_or f.second (f.blocks - 1) 0; order = w; blocks = blocks })
    unfolding possible_in order_figure least_starts passes_of_plan least_passes passes_with_starts
    plan_made blocks a = record {
      possible = least.result;
      figure = rw (ne_eqb f.blocks 0 (λ e. omega (arith, pre.plan.blocks.some)), least.starts);
      order = refl;
      passes =
          listed_taken f.blocks blocks no_passes (blocks_long blocks a)
          ∙ a.passes ∙ ap (λ (t : List ℕ). listed f.blocks (λ i. record { first = value t i; second = value t (f.blocks + i) })) least.starts;
      within = blocks_long blocks a;
      no_more = a.no_more;
    }

-- The blocks of a flight, lent for its constraints in an order.
module _ {f : FlightSection} {b : Blocks} (lent : Lent f b) where
  pub lent_starts_pre : {w : ℕ} {rows : List Constraint} {starts : List ℕ} → PlanInOrderPre f w rows starts
      → LeastStartsPre (flight_in (section_of b) w) rows starts
  lent_starts_pre {w} {rows} {starts} pre = subst (λ (s : FlightSection). LeastStartsPre (flight_in s w) rows starts) (sym lent.section) (least_starts_pre f w pre)

  pub lent_least : {w : ℕ} {rows : List Constraint} {starts : List ℕ} {found : Bool} → Least (flight_in (section_of b) w) rows starts found
      → Least (flight_in f w) rows starts found
  lent_least {w} {rows} {starts} {found} least = subst (λ (s : FlightSection). Least (flight_in s w) rows starts found) lent.section least

module _ (f : FlightSection) where
  pub given_order : f.ordered ≡ true → f.order ≡ chosen_order f
  given_order e = sym (chosen_given f e)

  module _ (fits : Bool) (d : fits ≡ delays_fit f f.blocks) (e : f.ordered ≡ false) where
    pub searched_order : (best : Option Incumbent) → not fits ≡ false
        → best ≡ searched (orders_of (free_section f.blocks f.turn f.first f.second f.shortest f.longest)) (2 * f.blocks) 0 no_incumbent
        → order_of best ≡ chosen_order f
    unfolding orders_of possible_in order_figure least_starts
    searched_order best h q = ap order_of q ∙ sym (chosen_free f e (sym d ∙ not-false fits h))

    pub order_unsearched : (w : ℕ) → not fits ≡ true → w ≡ one_by_one f.blocks → w ≡ chosen_order f
    order_unsearched w h q = q ∙ sym (chosen_none f e (sym d ∙ not-true fits h))

-- The plan in the chosen order is the plan.
module _ (f : FlightSection) (w : ℕ) (chosen : w ≡ chosen_order f) where
  pub plan_in_order_pre : {rows : List Constraint} {starts : List ℕ} → PlanChosenPre f rows starts → PlanInOrderPre f w rows starts
  plan_in_order_pre pre = record { plan = pre; proper = rw chosen (chosen_proper f pre.blocks.sound) }

  pub plan_chosen : (r : FlightPlan) → PlannedIn f w r → Planned f r
  unfolding is_possible least_figure chosen_passes
  plan_chosen r p = subst (λ (z : ℕ). PlannedIn f z r) chosen p

module _ (f : FlightSection) (rows : List Constraint) (starts : List ℕ) (pre : PlanBlocksPre f rows starts) where
  pub rows_part : 4 * f.blocks - 1 ≡ length (take (4 * f.blocks - 1) rows)
  rows_part = sym (length-take-le (4 * f.blocks - 1) rows (omega (arith, pre.rows_long, pre.blocks.sound.most_blocks_holds)))

  pub starts_part : 2 * f.blocks ≡ length (take (2 * f.blocks) starts)
  starts_part = sym (length-take-le (2 * f.blocks) starts (omega (arith, pre.starts_long, pre.blocks.sound.most_blocks_holds)))

  pub plan_chosen_pre : PlanChosenPre f (take (4 * f.blocks - 1) rows) (take (2 * f.blocks) starts)
  plan_chosen_pre = record { blocks = pre.blocks; rows_length = sym rows_part; starts_length = sym starts_part }

-- No block, no passes.
pub plan_none : (f : FlightSection) → FlightSound f → f.blocks ≡ 0
    → Planned f (record { possible = true; figure = 0; order = 0; blocks = replicate 32 (record { first = 0; second = 0 }) })
unfolding is_possible least_figure chosen_passes passes_of_plan least_passes passes_with_starts listed no_passes
plan_none f sound e = record {
  possible = sym (empty_possible f (chosen_order f) sound proper (λ l. omega arith));
  figure = sym (figure_none f (chosen_order f) sound proper (λ l. omega arith));
  order = zero_order;
  passes = rw e refl;
  within = omega (arith, e);
  no_more = λ i l. none_at 32 i;
}
  where
    proper : Proper f.blocks (chosen_order f)
    proper = chosen_proper f sound

    none : 2 * f.blocks ≡ 0
    none = omega arith

    low : chosen_order f < 2 ^ 0
    low = rw none at proper.no_higher

    zero_order : 0 ≡ chosen_order f
    zero_order = omega (arith, low)
