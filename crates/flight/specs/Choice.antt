-- The plan: its order, which is the given one or the one that the search takes, and the least starts in that order. Where no order is given and none is
-- possible, which the longest delays tell, there is no search.
use Rattle.std.specs.Prelude.{◌≡◌, Bool, true, false, ◌&&◌, List, ℕ, zero, suc, ◌+◌, ◌*◌, ◌^◌, ◌≤◌, leb, length, get_or}
use Rattle.base.specs.Listed.{listed}
use Rattle.sheet.specs.declared.FlightSection.{FlightSection}
use Rattle.rules.specs.Flight.{no_passes}
use Rattle.rules.specs.declared.Passes.{Passes}
use Rattle.flight_order.specs.Constraints.{possible_in, order_figure}
use Rattle.flight_order.specs.Timetable.{least_passes}
use Rattle.flight_search.specs.Search.{no_incumbent, order_of, searched}
use Rattle.flight_search.specs.Orders.{orders_of}
use Rattle.flight.specs.declared.FlightPlan.{FlightPlan}

-- the longest delays of the first k blocks are no shorter than the turn
unfoldable pub delays_fit : FlightSection → ℕ → Bool
delays_fit f zero = true
delays_fit f (suc k) = delays_fit f k && leb f.turn (get_or f.longest k 0)

-- the order of i blocks one after the other
unfoldable pub one_by_one : ℕ → ℕ
one_by_one zero = 0
one_by_one (suc i) = one_by_one i + 2 ^ (2 * i + 1)

-- The order of a flight without a given one. Where a longest delay is shorter than the turn no order is possible (`flight_free` of Theorems.antt): then none is
-- searched for, and that of the blocks one after the other is taken, which like every order is impossible.
unfoldable pub free_order : FlightSection → ℕ
free_order f =
    elim (delays_fit f f.blocks) [ true ↦ order_of (searched (orders_of f) (2 * f.blocks) 0 no_incumbent) | false ↦ one_by_one f.blocks ]

-- 01: "A given order must be kept; otherwise any proper order may be chosen."
unfoldable pub chosen_order : FlightSection → ℕ
chosen_order f = elim f.ordered [ true ↦ f.order | false ↦ free_order f ]

unfoldable pub is_possible : FlightSection → Bool
is_possible f = possible_in f (chosen_order f)

-- The figure in that order (in the literature: the least makespan).
unfoldable pub least_figure : FlightSection → ℕ
least_figure f = order_figure f (chosen_order f)

unfoldable pub chosen_passes : FlightSection → List Passes
chosen_passes f = least_passes f (chosen_order f)

-- The passes of the n blocks of a plan: the first entries of its array.
unfoldable pub passes_of_plan : ℕ → FlightPlan → List Passes
passes_of_plan n r = listed n (λ k. get_or r.blocks k no_passes)

-- A plan r of the flight f says this: whether it is possible, its figure, its order, and its passes, with zeros after them.
pub record PlanSays (f : FlightSection) (p : Bool) (v w : ℕ) (ps : List Passes) (r : FlightPlan) : Type 0 where
  pub possible : r.possible ≡ p
  pub figure : r.figure ≡ v
  pub order : r.order ≡ w
  pub passes : passes_of_plan f.blocks r ≡ ps
  pub within : f.blocks ≤ length r.blocks
  pub no_more : (i : ℕ) → f.blocks ≤ i → get_or r.blocks i no_passes ≡ no_passes

-- The plan in one order. Where the order is not possible, figure and passes are no timetable's.
abbrev pub PlannedIn : FlightSection → ℕ → FlightPlan → Type 0
PlannedIn f w r = PlanSays f (possible_in f w) (order_figure f w) w (least_passes f w) r

-- The planner's promise.
abbrev pub Planned : FlightSection → FlightPlan → Type 0
Planned f r = PlanSays f (is_possible f) (least_figure f) (chosen_order f) (chosen_passes f) r
