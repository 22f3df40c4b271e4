-- What holds of the plan that the program takes for a sheet, for every row of bytes as a sheet: it is lawful, no plan that obeys the rules under any ceiling
-- has a smaller figure, its sorting is the one that Req 03 takes, it starts as early as any, and the flight is called impossible exactly where no timetable
-- keeps the given order or, where none is given, a proper one. `read_sheet` is what reading gives (crate sheet), `PlanUnder`, `PlanLawful`, `AllowedFor` and
-- `SortingTaken` are of crate rules, `chosen_plan` is Call.antt's. What that means for a call is said in crate demands.
use Rattle.std.specs.Prelude.{ℕ, ◌≤◌, ◌<◌, ◌≡◌, true, false, List}
use Rattle.std.proofs.Common.{◌∙◌, true≢false}
use Rattle.sheet.specs.declared.FlightSection.{FlightSection}
use Rattle.sheet.specs.declared.Sheet.{Sheet}
use Rattle.order.specs.Order.{Proper}
use Rattle.rules.specs.Mosaic.{mosaic_figure}
use Rattle.rules.specs.Sorting.{sorting_figure}
use Rattle.rules.specs.Flight.{FlightLawful, Keeps, flight_figure}
use Rattle.rules.specs.Plan.{Plan, PlanUnder}
use Rattle.rules.specs.declared.Passes.{Passes}

-- The figures of a plan.
unfoldable pub figure_of_mosaic : Sheet → Plan → ℕ
figure_of_mosaic s p = mosaic_figure s.mosaic p.batches

unfoldable pub figure_of_sorting : Sheet → Plan → ℕ
figure_of_sorting s p = sorting_figure s.sorting p.jobs

unfoldable pub figure_of_flight : Sheet → Plan → ℕ
figure_of_flight s p = flight_figure s.flight p.passes

-- No plan that obeys the rules under any ceiling has a smaller figure.
unfoldable pub Least : (Sheet → Plan → ℕ) → Sheet → Plan → Type 0
Least figure s q = (c : ℕ) (other : Plan) → PlanUnder c s other → figure s q ≤ figure s other

-- no timetable keeps an order; no proper order has a timetable
abbrev pub NoTimetable : FlightSection → ℕ → Type 0
NoTimetable f w = (ps : List Passes) → FlightLawful f ps → Keeps f w ps → ⊥

abbrev pub NoProperOrder : FlightSection → Type 0
NoProperOrder f = (w : ℕ) → Proper f.blocks w → NoTimetable f w

-- 11: "no timetable keeps the given order". 02, Req 06: "A flight without an order can now be impossible as well: .. no proper order has a timetable."
pub data Impossible (s : Sheet) : Type 0 where
  order_given_lem : s.flight.ordered ≡ true → NoTimetable s.flight s.flight.order → Impossible s
  no_order_given : s.flight.ordered ≡ false → NoProperOrder s.flight → Impossible s
