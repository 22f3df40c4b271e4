-- `planner::plan_sections` meets its contract: each section is planned as its crate promises, and the joined bytes are the chosen plan.
use Rattle.planner.proofs.Laws.{sheet_refused, order_impossible_lem, plan_flight_pre, plan_mosaic_pre, plan_sorting_pre, write_plan_pre, sheet_planned}
use Rattle.planner.proofs.plan_sections.Goals as goal

pub returns-then-s-ne0 : goal.returns-then-s-ne0
returns-then-s-ne0 c = search sheet_refused

pub plan_flight-flight-requires : goal.plan_flight-flight-requires
plan_flight-flight-requires c = search plan_flight_pre

pub returns-then-not-flight : goal.returns-then-not-flight
returns-then-not-flight c = search order_impossible_lem

pub plan_mosaic-mosaic-requires : goal.plan_mosaic-mosaic-requires
plan_mosaic-mosaic-requires c = search plan_mosaic_pre

pub plan_sorting-sorting-requires : goal.plan_sorting-sorting-requires
plan_sorting-sorting-requires c = search plan_sorting_pre

pub write_plan-length-requires : goal.write_plan-length-requires
write_plan-length-requires c = search write_plan_pre

pub returns : goal.returns
returns c = sheet_planned _ _ _ c.requires
    c.if-s-ne0.false _
    c.plan_mosaic-mosaic.ensures _ _
    c.plan_sorting-sorting.ensures _
    c.plan_flight-flight.ensures
    c.if-not-flight.false _ _
    c.write_plan-length.ensures
