-- `planner::plan` meets its contract: the two buffers first, then the call with the part of the table that it works in.
use Rattle.planner.proofs.Laws.{no_table, no_room, part_long, plan_within_pre, called}
use Rattle.planner.proofs.plan.Goals as goal

pub returns-then-table-lt-TABLE_LENGTH : goal.returns-then-table-lt-TABLE_LENGTH
returns-then-table-lt-TABLE_LENGTH c = search no_table

pub returns-then-plan-lt-PLAN_LENGTH : goal.returns-then-plan-lt-PLAN_LENGTH
returns-then-plan-lt-PLAN_LENGTH c = search no_room

pub slice_bounds-plan_within-end-2 : goal.slice_bounds-plan_within-end-2
slice_bounds-plan_within-end-2 c = search part_long

pub plan_within-requires : goal.plan_within-requires
plan_within-requires c = search plan_within_pre

pub returns : goal.returns
returns c = search called
