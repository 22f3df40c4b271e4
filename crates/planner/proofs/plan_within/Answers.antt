-- `planner::plan_within` meets its contract: what was read is planned, and the table is cleared on every way.
use Rattle.planner.proofs.Laws.{plan_sections_pre, call_within}
use Rattle.planner.proofs.plan_within.Goals as goal

pub plan_sections-answer-requires : goal.plan_sections-answer-requires
plan_sections-answer-requires c = search plan_sections_pre

pub returns : goal.returns
returns c = search call_within
