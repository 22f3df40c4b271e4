-- `plan_read::number_behind` meets its contract: past the end of the plan the number is 0.
use Rattle.plan_read.specs.Laws.{past_behind}
use Rattle.plan_read.proofs.number_behind.Goals as goal

pub returns-then-plan-at : goal.returns-then-plan-at
returns-then-plan-at c = search past_behind
