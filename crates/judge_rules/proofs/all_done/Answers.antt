-- `all_done` meets its contract. Invariant: the desks before d have had all their strips.
use Rattle.judge_rules.specs.Laws.{done_none, done_more, done_wrong, done_all}
use Rattle.judge_rules.proofs.all_done.Goals as goal

pub loop-d-init : goal.loop-d-init
loop-d-init c = search done_none

pub returns-then-done-d : goal.returns-then-done-d
returns-then-done-d c = search done_wrong

pub loop-d-preserved : goal.loop-d-preserved
loop-d-preserved c = search done_more

pub returns : goal.returns
returns c = search done_all
