-- `passes_in_order` meets its contract. Invariant: the passes at positions below k come one after another in the order, none before the turn after the one
-- before is over.
use Rattle.judge_flight.specs.Laws.{ordered_none, ordered_more, ordered_wrong, ordered_all, this_start, end_before, this_end}
use Rattle.judge_flight.proofs.passes_in_order.Goals as goal

pub loop-k-init : goal.loop-k-init
loop-k-init c = search ordered_none

pub start-requires : goal.start-requires
start-requires c = search this_start

pub clear-requires : goal.clear-requires
clear-requires c = search (end_before, this_end)

pub returns-then-start-clear : goal.returns-then-start-clear
returns-then-start-clear c = search ordered_wrong

pub loop-k-preserved : goal.loop-k-preserved
loop-k-preserved c = search ordered_more

pub returns : goal.returns
returns c = search ordered_all
