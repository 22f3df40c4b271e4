-- `choose_batches` meets its contract. Invariant: the batches written, with those that the recursion takes after them, are all that it takes.
use Rattle.mosaic.proofs.BatchLaws.{plan_start, plan_add, plan_step, plan_end}
use Rattle.mosaic.proofs.batches.choose_batches.Goals as goal

pub loop-i-init : goal.loop-i-init
loop-i-init c = plan_start

pub add-requires : goal.add-requires
add-requires c = plan_add c.loop-i.invariant
    c.loop-i-test.true c.first_batch-q.ensures _ c.max-begin.ensures _ _

pub loop-i-preserved : goal.loop-i-preserved
loop-i-preserved c = plan_step c.loop-i.invariant
    c.loop-i-test.true c.first_batch-q.ensures c.max-begin.ensures
    c.add.ensures

pub returns : goal.returns
returns c = plan_end c.loop-i.invariant c.loop-i-test.false
