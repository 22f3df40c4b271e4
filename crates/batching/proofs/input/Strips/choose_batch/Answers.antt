-- `choose_batch` meets its contract.
use native.Mathlib.Omega.{arith}
use Rattle.batching.proofs.ChoiceLaws.{taken_start, taken_less, taken_more, taken_end}
use Rattle.batching.proofs.input.Strips.choose_batch.Goals as goal

pub loop-q-init : goal.loop-q-init
loop-q-init c = taken_start c.requires c.candidate.ensures

pub loop-q-preserved-then-figure-best : goal.loop-q-preserved-then-figure-best
loop-q-preserved-then-figure-best c = taken_less c.requires c.loop-q.invariant (omega arith)
    c.candidate-figure.ensures c.if-figure-best.true

pub loop-q-preserved : goal.loop-q-preserved
loop-q-preserved c = taken_more c.requires c.loop-q.invariant (omega arith)
    c.candidate-figure.ensures c.if-figure-best.false

pub returns : goal.returns
returns c = taken_end c.requires c.loop-q.invariant (omega arith)
