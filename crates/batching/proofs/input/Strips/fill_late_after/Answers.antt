-- `fill_late_after` meets its contract.
use native.Mathlib.Omega.{arith}
use Rattle.batching.proofs.LateLaws.{after_closed, after_step, after_end}
use Rattle.batching.proofs.input.Strips.fill_late_after.Goals as goal

pub closed_figure-requires : goal.closed_figure-requires
closed_figure-requires c = after_closed c.requires c.loop-q.invariant (omega arith) _ c.fill_block.ensures

pub loop-q-preserved : goal.loop-q-preserved
loop-q-preserved c = after_step c.requires c.loop-q.invariant (omega arith)
    c.fill_block.ensures c.closed_figure.ensures

pub returns-2 : goal.returns-2
returns-2 c = after_end c.requires (after_step c.requires c.loop-q.invariant (omega arith)
    c.fill_block.ensures c.closed_figure.ensures) (omega arith)
