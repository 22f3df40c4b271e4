-- `prefix_sums` meets its contract.
use native.Mathlib.Omega.{arith}
use Rattle.mosaic.proofs.TimeLaws.{sums_start, sums_step}
use Rattle.mosaic.proofs.ready.prefix_sums.Goals as goal

pub loop-q-init : goal.loop-q-init
loop-q-init c = sums_start _

pub loop-q-preserved : goal.loop-q-preserved
loop-q-preserved c = sums_step c.requires c.loop-q.invariant (omega (arith, c.loop-q-test.true, c.requires.len))
