-- `ready_times` meets its contract.
use native.Mathlib.Omega.{arith}
use Rattle.mosaic.proofs.TimeLaws.{ready_start, ready_step, ready_end}
use Rattle.mosaic.proofs.ready.ready_times.Goals as goal

pub loop-k-init : goal.loop-k-init
loop-k-init c = ready_start _

pub loop-k-preserved : goal.loop-k-preserved
loop-k-preserved c = ready_step c.loop-k.invariant c.wait_for_station.ensures

pub returns : goal.returns
returns c = ready_end c.loop-k.invariant (omega arith)
