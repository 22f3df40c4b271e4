-- `wait_for_station` meets its contract.
use Rattle.mosaic.proofs.TimeLaws.{wait_start, wait_step}
use Rattle.mosaic.proofs.ready.wait_for_station.Goals as goal

pub loop-j-init : goal.loop-j-init
loop-j-init c = wait_start c.requires

pub loop-j-preserved : goal.loop-j-preserved
loop-j-preserved c = wait_step c.requires c.loop-j.invariant c.loop-j-test.true c.max.ensures
