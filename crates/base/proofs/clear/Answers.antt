-- `base::clear` meets its contract: after z turns the first z values are 0.
use Rattle.base.proofs.Clearing.{cleared_none, cleared_more, cleared_all}
use Rattle.base.proofs.clear.Goals as goal

pub loop-z-init : goal.loop-z-init
loop-z-init c = cleared_none _

pub loop-z-preserved : goal.loop-z-preserved
loop-z-preserved c = search cleared_more

pub returns : goal.returns
returns c = search cleared_all
