-- `MosaicPlan::add` meets its contract: the store changes no batch before.
use Rattle.mosaic.proofs.BatchLaws.{plan_added}
use Rattle.mosaic.proofs.MosaicPlan.add.Goals as goal

pub returns : goal.returns
returns c = search plan_added
