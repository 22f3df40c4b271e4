-- `ready_time` meets its contract. Invariant: `greatest` is the greatest sum of the first k stations.
use Rattle.running.specs.FunctionLaws.{greatest_none, greatest_more, greatest_all}
use Rattle.running.proofs.mosaic.ready_time.Goals as goal

pub loop-k-init : goal.loop-k-init
loop-k-init c = greatest_none _ _

pub loop-k-preserved : goal.loop-k-preserved
loop-k-preserved c = search greatest_more

pub returns : goal.returns
returns c = search greatest_all
