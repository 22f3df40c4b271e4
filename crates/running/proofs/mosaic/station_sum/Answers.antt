-- `station_sum` meets its contract. Invariant: `sum` is the sum of the first i times of the station, each at most the greatest time.
use Rattle.running.specs.FunctionLaws.{sum_none, station_more, station_fits, station_all}
use Rattle.running.proofs.mosaic.station_sum.Goals as goal

pub loop-i-init : goal.loop-i-init
loop-i-init c = search sum_none

pub overflow_add-sum-in-loop-i : goal.overflow_add-sum-in-loop-i
overflow_add-sum-in-loop-i c = search station_fits

pub loop-i-preserved : goal.loop-i-preserved
loop-i-preserved c = search station_more

pub returns : goal.returns
returns c = search station_all
