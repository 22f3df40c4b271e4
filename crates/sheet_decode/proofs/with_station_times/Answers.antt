-- `with_station_times` meets its contract. Invariant: the first k station times are stored.
use Rattle.sheet_decode.specs.DecodeLaws.{stored_none, stored_more, stored_all}
use Rattle.sheet_decode.proofs.with_station_times.Goals as goal

pub loop-k-init : goal.loop-k-init
loop-k-init c = search stored_none

pub loop-k-preserved : goal.loop-k-preserved
loop-k-preserved c = search stored_more

pub returns : goal.returns
returns c = search stored_all
