-- `bench_work_start` meets its contract: the later of the end of the mount and the ready time is when the bench work starts, and it fits.
use Rattle.running.specs.FunctionLaws.{work_start_told}
use Rattle.running.proofs.mosaic.bench_work_start.Goals as goal

pub returns : goal.returns
returns c = search work_start_told
