-- `scan_time` meets its contract: a strip of a sound section has its slot in the array.
use Rattle.running.specs.FunctionLaws.{scan_told}
use Rattle.running.proofs.sorting.scan_time.Goals as goal

pub returns : goal.returns
returns c = search scan_told
