-- `job_weight` meets its contract: a strip of a sound section has its slot in the array.
use Rattle.running.specs.FunctionLaws.{job_weight_told}
use Rattle.running.proofs.sorting.job_weight.Goals as goal

pub returns : goal.returns
returns c = search job_weight_told
