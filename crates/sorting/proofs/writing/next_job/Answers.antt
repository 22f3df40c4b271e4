-- `sorting::writing::next_job` meets its contract: the step's caps keep the sums from wrapping.
use Rattle.sorting.proofs.WritingLaws.{job_is_next}
use Rattle.sorting.proofs.writing.next_job.Goals as goal

pub returns : goal.returns
returns c = job_is_next _ _ _ c.scan_time.ensures c.max.ensures
