-- `put_line` meets its contract: the member that was read is a strip of the plan.
use Rattle.page_sections.specs.SectionLaws.{job_put}
use Rattle.page_sections.proofs.JobMember.put_line.Goals as goal

pub returns : goal.returns
returns c = search job_put
