-- `put_line` meets its contract: the member that was read is a batch of the plan.
use Rattle.page_sections.specs.SectionLaws.{batch_put}
use Rattle.page_sections.proofs.BatchMember.put_line.Goals as goal

pub returns : goal.returns
returns c = search batch_put
