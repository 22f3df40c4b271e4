-- `put_line` meets its contract: the member that was read is a block of the plan.
use Rattle.page_sections.specs.SectionLaws.{block_put}
use Rattle.page_sections.proofs.PassesMember.put_line.Goals as goal

pub returns : goal.returns
returns c = search block_put
