-- `page_lines::put_job_line` meets its contract: the line of a strip is a member line with its numbers.
use Rattle.page_lines.proofs.LineLaws.{job_stored}
use Rattle.page_lines.proofs.put_job_line.Goals as goal

pub returns : goal.returns
returns c = search job_stored
