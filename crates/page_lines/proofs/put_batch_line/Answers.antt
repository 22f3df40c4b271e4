-- `page_lines::put_batch_line` meets its contract: the line of a batch is a member line with its numbers.
use Rattle.page_lines.proofs.LineLaws.{batch_stored}
use Rattle.page_lines.proofs.put_batch_line.Goals as goal

pub returns : goal.returns
returns c = search batch_stored
