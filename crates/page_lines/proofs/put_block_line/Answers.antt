-- `page_lines::put_block_line` meets its contract: the parts of the line are stored one behind the other, with blanks for its second field.
use Rattle.page_lines.proofs.LineLaws.{block_stored}
use Rattle.page_lines.proofs.put_block_line.Goals as goal

pub returns : goal.returns
returns c = block_stored _ _ _ _ _ _ _
    c.put_first.ensures
    c.put_blanks.ensures
    c.put_last.ensures
