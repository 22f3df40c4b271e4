-- `page_lines::put_member_line` meets its contract: the parts of the line are stored one behind the other.
use Rattle.page_lines.proofs.LineLaws.{member_stored}
use Rattle.page_lines.proofs.put_member_line.Goals as goal

pub returns : goal.returns
returns c = member_stored _ _ _ _ _ _ _ _ _ _
    c.put_first.ensures
    c.put_columns.ensures
    c.put_last.ensures
