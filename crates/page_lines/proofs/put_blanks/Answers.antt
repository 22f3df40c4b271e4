-- `page_lines::put_blanks` meets its contract: the four bytes of the second field are spaces.
use borrow.Author.Rules.{rules}
use Rattle.page_lines.proofs.LineLaws.{blanks_stored}
use Rattle.page_lines.proofs.put_blanks.Goals as goal

pub returns : goal.returns
returns c = blanks_stored _ _ _ c.requires (search rules)
