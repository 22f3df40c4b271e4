-- `page_lines::put_last` meets its contract: two times and the line feed, one behind the other.
use Rattle.page_lines.proofs.LineLaws.{last_feed, last_kept, last_stored}
use Rattle.page_lines.proofs.put_last.Goals as goal

pub bounds-page-at : goal.bounds-page-at
bounds-page-at c = search last_feed

pub shape_of-page : goal.shape_of-page
shape_of-page c = search last_kept

pub returns : goal.returns
returns c = search last_stored
