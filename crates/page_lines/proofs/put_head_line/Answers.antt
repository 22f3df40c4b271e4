-- `page_lines::put_head_line` meets its contract: the letter, the figure and the line feed, one behind the other.
use Rattle.page_lines.proofs.LineLaws.{head_room, head_feed, head_kept, head_stored}
use Rattle.page_lines.proofs.put_head_line.Goals as goal

pub put_columns-requires : goal.put_columns-requires
put_columns-requires c = search head_room

pub bounds-page-at-2 : goal.bounds-page-at-2
bounds-page-at-2 c = search head_feed

pub shape_of-page : goal.shape_of-page
shape_of-page c = search head_kept

pub returns : goal.returns
returns c = search head_stored
