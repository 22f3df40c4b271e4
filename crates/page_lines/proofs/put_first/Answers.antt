-- `page_lines::put_first` meets its contract: the letter, and the first field behind it.
use Rattle.page_lines.proofs.LineLaws.{first_room, first_kept, first_stored}
use Rattle.page_lines.proofs.put_first.Goals as goal

pub put_columns-requires : goal.put_columns-requires
put_columns-requires c = search first_room

pub shape_of-page : goal.shape_of-page
shape_of-page c = search first_kept

pub returns : goal.returns
returns c = search first_stored
