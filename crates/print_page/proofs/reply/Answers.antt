-- `print_page::reply` meets its contract: what the call leaves, and what is put for its answer.
use Rattle.print_page.specs.Laws.{page_asked, page_replied}
use Rattle.print_page.proofs.reply.Goals as goal

pub put_reply-requires : goal.put_reply-requires
put_reply-requires c = search page_asked

pub returns : goal.returns
returns c = search page_replied
