-- `page::page` meets its contract: too small a buffer, then a plan that the judge does not allow, else the page.
use Rattle.page.specs.PageLaws.{page_small, page_refused, print_asked, page_printed}
use Rattle.page.proofs.page.Goals as goal

pub returns-then-page-lt-PAGE_LENGTH : goal.returns-then-page-lt-PAGE_LENGTH
returns-then-page-lt-PAGE_LENGTH c = rw c.number.ensures (page_small _ _ _ c.if-page-lt-PAGE_LENGTH.true)

pub returns-then-e-ne0 : goal.returns-then-e-ne0
returns-then-e-ne0 c = search page_refused

pub print_sections-written-requires : goal.print_sections-written-requires
print_sections-written-requires c = search print_asked

pub returns : goal.returns
returns c = search page_printed
