-- `flight_search::search`: each of the four ways is a step of the definition.
use native.Mathlib.Omega.{arith}
use Rattle.flight_search.proofs.Searching.{try_order_pre, firsts_few, first_search_pre, only_second_search_pre}
use Rattle.flight_search.proofs.Searching.{second_search_pre, only_second, only_first, first_then_second, search_end}
use Rattle.flight_search.proofs.+search.Goals as goal

pub try_order-requires : goal.try_order-requires
try_order-requires t c = search try_order_pre

pub returns-then-left-eq0 : goal.returns-then-left-eq0
returns-then-left-eq0 t c = search search_end

pub overflow_sub-seconds : goal.overflow_sub-seconds
overflow_sub-seconds t c = search firsts_few

pub search-requires : goal.search-requires
search-requires t c = (omega arith, search only_second_search_pre)

pub returns-then-blocks-firsts : goal.returns-then-blocks-firsts
returns-then-blocks-firsts t c = search only_second

pub search-after-requires : goal.search-after-requires
search-after-requires t c = (omega arith, search first_search_pre)

pub returns-then-firsts-seconds : goal.returns-then-firsts-seconds
returns-then-firsts-seconds t c = search only_first

pub search-requires-2 : goal.search-requires-2
search-requires-2 t c = (omega arith, search second_search_pre)

pub returns : goal.returns
returns t c = search first_then_second
