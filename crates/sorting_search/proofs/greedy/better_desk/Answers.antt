-- `sorting_search::greedy::better_desk` meets its contract: both desks have a strip left where they are compared.
use Rattle.sorting_search.specs.Greedy.{serve_if, lower_bound_pre_step, better_other, better_chosen, better_none}
use Rattle.sorting_search.proofs.greedy.better_desk.Goals as goal

pub lower_bound-by_chosen-requires : goal.lower_bound-by_chosen-requires
lower_bound-by_chosen-requires c = search lower_bound_pre_step

pub lower_bound-by_other-requires : goal.lower_bound-by_other-requires
lower_bound-by_other-requires c = search (lower_bound_pre_step, serve_if)

pub returns-then-not-strip_left : goal.returns-then-not-strip_left
returns-then-not-strip_left c = search better_none

pub returns-then-by_other-by_chosen : goal.returns-then-by_other-by_chosen
returns-then-by_other-by_chosen c = search better_other

pub returns-else-by_other-by_chosen : goal.returns-else-by_other-by_chosen
returns-else-by_other-by_chosen c = search better_chosen
