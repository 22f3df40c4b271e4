-- `sorting_search::best_interleaving` meets its contract: the table holds at the start, and the search from the greedy figure plus one returns
-- what it returns from no incumbent.
use Rattle.sorting_search.specs.Found.{lower_bound_pre_start, search_pre_start, found}
use Rattle.sorting_search.proofs.best_interleaving.Goals as goal

pub greedy-g-requires : goal.greedy-g-requires
greedy-g-requires c = search lower_bound_pre_start

pub search-requires : goal.search-requires
search-requires c = search search_pre_start

pub returns : goal.returns
returns c = search found
