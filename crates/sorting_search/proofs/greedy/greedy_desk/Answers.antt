-- `sorting_search::greedy::greedy_desk` meets its contract: the first desk, and then the better one of it and each later desk.
use Rattle.sorting_search.specs.Greedy.{better_desk_pre_second, better_desk_pre_third, greedy_is}
use borrow.Author.Rules.{rules}
use Rattle.sorting_search.proofs.greedy.greedy_desk.Goals as goal

pub better_desk-b-requires : goal.better_desk-b-requires
better_desk-b-requires c = search (better_desk_pre_second, rules)

pub better_desk-requires : goal.better_desk-requires
better_desk-requires c = search (better_desk_pre_third, rules)

pub returns : goal.returns
returns c = search greedy_is
