-- `sorting_search::greedy::greedy` meets its contract. The loop's invariant: the greedy list of the present state is the rest of that of the first.
use Rattle.sorting_search.specs.Greedy.{Leads}
use Rattle.sorting_search.proofs.greedy.greedy.Given as goal

abbrev pub invariant-loop-s : goal.invariant-loop-s
invariant-loop-s l = Leads l.jobs l.initial.s l.s l.m

abbrev pub decreases-loop-s : goal.decreases-loop-s
decreases-loop-s l = l.s.left
