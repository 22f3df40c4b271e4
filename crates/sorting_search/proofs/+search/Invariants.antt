-- `sorting_search::search` meets its contract, by the number of strips left, which falls. The loop's invariant: incumbent and table are those of the search
-- with its cuts after the desks passed, the incumbent is that of the search without cuts, and the table holds for it. A cut keeps the incumbent, as the search
-- without cuts does;
-- the label is stored once the loop is through.
use Rattle.sorting_search.specs.Table.{Branched}
use Rattle.sorting_search.proofs.+search.Given as goal

abbrev pub decreases-search : goal.decreases-search
decreases-search l = l.s.left

abbrev pub invariant-loop-d : goal.invariant-loop-d
invariant-loop-d l = Branched l.jobs l.s l.initial.b l.initial.m l.m l.d l.b
