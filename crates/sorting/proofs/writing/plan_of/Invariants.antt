-- `sorting::writing::plan_of` meets its contract. The loop's invariant: the jobs written are those of the chosen list, and the state is the one that it has
-- reached.
use Rattle.sorting.specs.Writing.{Begun}
use Rattle.sorting.proofs.writing.plan_of.Given as goal

abbrev pub invariant-loop-s : goal.invariant-loop-s
invariant-loop-s l = Begun l.jobs l.best l.plan l.s

abbrev pub decreases-loop-s : goal.decreases-loop-s
decreases-loop-s l = l.s.left
