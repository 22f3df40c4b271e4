-- `difference::solve` meets its contract. The loop's invariant: the values are those after r rounds, none of which began at a solution.
-- A round that began at a solution ends all; after as many rounds as variables there is none.
use Rattle.std.proofs.Common.{length}
use Rattle.difference.specs.Rows.{system_of, InRounds}
use Rattle.difference.proofs.solve.Given as goal

abbrev pub invariant-loop-r : goal.invariant-loop-r
invariant-loop-r l = InRounds (system_of (length l.fn.values) l.constraints) l.values l._r
