-- `difference::round` meets its contract. The loop's invariant: the values are those after the constraints so far, and `held` is whether these held at entry.
use Rattle.std.proofs.Common.{length}
use Rattle.difference.specs.Rows.{system_of, InRound}
use Rattle.difference.proofs.round.Given as goal

abbrev pub invariant-loop-c : goal.invariant-loop-c
invariant-loop-c l = InRound (system_of (length l.initial.values) l.constraints) l.initial.values l.values l.held l.c-index
