-- `fill_late_after` meets its contract. Invariant: the batches of the strips after i up to q are done.
use Rattle.batching.proofs.LateLaws.{LateSoFar}
use Rattle.batching.proofs.input.Strips.fill_late_after.Given as goal

abbrev pub invariant-loop-q : goal.invariant-loop-q
invariant-loop-q l = LateSoFar l.self l.initial.late l.initial.row l.late l.row l.i l.q
