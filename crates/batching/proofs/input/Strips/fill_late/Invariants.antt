-- `fill_late` meets its contract. Invariant: the batches of the strips after i or a later strip are done.
use Rattle.batching.proofs.LateLaws.{AllSoFar}
use Rattle.batching.proofs.input.Strips.fill_late.Given as goal

abbrev pub invariant-loop-i : goal.invariant-loop-i
invariant-loop-i l = AllSoFar l.self l.initial.late l.late l.row l.i
