-- `choose_batch` meets its contract. Invariant: of the candidates from n down to q, the one taken is the one that the recursion takes.
use Rattle.batching.proofs.ChoiceLaws.{TakenSoFar}
use Rattle.batching.proofs.input.Strips.choose_batch.Given as goal

abbrev pub invariant-loop-q : goal.invariant-loop-q
invariant-loop-q l = TakenSoFar l.self l.free l.i l.q l.best.last l.best.figure
