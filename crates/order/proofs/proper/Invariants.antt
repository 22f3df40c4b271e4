-- `order::proper` meets its contract. The loop's invariant: every beginning below k passes was tried. The measure is what is left of the passes.
-- A refusal contradicts a field of `Proper`; that nothing was refused is `Proper`, by a law on plain numbers.
use Rattle.order.proofs.Beginnings.{Tried}
use Rattle.order.proofs.proper.Given as goal

abbrev pub invariant-loop-k : goal.invariant-loop-k
invariant-loop-k l = Tried l.x l.k
