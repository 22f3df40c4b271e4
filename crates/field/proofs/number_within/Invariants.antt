-- `number_within` meets its contract. Invariant: the bytes from the one at `left` on have been added up. So the sum fits at every turn.
use Rattle.field.specs.Numbers.{Added}
use Rattle.field.proofs.number_within.Given as goal

abbrev pub invariant-loop-left : goal.invariant-loop-left
invariant-loop-left l = Added l.s l.at l.width l.left l.sum
