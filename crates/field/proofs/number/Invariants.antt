-- `number` meets its contract. Within the row it is `number_within`; else, invariant: the bytes from the one at `left` on have been added up. So the value fits at every turn.
use Rattle.field.specs.Numbers.{Added}
use Rattle.field.proofs.number.Given as goal

abbrev pub invariant-loop-left : goal.invariant-loop-left
invariant-loop-left l = Added l.s l.at l.width l.left l.value
