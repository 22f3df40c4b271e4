-- `put_columns` meets its contract. Invariant: the columns from `left` on are stored, and `next` is the column left of them.
use Rattle.decimal.specs.Storing.{Stored}
use Rattle.decimal.proofs.put_columns.Given as goal

abbrev pub invariant-loop-left : goal.invariant-loop-left
invariant-loop-left l = Stored l.initial.d l.d l.at l.width l.filler l.value l.left l.rest l.next
