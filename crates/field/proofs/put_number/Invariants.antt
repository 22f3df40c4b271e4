-- `put_number` meets its contract. Invariant: the bytes before the next are stored, and `rest` is the number without them.
use Rattle.field.specs.Numbers.{Storing}
use Rattle.field.proofs.put_number.Given as goal

abbrev pub invariant-loop-byte : goal.invariant-loop-byte
invariant-loop-byte l = Storing l.initial.byte-items l.byte-items 0 l.width l.value l.byte-index l.rest
