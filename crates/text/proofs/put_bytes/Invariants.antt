-- `put_bytes` meets its contract. Invariant: the first `done` bytes are stored.
use Rattle.text.specs.Text.{Storing}
use Rattle.text.proofs.put_bytes.Given as goal

abbrev pub invariant-loop-done : goal.invariant-loop-done
invariant-loop-done l = Storing l.initial.out l.at l.bytes l.out l.done
