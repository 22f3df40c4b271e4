-- `flight::passes_at` meets its contract. The loop's invariant: the passes of the first i blocks are written, and zeros stand after them.
use Rattle.flight.proofs.Copying.{Copying}
use Rattle.flight.proofs.passes_at.Given as goal

abbrev pub invariant-loop-i : goal.invariant-loop-i
invariant-loop-i l = Copying l.starts l.n l.i l.blocks
