-- `flight::passes_at` meets its contract. The loop's invariant: the passes of the first i blocks are written, and zeros stand after them.
use Rattle.flight.proofs.Copying.{copy_start, copy_more}
use Rattle.flight.proofs.passes_at.Goals as goal

pub loop-i-init : goal.loop-i-init
loop-i-init c = copy_start _ _

pub loop-i-preserved : goal.loop-i-preserved
loop-i-preserved c = search copy_more
