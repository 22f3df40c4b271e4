-- Invariant: the sums of the first q values are done.
use Rattle.mosaic.proofs.TimeLaws.{SumsSoFar}
use Rattle.mosaic.proofs.ready.prefix_sums.Given as goal

abbrev pub invariant-loop-q : goal.invariant-loop-q
invariant-loop-q l = SumsSoFar l.values l.sums l.q
