-- Invariant: the strips wait for the first k stations.
use Rattle.mosaic.proofs.TimeLaws.{ReadySoFar}
use Rattle.mosaic.proofs.ready.ready_times.Given as goal

abbrev pub invariant-loop-k : goal.invariant-loop-k
invariant-loop-k l = ReadySoFar l.m l.times l.k
