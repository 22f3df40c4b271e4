-- Invariant: the strips up to j wait for the station.
use Rattle.mosaic.proofs.TimeLaws.{WaitSoFar}
use Rattle.mosaic.proofs.ready.wait_for_station.Given as goal

abbrev pub invariant-loop-j : goal.invariant-loop-j
invariant-loop-j l = WaitSoFar l.m l.k l.initial.times l.times l.sum l.j
