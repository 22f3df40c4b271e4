-- `ready_time` meets its contract. Invariant: `greatest` is the greatest sum of the first k stations.
use Rattle.running.specs.FunctionLaws.{Greatest}
use Rattle.running.proofs.mosaic.ready_time.Given as goal

abbrev pub invariant-loop-k : goal.invariant-loop-k
invariant-loop-k l = Greatest l.m l.j l.k l.greatest
