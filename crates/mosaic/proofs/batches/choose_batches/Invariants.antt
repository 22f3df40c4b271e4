-- `choose_batches` meets its contract. Invariant: the batches written, with those that the recursion takes after them, are all that it takes.
use Prim.Native.Nat.{◌-◌}
use Rattle.mosaic.proofs.BatchLaws.{PlanSoFar}
use Rattle.mosaic.proofs.batches.choose_batches.Given as goal

abbrev pub invariant-loop-i : goal.invariant-loop-i
invariant-loop-i l = PlanSoFar l.strips l.plan l.i l.free

abbrev pub decreases-loop-i : goal.decreases-loop-i
decreases-loop-i l = l.strips.count - l.i
