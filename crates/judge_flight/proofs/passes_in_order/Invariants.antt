-- `passes_in_order` meets its contract. Invariant: the passes at positions below k come one after another in the order, none before the turn after the one
-- before is over.
use Prim.Native.Nat.{◌-◌}
use Rattle.plan_read.specs.PlanRead.{blocks_from}
use Rattle.judge_flight.specs.Laws.{OrderedSoFar}
use Rattle.judge_flight.proofs.passes_in_order.Given as goal

abbrev pub invariant-loop-k : goal.invariant-loop-k
invariant-loop-k l = OrderedSoFar l.f l.order (blocks_from l.plan l.at l.f.blocks) (l.k - 1)
