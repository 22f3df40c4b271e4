-- `flight_figure` meets its contract. Invariant: `greatest` is the latest end of the passes before p.
use Rattle.plan_read.specs.PlanRead.{blocks_from}
use Rattle.judge_flight.specs.Laws.{LatestSoFar}
use Rattle.judge_flight.proofs.flight_figure.Given as goal

abbrev pub invariant-loop-p : goal.invariant-loop-p
invariant-loop-p l = LatestSoFar l.fn.f (blocks_from l.plan l.at l.fn.f.blocks) l.p l.greatest
