-- `report_all` meets its contract. Only that it ends is shown: each turn moves on in the row of cases.
use Prim.Native.Nat.{◌-◌}
use lib.ListN.{length}
use Rattle.judge_cases.proofs.report_all.Given as goal

abbrev pub invariant-loop-at : goal.invariant-loop-at
invariant-loop-at l = Unit

abbrev pub decreases-loop-at : goal.decreases-loop-at
decreases-loop-at l = length l.s - l.at
