-- `part_from` meets its contract. Invariant: so many members stand behind the head, and `end` is the offset behind them.
use Prim.Native.Nat.{◌+◌, ◌-◌}
use Rattle.judge_layout.specs.Laws.{Counted}
use Rattle.judge_layout.proofs.part_from.Given as goal

abbrev pub invariant-loop-member : goal.invariant-loop-member
invariant-loop-member l = Counted l.plan (l.at + (3 + l.fn.head.length)) l.member.tag l.member.length l.members l.end

abbrev pub decreases-loop-member : goal.decreases-loop-member
decreases-loop-member l = lib.ListN.length l.plan - l.end
