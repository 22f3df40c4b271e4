-- `all_done` meets its contract. Invariant: the desks before d have had all their strips.
use Rattle.judge_rules.specs.Laws.{DoneSoFar}
use Rattle.judge_rules.proofs.all_done.Given as goal

abbrev pub invariant-loop-d : goal.invariant-loop-d
invariant-loop-d l = DoneSoFar l.counts l.done l.desks l.d
