-- `judge_sections` meets its contract. Outer invariant: no section before this one has a fault. Inner invariant: no member before this one has one.
use Rattle.judge.specs.Loops.{Outer, Inner}
use Rattle.judge.proofs.judge_sections.Given as goal

abbrev pub invariant-loop-k : goal.invariant-loop-k
invariant-loop-k l = Inner l.s l.plan l.section l.part l.k l.progress

abbrev pub invariant-loop-section : goal.invariant-loop-section
invariant-loop-section l = Outer l.s l.plan l.section
