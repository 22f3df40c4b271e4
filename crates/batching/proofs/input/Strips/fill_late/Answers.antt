-- `fill_late` meets its contract.
use native.Mathlib.Omega.{arith}
use borrow.Author.Rules.{rules}
use Rattle.batching.proofs.LateLaws.{all_step}
use Rattle.batching.proofs.input.Strips.fill_late.Goals as goal

pub loop-i-preserved : goal.loop-i-preserved
loop-i-preserved c = all_step c.loop-i.invariant (omega arith) c.fill_late_after.ensures (search rules) (search rules)
