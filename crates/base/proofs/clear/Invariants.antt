-- `base::clear` meets its contract: after z turns the first z values are 0.
use Rattle.base.proofs.Clearing.{Cleared}
use Rattle.base.proofs.clear.Given as goal

abbrev pub invariant-loop-z : goal.invariant-loop-z
invariant-loop-z l = Cleared l.initial.values l.values l.z
