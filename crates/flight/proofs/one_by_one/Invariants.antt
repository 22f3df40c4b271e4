-- `flight::one_by_one` meets its contract. Invariant: the order of the first i blocks one after the other.
use Rattle.std.proofs.Common.{◌≡◌}
use Rattle.flight.specs.Choice.{one_by_one}
use Rattle.flight.proofs.one_by_one.Given as goal

abbrev pub invariant-loop-i : goal.invariant-loop-i
invariant-loop-i l = l.order ≡ one_by_one l.i
