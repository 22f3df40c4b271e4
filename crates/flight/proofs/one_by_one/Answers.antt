-- `flight::one_by_one` meets its contract. Invariant: the order of the first i blocks one after the other.
use Rattle.std.proofs.Common.{refl, arith}
use Rattle.flight.specs.Choice.{one_by_one}
use Rattle.flight.proofs.Delays.{order_low, order_more}
use Rattle.flight.proofs.one_by_one.Goals as goal

pub loop-i-init : goal.loop-i-init
unfolding one_by_one
loop-i-init c = refl

pub append_second-order-requires : goal.append_second-order-requires
append_second-order-requires c = (omega arith, search order_low)

pub loop-i-preserved : goal.loop-i-preserved
loop-i-preserved c = search order_more
