-- `flight::plan_chosen` meets its contract: the plan in the chosen order.
use Rattle.flight.proofs.Planning.{plan_in_order_pre, plan_chosen}
use Rattle.flight.proofs.plan_chosen.Goals as goal

pub plan_in_order-requires : goal.plan_in_order-requires
plan_in_order-requires c = search plan_in_order_pre

pub returns : goal.returns
returns c = search plan_chosen
