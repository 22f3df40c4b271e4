-- `order_proper` meets its contract: each way through its tests is one through the definition.
use Rattle.base.specs.Branch.{flags}
use Rattle.sheet.specs.Checks.{order_proper}
use Rattle.sheet_checks.proofs.order_proper.Goals as goal

pub returns-then-tag-ne-FLIGHT_ORDER : goal.returns-then-tag-ne-FLIGHT_ORDER
unfolding order_proper
returns-then-tag-ne-FLIGHT_ORDER c = search flags depth 14

pub returns-else-tag-ne-FLIGHT_ORDER : goal.returns-else-tag-ne-FLIGHT_ORDER
unfolding order_proper
returns-else-tag-ne-FLIGHT_ORDER c = search flags depth 14
