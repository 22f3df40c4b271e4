-- `order_permitted` meets its contract: each way through its tests is one through the definition.
use Rattle.base.specs.Branch.{branches}
use Rattle.sheet.specs.Checks.{order_permitted}
use Rattle.sheet_checks.proofs.order_permitted.Goals as goal

pub returns-then-section-eq-IN_FLIGHT : goal.returns-then-section-eq-IN_FLIGHT
unfolding order_permitted
returns-then-section-eq-IN_FLIGHT c = search branches depth 14

pub returns-else-section-eq-IN_FLIGHT : goal.returns-else-section-eq-IN_FLIGHT
unfolding order_permitted
returns-else-section-eq-IN_FLIGHT c = search branches depth 14
