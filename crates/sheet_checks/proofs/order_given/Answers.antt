-- `order_given` meets its contract: each way through its tests is one through the definition.
use Rattle.base.specs.Branch.{flags}
use Rattle.sheet.specs.Checks.{order_given}
use Rattle.sheet_checks.proofs.order_given.Goals as goal

pub returns-then-not-ends_section : goal.returns-then-not-ends_section
unfolding order_given
returns-then-not-ends_section c = search flags depth 14

pub returns-else-not-ends_section : goal.returns-else-not-ends_section
unfolding order_given
returns-else-not-ends_section c = search flags depth 14
