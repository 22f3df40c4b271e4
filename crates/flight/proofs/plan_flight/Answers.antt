-- `flight::plan_flight` meets its contract: with no block every definition gives nothing, and otherwise the local arrays are room enough.
use Rattle.flight.proofs.Planning.{plan_none}
use Rattle.flight.proofs.plan_flight.Goals as goal

pub returns-then-f-eq0 : goal.returns-then-f-eq0
returns-then-f-eq0 c = search plan_none
