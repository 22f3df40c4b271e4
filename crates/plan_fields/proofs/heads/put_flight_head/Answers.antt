-- `plan_fields::heads::put_flight_head` meets its contract: the head's field.
use Rattle.plan_fields.specs.FieldLaws.{flight_head_stored}
use Rattle.plan_fields.proofs.heads.put_flight_head.Goals as goal

pub returns : goal.returns
returns c = search flight_head_stored
