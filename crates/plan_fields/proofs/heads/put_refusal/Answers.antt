-- `plan_fields::heads::put_refusal` meets its contract: the stores one behind the other are the field of the refusal.
use Rattle.plan_fields.specs.FieldLaws.{refusal_stored}
use Rattle.plan_fields.proofs.heads.put_refusal.Goals as goal

pub returns : goal.returns
returns c = search refusal_stored
