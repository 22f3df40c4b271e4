-- `plan_fields::members::put_strip` meets its contract: the stores one behind the other begin a job's field.
use Rattle.plan_fields.specs.FieldLaws.{strip_stored}
use Rattle.plan_fields.proofs.members.put_strip.Goals as goal

pub returns : goal.returns
returns c = search strip_stored
