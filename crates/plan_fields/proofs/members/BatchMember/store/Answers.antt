-- `plan_fields::members::Member::store` of `Batch` meets its contract: the stores one behind the other are the batch's field.
use Rattle.plan_fields.specs.FieldLaws.{batch_stored}
use Rattle.plan_fields.proofs.members.BatchMember.store.Goals as goal

pub returns : goal.returns
returns c = search batch_stored
