-- `plan_fields::members::Member::store` of `Passes` meets its contract: the stores one behind the other are the block's field.
use Rattle.plan_fields.specs.FieldLaws.{passes_stored}
use Rattle.plan_fields.proofs.members.PassesMember.store.Goals as goal

pub returns : goal.returns
returns c = search passes_stored
