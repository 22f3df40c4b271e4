-- `plan_fields::members::Member::store` of `Job` meets its contract: the stores one behind the other are the job's field.
use Rattle.plan_fields.specs.FieldLaws.{job_stored}
use Rattle.plan_fields.proofs.members.JobMember.store.Goals as goal

pub returns : goal.returns
returns c = search job_stored
