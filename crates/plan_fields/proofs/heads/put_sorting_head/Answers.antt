-- `plan_fields::heads::put_sorting_head` meets its contract: the stores one behind the other are the head of the sorting.
use Rattle.plan_fields.specs.FieldLaws.{sorting_head_stored}
use Rattle.plan_fields.proofs.heads.put_sorting_head.Goals as goal

pub returns : goal.returns
returns c = search sorting_head_stored
