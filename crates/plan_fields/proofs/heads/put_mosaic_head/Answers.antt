-- `plan_fields::heads::put_mosaic_head` meets its contract: the stores one behind the other are the head of the mosaic.
use Rattle.plan_fields.specs.FieldLaws.{mosaic_head_stored}
use Rattle.plan_fields.proofs.heads.put_mosaic_head.Goals as goal

pub returns : goal.returns
returns c = search mosaic_head_stored
