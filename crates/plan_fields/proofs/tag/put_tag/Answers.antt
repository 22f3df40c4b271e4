-- `plan_fields::tag::put_tag` meets its contract: the tag, and the content length behind it.
use Rattle.plan_fields.specs.FieldLaws.{tag_room, tag_kept, tag_stored}
use Rattle.plan_fields.proofs.tag.put_tag.Goals as goal

pub put_number-requires : goal.put_number-requires
put_number-requires c = search tag_room

pub shape_of-d : goal.shape_of-d
shape_of-d c = search tag_kept

pub returns : goal.returns
returns c = search tag_stored
