-- `put_number` meets its contract. Invariant: the bytes before the next are stored, and `rest` is the number without them.
use Rattle.field.specs.Numbers.{storing_none, part_more, part_all}
use Rattle.field.proofs.put_number.Goals as goal

pub loop-byte-init : goal.loop-byte-init
loop-byte-init c = search storing_none

pub loop-byte-preserved : goal.loop-byte-preserved
loop-byte-preserved c = search part_more

pub returns : goal.returns
returns c = search part_all
