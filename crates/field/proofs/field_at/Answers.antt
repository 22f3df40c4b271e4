-- `field_at` meets its contract: each way through its tests tells what stands at the offset, as in the definition.
use Rattle.field.specs.Fields.{field_end, field_short, field_past, field_whole}
use native.Mathlib.Omega.{arith}
use Rattle.field.proofs.field_at.Goals as goal

pub returns-then-s-at : goal.returns-then-s-at
returns-then-s-at c = search field_end

pub returns-then-s-at-lt3 : goal.returns-then-s-at-lt3
returns-then-s-at-lt3 c = field_short _ _ (omega arith) (omega arith)

pub returns-then-length-s : goal.returns-then-length-s
returns-then-length-s c = search field_whole

pub returns-else-length-s : goal.returns-else-length-s
returns-else-length-s c = search field_past
