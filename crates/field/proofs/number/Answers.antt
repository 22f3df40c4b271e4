-- `number` meets its contract. Within the row it is `number_within`; else, invariant: the bytes from the one at `left` on have been added up. So the value fits at every turn.
use Rattle.field.specs.Numbers.{scaled_fits}
use Rattle.field.specs.Numbers.{added_none, added_more, added_fits, added_all, past_read}
use Rattle.field.proofs.number.Goals as goal

pub returns-then-s-at : goal.returns-then-s-at
returns-then-s-at c = search past_read

pub loop-left-init : goal.loop-left-init
loop-left-init c = search added_none

pub overflow_mul-value : goal.overflow_mul-value
overflow_mul-value c = search scaled_fits

pub overflow_add-value : goal.overflow_add-value
overflow_add-value c = search added_fits

pub loop-left-preserved : goal.loop-left-preserved
loop-left-preserved c = search added_more

pub returns : goal.returns
returns c = search added_all
