-- `number_within` meets its contract. Invariant: the bytes from the one at `left` on have been added up. So the sum fits at every turn.
use Rattle.std.proofs.Common.{ℕ, ◌+◌, ◌-◌, ◌<◌, Fits, w8}
use Rattle.field.specs.Numbers.{added_none, within_more, within_fits, added_all, scaled_fits}
use Rattle.field.proofs.number_within.Goals as goal

byte_fits : {b : ℕ} → Fits w8 b → b < 256
byte_fits f = f.fits

pub loop-left-init : goal.loop-left-init
loop-left-init c = search added_none

pub overflow_mul-sum : goal.overflow_mul-sum
overflow_mul-sum c = search scaled_fits

pub overflow_add-sum-in-loop-left : goal.overflow_add-sum-in-loop-left
overflow_add-sum-in-loop-left c = search (within_fits, byte_fits (c.type_inv.s (c.args.at + (c.loop-left.left - 1))))

pub loop-left-preserved : goal.loop-left-preserved
loop-left-preserved c = search (within_more, byte_fits (c.type_inv.s (c.args.at + (c.loop-left.left - 1))))

pub returns : goal.returns
returns c = search added_all
