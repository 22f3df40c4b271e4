-- `put_columns` meets its contract. Invariant: the columns from `left` on are stored, and `next` is the column left of them.
use Prim.Native.Nat.{◌<◌}
use native.Mathlib.Omega.{arith}
use Rattle.decimal.proofs.Storing.{stored_none, stored_more, stored_all}
use Rattle.decimal.proofs.put_columns.Goals as goal

pub loop-left-init : goal.loop-left-init
loop-left-init c = search stored_none

pub loop-left-preserved : goal.loop-left-preserved
loop-left-preserved c = let more : 0 < c.loop-left.left = omega arith in search stored_more

pub returns : goal.returns
returns c = search stored_all
