-- `fill_row` meets its contract.
use native.Mathlib.Omega.{arith}
use Rattle.batching.proofs.RowLaws.{row_end}
use Rattle.batching.proofs.input.Strips.fill_row.Goals as goal

pub returns : goal.returns
returns c = row_end c.requires c.loop-p.invariant (omega arith)
