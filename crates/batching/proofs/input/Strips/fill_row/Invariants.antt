-- `fill_row` meets its contract. Invariant: entries below p are of this block, those above still of the block with one batch more.
use Rattle.batching.proofs.RowLaws.{RowSoFar}
use Rattle.batching.proofs.input.Strips.fill_row.Given as goal

abbrev pub invariant-loop-p : goal.invariant-loop-p
invariant-loop-p l = RowSoFar l.self l.initial.row l.row l.begin l.i l.lo l.p
