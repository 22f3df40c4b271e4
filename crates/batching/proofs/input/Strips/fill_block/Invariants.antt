-- `fill_block` meets its contract. Invariant: the row from p on is done, at the time of as many mounts.
use Rattle.batching.proofs.BlockLaws.{BlockSoFar}
use Rattle.batching.proofs.input.Strips.fill_block.Given as goal

abbrev pub invariant-loop-p : goal.invariant-loop-p
invariant-loop-p l = BlockSoFar l.self l.initial.row l.row l.begin l.i l.lo l.p
