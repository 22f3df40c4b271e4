-- `fill_block` meets its contract.
use Rattle.batching.proofs.BlockLaws.{block_start}
use Rattle.batching.proofs.input.Strips.fill_block.Goals as goal

pub loop-p-init : goal.loop-p-init
loop-p-init c = block_start c.requires
