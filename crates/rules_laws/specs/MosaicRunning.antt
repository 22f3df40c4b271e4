-- The rules of the mosaic, by index and as they run over the batches, say the same: batch i follows the batch before it.
-- The figure is summed batch by batch: a batch adds its weight times its finish.
use Rattle.std.specs.Prelude.{◌≡◌, List, [], ◌∷◌, ℕ, ◌+◌, ◌-◌, ◌*◌, ◌≤◌, ◌<◌}
use Rattle.std.proofs.Common.{◌∙◌}
use Rattle.sheet.specs.declared.MosaicSection.{MosaicSection}
use Rattle.running.specs.Running.{batch_weight}
use Rattle.rules.specs.declared.Batch.{Batch}

-- the figure, batch by batch: each batch's weight times its finish
unfoldable pub running_figure : MosaicSection → Batch → List Batch → ℕ
running_figure m before [] = 0
running_figure m before (b ∷ bs) = batch_weight m before.last b.last * b.finish + running_figure m b bs
