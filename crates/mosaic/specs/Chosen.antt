-- The batching that the program takes: that of the recursion over its batchings (crate `batching`).
use Rattle.std.specs.Prelude.{List}
use Rattle.sheet.specs.declared.MosaicSection.{MosaicSection}
use Rattle.rules.specs.declared.Batch.{Batch}
use Rattle.batching.specs.Chosen.{chosen_from}
use Rattle.mosaic.specs.Least.{instance_of}

unfoldable pub chosen_batches : MosaicSection → List Batch
chosen_batches m = chosen_from (instance_of m) m.strips 0 0
