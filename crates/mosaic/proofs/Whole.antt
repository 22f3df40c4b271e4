-- The recursion from the first strip on, and what its batches attain there.
use Rattle.std.specs.Prelude.{◌≡◌, List, [], ◌∷◌, ℕ, zero, suc, ◌≤◌, ◌<◌, length, get_or}
use Rattle.std.proofs.Common.{ap, arith}
use Rattle.sheet.specs.Sound.{MosaicSound}
use Rattle.sheet.specs.declared.MosaicSection.{MosaicSection}
use Rattle.rules.specs.declared.Batch.{Batch}
use Rattle.rules.specs.Mosaic.{no_batch}
use Rattle.batching.specs.Least.{least_from}
use Rattle.mosaic.specs.Least.{least_figure, instance_of}
use Rattle.batching.specs.Chosen.{chosen_from}
use Rattle.mosaic.specs.Chosen.{chosen_batches}
use Rattle.batching.specs.Index.{least_at, chosen_at}
use Rattle.mosaic.specs.Laws.Attained.{Attains, FinishBy}
use Rattle.mosaic.proofs.Attained.{attains_at}

pub least_is : (m : MosaicSection) → least_figure m ≡ least_at (instance_of m) 0 0
unfolding least_figure least_at instance_of
least_is m = ap (λ (n : ℕ). least_from (instance_of m) n 0 0) (omega arith)

pub chosen_is : (m : MosaicSection) → chosen_batches m ≡ chosen_at (instance_of m) 0 0
unfolding chosen_batches chosen_at instance_of
chosen_is m = ap (λ (n : ℕ). chosen_from (instance_of m) n 0 0) (omega arith)

pub finish_at : (c : ℕ) (bs : List Batch) → FinishBy c bs → (i : ℕ) → i < length bs → (get_or bs i no_batch).finish ≤ c
unfolding FinishBy
finish_at c [] F i h = absurd (omega arith)
finish_at c (b ∷ bs) F zero h = F.0
finish_at c (b ∷ bs) F (suc i) h = finish_at c bs F.1 i (omega arith)

pub attained : (m : MosaicSection) → MosaicSound m → Attains m 0 0 (least_figure m) (chosen_batches m)
attained m S = rw (least_is m, chosen_is m) (attains_at S 0 0 (omega arith) (omega arith))
