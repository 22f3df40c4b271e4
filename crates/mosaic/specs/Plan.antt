-- The plan that the program returns, and what it promises.
use Rattle.std.specs.Prelude.{ℕ, ◌≤◌, ◌≡◌, List, [], ◌∷◌, length, get_or}
use Rattle.base.specs.Listed.{listed}
use Rattle.sheet.specs.Limits.{most_strips}
use Rattle.sheet.specs.declared.MosaicSection.{MosaicSection}
use Rattle.rules.specs.Mosaic.{no_batch}
use Rattle.rules.specs.declared.Batch.{Batch}
use Rattle.mosaic.specs.Least.{least_figure}
use Rattle.mosaic.specs.Chosen.{chosen_batches}
use Rattle.mosaic.specs.declared.MosaicPlan.{MosaicPlan}

-- the last strips of the batches
unfoldable pub lasts : List Batch → List ℕ
lasts [] = []
lasts (b ∷ bs) = b.last ∷ lasts bs

-- the batches of a plan: the first entries of its array
unfoldable pub batches_of : MosaicPlan → List Batch
batches_of p = listed p.count (λ k. get_or p.batches k no_batch)

-- zeros after the batches
abbrev pub NoMore : MosaicPlan → Type 0
NoMore p = (k : ℕ) → p.count ≤ k → get_or p.batches k no_batch ≡ no_batch

-- what `plan_mosaic` promises of a sound section
pub record Planned (m : MosaicSection) (p : MosaicPlan) : Type 0 where
  pub figure : p.figure ≡ least_figure m
  pub batches : batches_of p ≡ chosen_batches m
  pub count : p.count ≡ length (chosen_batches m)
  pub few : p.count ≤ most_strips
  pub within : p.count ≤ length p.batches
  pub no_more : NoMore p
