-- The contract of `plan_mosaic` determines the plan: the batches stand in the first entries of its array, and zeros after them.
use Rattle.std.specs.Prelude.{◌≡◌, ℕ, ◌<◌, get_or}
use Rattle.std.proofs.Math.Path.{ap, sym}
use Rattle.std.proofs.Common.{◌∙◌, arith}
use Rattle.std.proofs.lemmas.List.{ext_get_or}
use Rattle.std.proofs.Math.Decide.{dec_lt}
use mathlib.Core.List.{List}
use Rattle.base.specs.Listed.{listed_at}
use Rattle.sheet.specs.declared.MosaicSection.{MosaicSection}
use Rattle.rules.specs.Mosaic.{no_batch}
use Rattle.rules.specs.declared.Batch.{Batch}
use Rattle.mosaic.specs.Plan.{batches_of, Planned}
use Rattle.mosaic.specs.Tables.{Sized}
use Rattle.mosaic.specs.declared.MosaicPlan.{MosaicPlan}

module _ {m : MosaicSection} {p r : MosaicPlan} (P : Planned m p) (R : Planned m r) (S : Sized p) (T : Sized r) where
  same_count : p.count ≡ r.count
  same_count = P.count ∙ sym R.count

  same_batch : (k : ℕ) → k < p.count → get_or p.batches k no_batch ≡ get_or r.batches k no_batch
  unfolding batches_of
  same_batch k h =
      sym (listed_at p.count (λ j. get_or p.batches j no_batch) k no_batch h)
      ∙ ap (λ (bs : List Batch). get_or bs k no_batch) (P.batches ∙ sym R.batches)
      ∙ listed_at r.count (λ j. get_or r.batches j no_batch) k no_batch (omega (arith, same_count))

  same_batches : p.batches ≡ r.batches
  same_batches = ext_get_or no_batch p.batches r.batches (S ∙ sym T) (λ k h. elim (dec_lt k p.count) [
    | yes l ↦ same_batch k l
    | no l ↦ P.no_more k (omega arith) ∙ sym (R.no_more k (omega (arith, same_count)))
  ])

  pub planned_determined : p ≡ r
  planned_determined = λ i. record { figure = (P.figure ∙ sym R.figure) i; count = same_count i; batches = same_batches i }
