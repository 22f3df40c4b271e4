-- What the mosaic's functions ask and do, said of the lists behind the slices. x: the strips that are batched, as crate `batching` reads them. late: figures of
-- the batches that wait for their last strip, as it fills it.
use Rattle.std.specs.Prelude.{◌≡◌, List, [], ◌∷◌, ◌++◌, ℕ, ◌+◌, ◌*◌, ◌≤◌, ◌<◌, ◌^◌, max, length, get_or}
use Rattle.sheet.specs.Limits.{most_strips, most_time}
use Rattle.sheet.specs.declared.MosaicSection.{MosaicSection}
use Rattle.base.specs.Sums.{sum_after}
use Rattle.sheet.specs.Sound.{MosaicSound}
use Rattle.rules.specs.Mosaic.{station_sum, ready}
use Rattle.rules.specs.declared.Batch.{Batch}
use Rattle.batching.specs.Index.{least_at, chosen_at}
use Rattle.batching.specs.Tables.{width, instance_in}
use Rattle.batching.specs.declared.input.Strips.{Strips}
use Rattle.mosaic.specs.Plan.{batches_of, NoMore}
use Rattle.mosaic.specs.declared.MosaicPlan.{MosaicPlan}

-- the length of a plan's array
abbrev pub Sized : MosaicPlan → Type 0
Sized plan = length plan.batches ≡ most_strips

-- what `add` asks, and does
pub record AddBatchPre (plan : MosaicPlan) (weight : ℕ) (batch : Batch) : Type 0 where
  pub sized : Sized plan
  pub few : plan.count < most_strips
  pub fits : plan.figure + weight * batch.finish < 2 ^ 64

pub record Added (plan : MosaicPlan) (weight : ℕ) (batch : Batch) (more : MosaicPlan) : Type 0 where
  pub sized : Sized more
  pub figure : more.figure ≡ plan.figure + weight * batch.finish
  pub one_more : more.count ≡ plan.count + 1
  pub batches : batches_of more ≡ batches_of plan ++ (batch ∷ [])
  pub no_more : NoMore plan → NoMore more

-- what `choose_batches` does
pub record BatchesTaken (x : Strips) (plan : MosaicPlan) : Type 0 where
  pub figure : plan.figure ≡ least_at (instance_in x) 0 0
  pub batches : batches_of plan ≡ chosen_at (instance_in x) 0 0
  pub no_more : NoMore plan
  pub within : plan.count ≤ length plan.batches

-- what `ready_times` gives: every entry
pub record ReadyTimes (m : MosaicSection) (rs : List ℕ) : Type 0 where
  pub len : length rs ≡ most_strips
  pub at : (j : ℕ) → j < most_strips → get_or rs j 0 ≡ ready m (j + 1)

-- what `wait_for_station` asks, and does: every entry
pub record WaitPre (m : MosaicSection) (k : ℕ) (times : List ℕ) : Type 0 where
  pub sound : MosaicSound m
  pub station : k < m.stations
  pub len : length times ≡ most_strips

pub record Waits (m : MosaicSection) (k : ℕ) (times₀ times₁ : List ℕ) : Type 0 where
  pub len : length times₁ ≡ most_strips
  pub at : (j : ℕ) → j < most_strips → get_or times₁ j 0 ≡ max (get_or times₀ j 0) (station_sum m k (j + 1))

-- what `prefix_sums` asks of its values, and what it gives: every entry
pub record PrefixSumsPre (values : List ℕ) : Type 0 where
  pub len : length values ≡ most_strips
  pub most : (k : ℕ) → get_or values k 0 ≤ most_time

pub record PrefixSums (values sums : List ℕ) : Type 0 where
  pub len : length sums ≡ width
  pub at : (q : ℕ) → q ≤ most_strips → get_or sums q 0 ≡ sum_after values 0 q
