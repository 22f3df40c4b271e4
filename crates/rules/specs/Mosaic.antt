-- The rules of the mosaic (01, "The three sets of rules"; 02, Req 08, for when a mount and the bench work start, and Req 09, for weights). Strips are
-- numbered from 1. In the literature: batching on one machine with release dates, and a setup time for each batch that needs none of its strips (an
-- anticipatory setup).
use Rattle.std.specs.Prelude.{ℕ, zero, suc, ◌+◌, ◌-◌, ◌*◌, ◌≤◌, ◌<◌, max, ◌≡◌, cond, List, [], ◌∷◌, length, get_or, leb}
use Rattle.sheet.specs.Limits.{ceiling}
use Rattle.sheet.specs.declared.MosaicSection.{MosaicSection}
use Rattle.base.specs.Sums.{sum_over, sum_after, greatest_over}
use Rattle.rules.specs.declared.Batch.{Batch}

-- "Each station works the strips in order from time 0 without pause": when station k (from 0) is done with the first j strips
unfoldable pub station_sum : MosaicSection → ℕ → ℕ → ℕ
station_sum m k j = sum_over j (λ i. get_or m.station (4 * i + k) 0)

-- "A strip is ready at the greatest, over the stations, of the sum of its own and all earlier station times": strip j (in the literature: release date)
unfoldable pub ready : MosaicSection → ℕ → ℕ
ready m j = greatest_over m.stations (λ k. station_sum m k j)

-- the bench times of so many strips after the first i
unfoldable pub bench_sum : MosaicSection → ℕ → ℕ → ℕ
bench_sum m i count = sum_after m.bench i count

-- what stands before the first batch: no strip, finished at 0
unfoldable pub no_batch : Batch
no_batch = record { last = 0; start = 0; finish = 0 }

-- batch i of a list, from 0, and the batch before it
unfoldable pub batch_at : List Batch → ℕ → Batch
batch_at bs i = get_or bs i no_batch

unfoldable pub batch_before : List Batch → ℕ → Batch
batch_before bs zero = no_batch
batch_before bs (suc i) = batch_at bs i

-- how long a mount takes: the mount time s (in the literature: setup time)
unfoldable pub setup_time : MosaicSection → ℕ
setup_time m = m.mount

-- 02, Req 08: "Bench work starts when the mount is done and the batch's last strip is ready": at the later of the two
unfoldable pub bench_work_start : MosaicSection → Batch → ℕ
bench_work_start m b = max (b.start + setup_time m) (ready m b.last)

-- "Finish = .. + the batch's bench times", counted from there: its strips are those after the last strip of the batch before, up to its own last strip
unfoldable pub finish_due : MosaicSection → Batch → Batch → ℕ
finish_due m before b = bench_work_start m b + bench_sum m before.last (b.last - before.last)

-- what the rules ask of a batch and the batch before it, under the ceiling c
pub record BatchUnder (c : ℕ) (m : MosaicSection) (before b : Batch) : Type 0 where
  -- "Batches are runs of neighbouring strips that cover all in order."
  pub rises : before.last < b.last
  -- 02, Req 08: "a mount starts no earlier than the batch before finishes, or 0": `no_batch`, before the first, finishes at 0
  pub waits_batch : before.finish ≤ b.start
  pub finishes : b.finish ≡ finish_due m before b
  -- "all starts and finishes are whole numbers from 0" to the ceiling; no start is above its finish
  pub within : b.finish ≤ c

-- a timetable of the mosaic under the ceiling c
pub record MosaicUnder (c : ℕ) (m : MosaicSection) (bs : List Batch) : Type 0 where
  pub each : (i : ℕ) → i < length bs → BatchUnder c m (batch_before bs i) (batch_at bs i)
  -- ".. that cover all in order"
  pub covers : (batch_before bs (length bs)).last ≡ m.strips

-- "In an allowed plan all starts and finishes are whole numbers from 0 to 10,000,000": the same under that ceiling
abbrev pub BatchLawful : MosaicSection → Batch → Batch → Type 0
BatchLawful m before b = BatchUnder ceiling m before b

abbrev pub MosaicLawful : MosaicSection → List Batch → Type 0
MosaicLawful m bs = MosaicUnder ceiling m bs

-- "A strip is complete when its batch finishes": strip j is of the first batch whose last strip is not before it
unfoldable pub completion : List Batch → ℕ → ℕ
completion [] j = 0
completion (b ∷ bs) j = cond (leb j b.last) b.finish (completion bs j)

-- the weight of strip j (02, Req 09)
unfoldable pub strip_weight : MosaicSection → ℕ → ℕ
strip_weight m j = get_or m.weight (j - 1) 0

-- "Figure: the sum of completions over strips." 02, Req 09: "The figure becomes the sum of weight × completion." (in the literature: the sum of weighted
-- completion times)
unfoldable pub mosaic_figure : MosaicSection → List Batch → ℕ
mosaic_figure m bs = sum_over m.strips (λ j. strip_weight m (j + 1) * completion bs (j + 1))
