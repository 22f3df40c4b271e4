-- What the functions on sections require and tell, and the laws of their loops: a sum so far, the greatest value so far.
use Rattle.std.specs.Prelude.{ℕ, zero, suc, ◌+◌, ◌-◌, ◌*◌, ◌^◌, ◌≤◌, ◌<◌, max, ◌≡◌, refl, List, length, take, drop, sum}
use Rattle.std.proofs.Common.{sym, ◌∙◌, add-one}
use Rattle.std.proofs.Math.Path.{ap}
use Rattle.std.proofs.Math.Decide.{dec_lt}
use native.Mathlib.Omega.{arith}
use Rattle.std.proofs.Math.ListN.{get_or, length-drop}
use Rattle.std.proofs.lemmas.List.{get_or-drop}
use Rattle.std.proofs.lemmas.List.Sums.{sum_by_more}
use Rattle.order.specs.Passes.{time_of}
use Rattle.order.specs.PassLaws.{first_time, second_time}
use Rattle.sheet.specs.Limits.{most_time, most_weight, most_strips, most_desks, most_strips_of_desk}
use Rattle.sheet.specs.Sound.{MosaicSound, SortingSound, FlightSound}
use Rattle.sheet.specs.declared.MosaicSection.{MosaicSection}
use Rattle.sheet.specs.declared.SortingSection.{SortingSection}
use Rattle.sheet.specs.declared.FlightSection.{FlightSection}
use Rattle.base.specs.Sums.{sum_over, sum_after, greatest_over}
use Rattle.base.specs.SumLaws.{sum_same, after_most}
use Rattle.rules.specs.Mosaic.{station_sum, ready, bench_sum, setup_time, bench_work_start, finish_due}
use Rattle.rules.specs.Sorting.{slot, scan_time, desk_time, job_weight}
use Rattle.rules.specs.Flight.{pass_time}
use Rattle.rules.specs.declared.Batch.{Batch}
use Rattle.running.specs.Running.{batch_weight}
use Rattle.rules.specs.declared.Job.{Job}

pub record StationSumPre (m : MosaicSection) (k j : ℕ) : Type 0 where
  pub sound : MosaicSound m
  pub station : k < m.stations
  pub strips : j ≤ most_strips

pub record ReadyTimePre (m : MosaicSection) (j : ℕ) : Type 0 where
  pub sound : MosaicSound m
  pub strips : j ≤ most_strips

-- values, times or weights, of which none is above the greatest time, as many as there are strips at most
pub record SumAfterPre (values : List ℕ) (i count : ℕ) : Type 0 where
  pub long : i + count ≤ length values
  pub few : count ≤ most_strips
  pub most : (k : ℕ) → get_or values k 0 ≤ most_time

-- a batch of known strips whose start has four bytes
pub record BenchWorkStartPre (m : MosaicSection) (b : Batch) : Type 0 where
  pub sound : MosaicSound m
  pub strips : b.last ≤ most_strips
  pub fits : b.start < 2 ^ 32

-- and after the batch before it
pub record FinishDuePre (m : MosaicSection) (before b : Batch) : Type 0 where
  pub asked : BenchWorkStartPre m b
  pub rises : before.last ≤ b.last

-- no setup time is longer
abbrev pub most_setup : ℕ
most_setup = most_time

pub record SetupTold (m : MosaicSection) (r : ℕ) : Type 0 where
  pub is : r ≡ setup_time m
  pub fits : r ≤ most_setup

pub setup_told : (m : MosaicSection) (r : ℕ) → MosaicSound m → r ≡ setup_time m → SetupTold m r
unfolding setup_time
setup_told m r sound e = record { is = e; fits = omega (arith, sound.most_mount) }

-- when the bench work of a batch starts
pub record BenchWorkStartTold (m : MosaicSection) (b : Batch) (r : ℕ) : Type 0 where
  pub is : r ≡ bench_work_start m b
  pub fits : r ≤ 2 ^ 32 + most_strips * most_time

-- a sum of at most 40 values, times or weights
pub record SumTold (value r : ℕ) : Type 0 where
  pub is : r ≡ value
  pub fits : r ≤ most_strips * most_time

pub record TimeTold (value r : ℕ) : Type 0 where
  pub is : r ≡ value
  pub fits : r ≤ most_time

-- a desk and a number within it that a strip may have
pub record InSlots (j : Job) : Type 0 where
  pub least_desk : 1 ≤ j.desk
  pub most_desk : j.desk ≤ most_desks
  pub least_number : 1 ≤ j.number
  pub most_number_holds : j.number ≤ most_strips_of_desk

-- where its values stand
pub record SlotTold (j : Job) (r : ℕ) : Type 0 where
  pub is : r ≡ slot j.desk j.number
  pub few : r < most_desks * most_strips_of_desk

pub record JobWeightTold (s : SortingSection) (j : Job) (r : ℕ) : Type 0 where
  pub is : r ≡ job_weight s j
  pub fits : r ≤ most_weight

pub record SlotPre (s : SortingSection) (j : Job) : Type 0 where
  pub sound : SortingSound s
  pub in_slots : InSlots j

pub record PassTimePre (f : FlightSection) (p : ℕ) : Type 0 where
  pub sound : FlightSound f
  pub known : p < 2 * f.blocks

-- the first i of n terms, each at most so large, are added up
pub record Summed (f : ℕ → ℕ) (most n i sum : ℕ) : Type 0 where
  pub within : i ≤ n
  pub is : sum ≡ sum_over i f
  pub fits : sum ≤ i * most

sum_suc : (n : ℕ) (f : ℕ → ℕ) → sum_over (suc n) f ≡ sum_over n f + f n
unfolding sum_over
sum_suc n f = refl

pub sum_none : (f : ℕ → ℕ) (most n : ℕ) → Summed f most n 0 0
unfolding sum_over
sum_none f most n = record { within = omega arith; is = refl; fits = omega arith }

pub sum_more : (f : ℕ → ℕ) (n i sum value : ℕ) → Summed f most_time n i sum → i < n → value ≡ f i → value ≤ most_time → Summed f most_time n (i + 1) (sum + value)
sum_more f n i sum value s h e l =
    let b = s.fits in
    record { within = omega arith; is = rw (s.is, e, add-one i) (sym (sum_suc i f)); fits = omega arith }

pub sum_all : (f : ℕ → ℕ) (n i sum : ℕ) → Summed f most_time n i sum → n ≤ i → sum ≡ sum_over n f
sum_all f n i sum s h = s.is ∙ ap (λ k. sum_over k f) all
  where
    all : i ≡ n
    all = let w = s.within in omega arith

module _ (m : MosaicSection) (k j : ℕ) (a : StationSumPre m k j) where
  pub station_more : (i sum : ℕ) → Summed (λ i. get_or m.station (4 * i + k) 0) most_time j i sum → i < j
      → Summed (λ i. get_or m.station (4 * i + k) 0) most_time j (i + 1) (sum + get_or m.station (4 * i + k) 0)
  station_more i sum s h = sum_more (λ i. get_or m.station (4 * i + k) 0) j i sum _ s h refl (a.sound.most_station (4 * i + k))

  pub station_fits : (i sum : ℕ) → Summed (λ i. get_or m.station (4 * i + k) 0) most_time j i sum → i < j → sum + get_or m.station (4 * i + k) 0 < 2 ^ 64
  station_fits i sum s h = let b = s.fits in let l = a.strips in omega (arith, a.sound.most_station (4 * i + k))

  pub station_all : (i sum : ℕ) → Summed (λ i. get_or m.station (4 * i + k) 0) most_time j i sum → j ≤ i → SumTold (station_sum m k j) sum
  unfolding station_sum
  station_all i sum s h =
      let b = s.fits in
      let w = s.within in
      let l = a.strips in
      record { is = sum_all (λ i. get_or m.station (4 * i + k) 0) j i sum s h; fits = omega arith }

-- the first n numbers of a list, added up
sum_taken : (values : List ℕ) (n : ℕ) → n ≤ length values → sum (take n values) ≡ sum_over n (λ k. get_or values k 0)
unfolding sum_over
sum_taken values zero h = refl
sum_taken values (suc n) h =
    ap (λ k. sum (take k values)) (sym (add-one n))
    ∙ sum_by_more (λ x. x) values n 0 (omega arith)
    ∙ ap (λ k. k + get_or values n 0) (sum_taken values n (omega arith))

module _ (values : List ℕ) (i count : ℕ) (a : SumAfterPre values i count) where
  -- what the slice of `count` values after the first i adds up to
  pub after_is : sum (take (i + count - i) (drop i values)) ≡ sum_after values i count
  unfolding sum_after
  after_is =
      ap (λ n. sum (take n (drop i values))) (omega arith)
      ∙ sum_taken (drop i values) count (omega (arith, a.long, length-drop i values))
      ∙ sum_same count _ _ (λ k h. get_or-drop i values k 0)

  pub after_fits : sum (take (i + count - i) (drop i values)) < 2 ^ 64
  after_fits = omega (arith, after_is, after_most values most_time a.most i count, a.few)

  pub after_told : (r : ℕ) → r ≡ sum (take (i + count - i) (drop i values)) → SumTold (sum_after values i count) r
  after_told r e = record { is = e ∙ after_is; fits = omega (arith, e, after_is, after_most values most_time a.most i count, a.few) }

-- the weight of a batch of known strips
pub record BatchWeightPre (m : MosaicSection) (before b : Batch) : Type 0 where
  pub sound : MosaicSound m
  pub strips : b.last ≤ most_strips
  pub rises : before.last ≤ b.last

pub record WeightTold (m : MosaicSection) (i q r : ℕ) : Type 0 where
  pub is : r ≡ batch_weight m i q
  pub fits : r ≤ (q - i) * most_weight

-- no weight is above the greatest time
pub weight_small : (m : MosaicSection) → MosaicSound m → (k : ℕ) → get_or m.weight k 0 ≤ most_time
weight_small m sound k = omega (arith, sound.most_weight_holds k)

pub batch_weight_most : (m : MosaicSection) → MosaicSound m → (i q : ℕ) → batch_weight m i q ≤ (q - i) * most_weight
unfolding batch_weight
batch_weight_most m sound i q = after_most m.weight most_weight sound.most_weight_holds i (q - i)

pub weight_told : (m : MosaicSection) (before b : Batch) (sum : ℕ) → BatchWeightPre m before b
    → SumTold (sum_after m.weight before.last (b.last - before.last)) sum → WeightTold m before.last b.last sum
unfolding batch_weight
weight_told m before b sum a t = record {
  is = t.is;
  fits = omega (arith, t.is, batch_weight_most m a.sound before.last b.last);
}

pub work_start_told : (m : MosaicSection) (b : Batch) (r setup ready_at : ℕ) → BenchWorkStartPre m b → SetupTold m setup → SumTold (ready m b.last) ready_at
    → r ≡ max (b.start + setup) ready_at → BenchWorkStartTold m b r
unfolding bench_work_start
work_start_told m b r setup ready_at a u t e = record { is = rw (← u.is, ← t.is) e; fits = omega (arith, a.fits, u.fits, t.fits) }

pub finish_is : (m : MosaicSection) (before b : Batch) (begin sum : ℕ) → BenchWorkStartTold m b begin
    → SumTold (sum_after m.bench before.last (b.last - before.last)) sum → begin + sum ≡ finish_due m before b
unfolding finish_due bench_sum
finish_is m before b begin sum u t = rw (u.is, t.is)

-- the greatest of the first k stations' sums
pub record Greatest (m : MosaicSection) (j k value : ℕ) : Type 0 where
  pub within : k ≤ m.stations
  pub is : value ≡ greatest_over k (λ k. station_sum m k j)
  pub fits : value ≤ most_strips * most_time

greatest_suc : (n : ℕ) (f : ℕ → ℕ) → greatest_over (suc n) f ≡ max (greatest_over n f) (f n)
unfolding greatest_over
greatest_suc n f = refl

module _ (m : MosaicSection) (j : ℕ) where
  pub greatest_none : Greatest m j 0 0
  unfolding greatest_over
  greatest_none = record { within = omega arith; is = refl; fits = omega arith }

  pub greatest_more : (k value next sum : ℕ) → Greatest m j k value → k < m.stations → SumTold (station_sum m k j) sum → next ≡ max value sum
      → Greatest m j (k + 1) next
  greatest_more k value next sum g h t e =
      let b = g.fits in
      let l = t.fits in
      record { within = omega arith; is = e ∙ rw (g.is, t.is, add-one k) (sym (greatest_suc k (λ k. station_sum m k j))); fits = omega arith }

  pub greatest_all : (k value : ℕ) → Greatest m j k value → m.stations ≤ k → SumTold (ready m j) value
  unfolding ready
  greatest_all k value g h = record { is = g.is ∙ ap (λ n. greatest_over n (λ k. station_sum m k j)) all; fits = g.fits }
    where
      all : k ≡ m.stations
      all = let w = g.within in omega arith

-- single times and weights
pub slot_told : (j : Job) → InSlots j → SlotTold j (6 * (j.desk - 1) + (j.number - 1))
unfolding slot
slot_told j a = record { is = refl; few = omega (arith, a.least_desk, a.most_desk, a.least_number, a.most_number_holds) }

module _ (s : SortingSection) (j : Job) (a : SlotPre s j) (r : ℕ) (t : SlotTold j r) where
  pub scan_told : TimeTold (scan_time s j) (get_or s.scan r 0)
  unfolding scan_time
  scan_told = record { is = ap (λ i. get_or s.scan i 0) t.is; fits = a.sound.most_scan r }

  pub desk_told : TimeTold (desk_time s j) (get_or s.desk r 0)
  unfolding desk_time
  desk_told = record { is = ap (λ i. get_or s.desk i 0) t.is; fits = a.sound.most_desk r }

  pub job_weight_told : JobWeightTold s j (get_or s.weight r 0)
  unfolding job_weight
  job_weight_told = record { is = ap (λ i. get_or s.weight i 0) t.is; fits = a.sound.most_weight_holds r }

-- the time of a pass
pub time_told : (f : FlightSection) (p r : ℕ) → PassTimePre f p → r ≡ time_of f.blocks f.first f.second p → TimeTold (pass_time f p) r
unfolding pass_time
time_told f p r a e = record {
  is = e;
  fits = elim (dec_lt p f.blocks) [
    | yes h ↦ omega (arith, first_time f.blocks f.first f.second p h, a.sound.most_first p)
    | no h ↦ omega (arith, second_time f.blocks f.first f.second p (omega arith), a.sound.most_second (p - f.blocks))
  ];
}
