-- Lawful timetables of sound sections fit their bytes: members have small numbers and times up to the ceiling, there are no more of them than strips or blocks,
-- and the figures are at most so many times the ceiling, and at least 1 where the section has a member.
use Rattle.std.specs.Prelude.{◌≡◌, Bool, true, false, cond, length, leb}
use Rattle.std.proofs.Math.Path.{refl, sym}
use Rattle.std.proofs.Common.{◌∙◌, mul-le-mul_left, arith}
use mathlib.Core.List.{List, [], ◌∷◌}
use Prim.Native.Nat.{ℕ, zero, suc, ◌+◌, ◌-◌, ◌*◌, ◌^◌, ◌≤◌, ◌<◌}
use Rattle.std.proofs.Math.Decide.{dec_lt, ℕ_discrete}
use Rattle.std.proofs.Math.Nat.{mul-le-mul}
use Rattle.std.proofs.Math.ListN.{get_or}
use Rattle.order.specs.Word.{proper_fits}
use Rattle.sheet.specs.Limits.{ceiling, most_weight, most_strips, most_desks, most_strips_of_desk}
use Rattle.sheet.specs.Sound.{MosaicSound, SortingSound, FlightSound, strips_in_all}
use Rattle.sheet.specs.declared.MosaicSection.{MosaicSection}
use Rattle.sheet.specs.declared.SortingSection.{SortingSection}
use Rattle.sheet.specs.declared.FlightSection.{FlightSection}
use Rattle.base.specs.Sums.{sum_over}
use Rattle.rules.specs.Mosaic.{bench_sum, no_batch, batch_at, batch_before, MosaicLawful, completion, strip_weight, mosaic_figure}
use Rattle.rules.specs.Sorting.{strips_of, slot, desk_time, job_weight, scan_end, desk_finish, job_at, jobs_of, SortingLawful, sorting_figure}
use Rattle.rules.specs.Flight.{passes_at, pass_end, FlightLawful, OrderAllowed, flight_figure}
use Rattle.running.specs.Running.{BatchFollows, MosaicRuns, none, more}
use Rattle.plan_format.specs.Format.{width_of, EachFits, mosaic_head_form, flight_head_form}
use Rattle.plan_read.specs.PlanRead.{BatchFits, JobFits, PassesFits}
use Rattle.rules.specs.declared.Batch.{Batch}
use Rattle.rules.specs.declared.Job.{Job}
use Rattle.rules.specs.declared.Passes.{Passes}
use Rattle.base.specs.SumLaws.{sum_most, sum_least, after_least, greatest_most, greatest_part}
use Rattle.running.specs.Running.{batch_weight}
use Rattle.rules_laws.proofs.Finish.{finish_worked}
use Rattle.rules_laws.specs.MosaicRunning.{running_figure}
use Rattle.rules_laws.proofs.MosaicRunning.{count_within, follows_at}
use Rattle.rules_laws.proofs.Equivalent.{mosaic_runs, mosaic_figure_lem}
use Rattle.rules_laws.proofs.SortingRunning.{jobs_same, jobs_other, number_known}
use Rattle.rules_laws.proofs.FlightRunning.{first_ended, second_start, end_is, time_some}

-- a product of numbers that are not 0
product_some : (x y : ℕ) → 1 ≤ x → 1 ≤ y → 1 ≤ x * y
product_some zero y p q = absurd (omega arith)
product_some (suc x) zero p q = absurd (omega arith)
product_some (suc x) (suc y) p q = omega (arith, mul-le-mul_left (suc x) q)

-- The mosaic.
completion_most : (bs : List Batch) (j : ℕ) → ((i : ℕ) → i < length bs → (get_or bs i no_batch).finish ≤ ceiling) → completion bs j ≤ ceiling
unfolding completion
completion_most [] j h = omega arith
completion_most (b ∷ bs) j h = go (leb j b.last) (h 0 (omega arith)) (completion_most bs j (λ i l. h (suc i) (omega arith)))
  where
    go : (t : Bool) → b.finish ≤ ceiling → completion bs j ≤ ceiling → cond t b.finish (completion bs j) ≤ ceiling
    go true p q = p
    go false p q = q

module _ (m : MosaicSection) (bs : List Batch) (sound : MosaicSound m) (L : MosaicLawful m bs) where
  pub mosaic_figure_most : mosaic_figure m bs ≤ most_strips * (most_weight * ceiling)
  unfolding mosaic_figure strip_weight batch_at
  mosaic_figure_most =
      omega (arith, sum_most m.strips (most_weight * ceiling) (λ j. get_or m.weight (j + 1 - 1) 0 * completion bs (j + 1)) (λ j l. mul-le-mul (sound.most_weight_holds (j + 1 - 1)) (completion_most bs (j + 1) (λ i k. (L.each i k).within))), sound.most_strips_holds)

  bench_some : (i count : ℕ) → i + count ≤ m.strips → count ≤ bench_sum m i count
  unfolding bench_sum
  bench_some i count h = after_least m.bench m.strips sound.least_bench i count h

  pub batch_follows_lem : (i : ℕ) → i < length bs → BatchFollows m (batch_before bs i) (batch_at bs i)
  batch_follows_lem i l = follows_at m bs (mosaic_runs m bs L) i l

  finish_some : (before b : Batch) → BatchFollows m before b → 1 ≤ b.finish
  finish_some before b f =
      omega (arith, f.lawful.rises, f.known, f.lawful.finishes, finish_worked m before b, bench_some before.last (b.last - before.last) (omega (arith, f.lawful.rises, f.known)))

  weight_some : (before b : Batch) → BatchFollows m before b → 1 ≤ batch_weight m before.last b.last
  unfolding batch_weight
  weight_some before b f =
      omega (arith, after_least m.weight m.strips sound.least_weight before.last (b.last - before.last) (omega (arith, f.lawful.rises, f.known)), f.lawful.rises)

  running_some : (before : Batch) (cs : List Batch) → MosaicRuns m before cs → before.last < m.strips → 1 ≤ running_figure m before cs
  unfolding running_figure
  running_some before [] (none e) h = absurd (omega arith)
  running_some before (b ∷ cs) (more f r) h =
      omega (arith, product_some (batch_weight m before.last b.last) b.finish (weight_some before b f) (finish_some before b f))

  pub mosaic_figure_least : 0 < m.strips → 1 ≤ mosaic_figure m bs
  unfolding no_batch
  mosaic_figure_least h = omega (arith, mosaic_figure_lem m bs (mosaic_runs m bs L), running_some no_batch bs (mosaic_runs m bs L) h)

  pub batches_most : length bs ≤ m.strips
  unfolding no_batch
  batches_most = omega (arith, count_within m no_batch bs (mosaic_runs m bs L))

  pub batch_last : (i : ℕ) → i < length bs → (batch_at bs i).last ≤ most_strips
  batch_last i l = omega (arith, (batch_follows_lem i l).known, sound.most_strips_holds)

  pub batch_start : (i : ℕ) → i < length bs → (batch_at bs i).start ≤ ceiling
  batch_start i l = omega (arith, (L.each i l).finishes, finish_worked m (batch_before bs i) (batch_at bs i), (L.each i l).within)

  pub batch_fits : (i : ℕ) → i < length bs → BatchFits (batch_at bs i)
  batch_fits i l = record { last = omega (arith, batch_last i l); start = omega (arith, batch_start i l); finish = omega (arith, (L.each i l).within) }

  pub mosaic_head_fits : EachFits mosaic_head_form.widths (mosaic_figure m bs ∷ [])
  mosaic_head_fits =
      let h : mosaic_figure m bs < 2 ^ (8 * width_of mosaic_head_form 0) = omega (arith, mosaic_figure_most) in
      EachFits.more h EachFits.none

-- The sorting.
module _ (s : SortingSection) (js : List Job) (sound : SortingSound s) (L : SortingLawful s js) where
  desk_known : (i : ℕ) → i < length js → (job_at js i).desk ≤ most_desks
  desk_known i l = omega (arith, (L.each i l).most_desk, sound.most_desks_holds)

  no_jobs : (desk : ℕ) → s.desks < desk → (n : ℕ) → n ≤ length js → jobs_of js desk n ≡ 0
  unfolding jobs_of sum_over
  no_jobs desk h zero l = refl
  no_jobs desk h (suc n) l = jobs_other js desk n (λ e. omega (arith, e, (L.each n (omega arith)).most_desk)) ∙ no_jobs desk h n (omega arith)

  -- the jobs of a desk are its strips, and a desk that is not there has none
  desk_jobs : (desk : ℕ) → 1 ≤ desk → jobs_of js desk (length js) ≡ strips_of s desk
  unfolding strips_of
  desk_jobs desk p = go (dec_lt s.desks desk)
    where
      go : Dec (s.desks < desk) → jobs_of js desk (length js) ≡ get_or s.counts (desk - 1) 0
      go (yes h) = no_jobs desk h (length js) (omega arith) ∙ sym (sound.no_desk (desk - 1) (omega arith))
      go (no h) = L.all_strips desk p (omega arith)

  one_of_three : (desk n : ℕ) → n < length js → (job_at js n).desk ≡ desk → (a b : ℕ) → (a ≡ desk → ⊥) → (b ≡ desk → ⊥)
      → (jobs_of js desk (suc n) ≡ jobs_of js desk n + 1) × (jobs_of js a (suc n) ≡ jobs_of js a n) × (jobs_of js b (suc n) ≡ jobs_of js b n)
  one_of_three desk n l e a b na nb = (jobs_same js desk n e, jobs_other js a n (λ q. na (sym q ∙ e)), jobs_other js b n (λ q. nb (sym q ∙ e)))

  jobs_count : (n : ℕ) → n ≤ length js → jobs_of js 1 n + jobs_of js 2 n + jobs_of js 3 n ≡ n
  unfolding jobs_of sum_over
  jobs_count zero l = refl
  jobs_count (suc n) l = go (ℕ_discrete (job_at js n).desk 1) (ℕ_discrete (job_at js n).desk 2) (ℕ_discrete (job_at js n).desk 3) (jobs_count n (omega arith))
    where
      go : Dec ((job_at js n).desk ≡ 1) → Dec ((job_at js n).desk ≡ 2) → Dec ((job_at js n).desk ≡ 3) → jobs_of js 1 n + jobs_of js 2 n + jobs_of js 3 n ≡ n
          → jobs_of js 1 (suc n) + jobs_of js 2 (suc n) + jobs_of js 3 (suc n) ≡ suc n
      go (yes e) q r ih = omega (arith, ih, one_of_three 1 n (omega arith) e 2 3 (λ z. omega arith) (λ z. omega arith))
      go (no p) (yes e) r ih = omega (arith, ih, one_of_three 2 n (omega arith) e 1 3 (λ z. omega arith) (λ z. omega arith))
      go (no p) (no q) (yes e) ih = omega (arith, ih, one_of_three 3 n (omega arith) e 1 2 (λ z. omega arith) (λ z. omega arith))
      go (no p) (no q) (no r) ih = absurd (omega (arith, p, q, r, (L.each n (omega arith)).least_desk, desk_known n (omega arith)))

  pub jobs_all : length js ≡ strips_in_all s
  unfolding strips_in_all strips_of
  jobs_all = omega (arith, jobs_count (length js) (omega arith), desk_jobs 1 (omega arith), desk_jobs 2 (omega arith), desk_jobs 3 (omega arith))

  pub jobs_most : length js ≤ most_desks * most_strips_of_desk
  unfolding strips_in_all
  jobs_most = omega (arith, jobs_all, sound.most_strips_holds 0, sound.most_strips_holds 1, sound.most_strips_holds 2)

  least_number : (i : ℕ) → i < length js → 1 ≤ (job_at js i).number
  least_number i l = omega (arith, L.in_turn i l)

  job_some : (i : ℕ) → i < length js → 1 ≤ desk_finish s (job_at js i)
  unfolding desk_finish desk_time slot strips_of
  job_some i l =
      omega (arith, sound.least_desk ((job_at js i).desk - 1) ((job_at js i).number - 1) (omega (arith, number_known s js L i l, least_number i l)))

  job_weight_some : (i : ℕ) → i < length js → 1 ≤ job_weight s (job_at js i)
  unfolding job_weight slot strips_of
  job_weight_some i l = sound.least_weight ((job_at js i).desk - 1) ((job_at js i).number - 1) (omega (arith, number_known s js L i l, least_number i l))

  pub sorting_figure_least : 0 < strips_in_all s → 1 ≤ sorting_figure s js
  unfolding sorting_figure
  sorting_figure_least h =
      omega (arith, sum_least (length js) (λ i. job_weight s (job_at js i) * desk_finish s (job_at js i)) (λ i l. product_some _ _ (job_weight_some i l) (job_some i l)), jobs_all)

  pub job_desk : (i : ℕ) → i < length js → (job_at js i).desk ≤ most_desks
  job_desk i l = desk_known i l

  pub job_number : (i : ℕ) → i < length js → (job_at js i).number ≤ most_strips_of_desk
  unfolding strips_of
  job_number i l = omega (arith, number_known s js L i l, sound.most_strips_holds ((job_at js i).desk - 1))

  pub job_start : (i : ℕ) → i < length js → (job_at js i).start ≤ ceiling
  unfolding desk_finish
  job_start i l = omega (arith, (L.each i l).within)

  pub job_scan : (i : ℕ) → i < length js → (job_at js i).scan ≤ ceiling
  unfolding scan_end
  job_scan i l = omega (arith, (L.each i l).after_scan, job_start i l)

  pub job_fits : (i : ℕ) → i < length js → JobFits (job_at js i)
  job_fits i l =
      record {
        desk = omega (arith, job_desk i l);
        number = omega (arith, job_number i l);
        scan = omega (arith, job_scan i l);
        start = omega (arith, job_start i l);
      }

-- The flight.
pub order_fits : (f : FlightSection) (order : ℕ) → FlightSound f → OrderAllowed f order → order < 2 ^ (8 * width_of flight_head_form 1)
order_fits f order sound allowed = proper_fits allowed.proper sound.most_blocks_holds

module _ (f : FlightSection) (ps : List Passes) (sound : FlightSound f) (L : FlightLawful f ps) where
  pub flight_figure_most : flight_figure f ps ≤ ceiling
  unfolding flight_figure
  flight_figure_most = greatest_most (2 * f.blocks) ceiling (λ p. pass_end f ps p) L.within

  pub flight_figure_least : 0 < f.blocks → 1 ≤ flight_figure f ps
  unfolding flight_figure
  flight_figure_least h =
      omega (arith, greatest_part (2 * f.blocks) (λ p. pass_end f ps p) 0 (omega arith), end_is f ps 0, time_some f sound 0 (omega arith))

  pub passes_second : (i : ℕ) → i < length ps → (passes_at ps i).second ≤ ceiling
  passes_second i l = omega (arith, L.within (f.blocks + i) (omega (arith, L.every_block)), end_is f ps (f.blocks + i), second_start f ps i)

  pub passes_first : (i : ℕ) → i < length ps → (passes_at ps i).first ≤ ceiling
  passes_first i l = omega (arith, first_ended f i (passes_at ps i) (L.delay_kept i (omega (arith, L.every_block))), passes_second i l)

  pub passes_fits : (i : ℕ) → i < length ps → PassesFits (passes_at ps i)
  passes_fits i l = record { first = omega (arith, passes_first i l); second = omega (arith, passes_second i l) }

  pub flight_head_fits : (order : ℕ) → OrderAllowed f order → EachFits flight_head_form.widths (flight_figure f ps ∷ order ∷ [])
  flight_head_fits order allowed =
      let h : flight_figure f ps < 2 ^ (8 * width_of flight_head_form 0) = omega (arith, flight_figure_most) in
      EachFits.more h (EachFits.more (order_fits f order sound allowed) EachFits.none)
