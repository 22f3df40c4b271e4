-- The rules of the mosaic, by index and as they run over the batches, say the same: batch i follows the batch before it.
-- The figure is summed batch by batch: a batch adds its weight times its finish.
use Rattle.std.specs.Prelude.{◌≡◌, refl, List, [], ◌∷◌, ℕ, zero, suc, ◌+◌, ◌-◌, ◌*◌, ◌≤◌, ◌<◌, length, get_or}
use Rattle.std.proofs.Common.{ap, ap₂, ◌∙◌, arith, le-leb}
use Rattle.std.proofs.lemmas.Bool.{lt-leb}
use Rattle.sheet.specs.declared.MosaicSection.{MosaicSection}
use Rattle.base.specs.Sums.{sum_over, sum_after}
use Rattle.rules.specs.Mosaic.{no_batch, batch_at, batch_before, BatchUnder, MosaicUnder, completion, strip_weight, mosaic_figure}
use Rattle.running.specs.Running.{batch_weight, BatchFollowsUnder, MosaicRunsUnder, none, more}
use Rattle.rules.specs.declared.Batch.{Batch}
use Rattle.base.specs.SumLaws.{sum_split, sum_same, sum_times}
use Rattle.rules_laws.specs.MosaicRunning.{running_figure}

-- the last strip of every batch is one of the section's
pub last_within : {c : ℕ} (m : MosaicSection) (b : Batch) (bs : List Batch) → MosaicRunsUnder c m b bs → b.last ≤ m.strips
last_within m b [] (none e) = omega arith
last_within m b (d ∷ bs) (more f r) = omega (arith, f.lawful.rises, f.known)

-- no more batches than strips
pub count_within : {c : ℕ} (m : MosaicSection) (b : Batch) (bs : List Batch) → MosaicRunsUnder c m b bs → b.last + length bs ≤ m.strips
count_within m b [] (none e) = omega arith
count_within m b (d ∷ bs) (more f r) = omega (arith, count_within m d bs r, f.lawful.rises)

-- the batch before batch i, in the list with `no_batch` put before it
pub before_is : (bs : List Batch) (i : ℕ) → batch_before bs i ≡ get_or (no_batch ∷ bs) i no_batch
unfolding batch_before batch_at
before_is bs zero = refl
before_is bs (suc i) = refl

module _ {c : ℕ} (m : MosaicSection) where
  collect : (bs : List Batch) (b : Batch) → ((i : ℕ) → i < length bs → BatchUnder c m (get_or (b ∷ bs) i no_batch) (get_or bs i no_batch))
      → (get_or (b ∷ bs) (length bs) no_batch).last ≡ m.strips → MosaicRunsUnder c m b bs
  collect [] b h e = none e
  collect (d ∷ bs) b h e =
      let r : MosaicRunsUnder c m d bs = collect bs d (λ i k. h (suc i) (omega arith)) e in
      more (record { lawful = h 0 (omega arith); known = last_within m d bs r }) r

  each : (bs : List Batch) (b : Batch) → MosaicRunsUnder c m b bs
      → (i : ℕ) → i < length bs → BatchFollowsUnder c m (get_or (b ∷ bs) i no_batch) (get_or bs i no_batch)
  each [] b (none e) i h = absurd (omega arith)
  each (d ∷ bs) b (more f r) zero h = f
  each (d ∷ bs) b (more f r) (suc i) h = each bs d r i (omega arith)

  end : (bs : List Batch) (b : Batch) → MosaicRunsUnder c m b bs → (get_or (b ∷ bs) (length bs) no_batch).last ≡ m.strips
  end [] b (none e) = e
  end (d ∷ bs) b (more f r) = end bs d r

  pub lawful_runs : (bs : List Batch) → MosaicUnder c m bs → MosaicRunsUnder c m no_batch bs
  unfolding batch_at
  lawful_runs bs L = collect bs no_batch (λ i h. rw (← before_is bs i) (L.each i h)) (rw (← before_is bs (length bs)) L.covers)

  pub follows_at : (bs : List Batch) → MosaicRunsUnder c m no_batch bs → (i : ℕ) → i < length bs → BatchFollowsUnder c m (batch_before bs i) (batch_at bs i)
  unfolding batch_at
  follows_at bs R i h = rw (before_is bs i) (each bs no_batch R i h)

  pub runs_lawful : (bs : List Batch) → MosaicRunsUnder c m no_batch bs → MosaicUnder c m bs
  runs_lawful bs R = record { each = λ i h. (follows_at bs R i h).lawful; covers = rw (before_is bs (length bs)) (end bs no_batch R) }

-- the completions of the strips after strip i, each times its weight
unfoldable rest_figure : MosaicSection → ℕ → List Batch → ℕ
rest_figure m i bs = sum_over (m.strips - i) (λ k. get_or m.weight (i + k) 0 * completion bs (i + k + 1))

rest_whole : (m : MosaicSection) (bs : List Batch) → mosaic_figure m bs ≡ rest_figure m 0 bs
unfolding mosaic_figure strip_weight rest_figure
rest_whole m bs =
    let e : m.strips - 0 ≡ m.strips = omega arith in
    rw e (sum_same m.strips (λ j. get_or m.weight (j + 1 - 1) 0 * completion bs (j + 1)) (λ k. get_or m.weight (0 + k) 0 * completion bs (0 + k + 1))
    (λ k h. ap₂ (λ (i n : ℕ). get_or m.weight i 0 * completion bs n) (omega arith) (omega arith)))

rest_end : (m : MosaicSection) (i : ℕ) (bs : List Batch) → m.strips ≤ i → rest_figure m i bs ≡ 0
unfolding rest_figure sum_over
rest_end m i bs h =
    let e : m.strips - i ≡ 0 = omega arith in
    rw e

own : (b : Batch) (bs : List Batch) (j : ℕ) → j ≤ b.last → completion (b ∷ bs) j ≡ b.finish
unfolding completion
own b bs j h = rw (le-leb j b.last h)

later : (b : Batch) (bs : List Batch) (j : ℕ) → b.last < j → completion (b ∷ bs) j ≡ completion bs j
unfolding completion
later b bs j h = rw (lt-leb j b.last h)

rest_cons : (m : MosaicSection) (i : ℕ) (b : Batch) (bs : List Batch) → i ≤ b.last → b.last ≤ m.strips
    → rest_figure m i (b ∷ bs) ≡ batch_weight m i b.last * b.finish + rest_figure m b.last bs
unfolding rest_figure batch_weight sum_after
rest_cons m i b bs h k =
    let w : ℕ → ℕ = λ n. get_or m.weight (i + n) 0 in
    let f : ℕ → ℕ = λ n. w n * completion (b ∷ bs) (i + n + 1) in
    let g : ℕ → ℕ = λ n. get_or m.weight (b.last + n) 0 * completion bs (b.last + n + 1) in
    let e : m.strips - i ≡ b.last - i + (m.strips - b.last) = omega arith in
    let first : sum_over (b.last - i) f ≡ sum_over (b.last - i) w * b.finish
    = sum_same (b.last - i) f (λ n. w n * b.finish) (λ n l. ap (λ (x : ℕ). w n * x) (own b bs (i + n + 1) (omega arith))) ∙ sum_times (b.last - i) b.finish w in
    let rest : sum_over (m.strips - b.last) (λ n. f (b.last - i + n)) ≡ sum_over (m.strips - b.last) g
    = sum_same (m.strips - b.last) (λ n. f (b.last - i + n)) g
    (λ n l.
    let z : i + (b.last - i + n) ≡ b.last + n = omega arith in
    rw z (ap (λ (x : ℕ). get_or m.weight (b.last + n) 0 * x) (later b bs (b.last + n + 1) (omega arith)))) in
    rw e (omega (arith, sum_split (b.last - i) (m.strips - b.last) f, first, rest))

rest_running : {c : ℕ} (m : MosaicSection) (before : Batch) (bs : List Batch) → MosaicRunsUnder c m before bs
    → rest_figure m before.last bs ≡ running_figure m before bs
unfolding running_figure
rest_running m before [] (none e) = rest_end m before.last [] (omega arith)
rest_running m before (b ∷ bs) (more f r) =
    rest_cons m before.last b bs (omega (arith, f.lawful.rises)) f.known
    ∙ ap (λ (n : ℕ). batch_weight m before.last b.last * b.finish + n) (rest_running m b bs r)

pub figure_running : {c : ℕ} (m : MosaicSection) (bs : List Batch) → MosaicRunsUnder c m no_batch bs → mosaic_figure m bs ≡ running_figure m no_batch bs
unfolding no_batch
figure_running m bs R = rest_whole m bs ∙ rest_running m no_batch bs R
