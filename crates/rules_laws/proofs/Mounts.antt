-- What 02, Req 08, leaves of the timetables of 01: one whose mounts wait for the strips is a timetable still. And what it adds: mounts may be moved where the
-- bench work starts when it did.
use Prim.Native.Nat.{ℕ, zero, suc, ◌+◌, ◌-◌, ◌*◌, ◌≤◌, ◌<◌}
use Rattle.std.specs.Prelude.{◌≡◌, List, [], ◌∷◌, length}
use Rattle.std.proofs.Math.Path.{refl}
use Rattle.std.proofs.Common.{ap, ◌∙◌, arith}
use Rattle.sheet.specs.declared.MosaicSection.{MosaicSection}
use Rattle.rules.specs.Mosaic.{bench_sum, batch_at, batch_before, bench_work_start, finish_due, BatchUnder, MosaicUnder, completion, strip_weight, mosaic_figure}
use Rattle.rules.specs.declared.Batch.{Batch}
use Rattle.base.specs.SumLaws.{sum_same}
use Rattle.rules_laws.specs.Mounts.{WaitsForStrips, MountsWait, MountsMoved}

waiting_batch : {c : ℕ} (m : MosaicSection) (before b : Batch) → WaitsForStrips c m before b → BatchUnder c m before b
unfolding finish_due bench_work_start
waiting_batch m before b w =
    record { rises = w.rises; waits_batch = w.waits_batch; finishes = omega (arith, w.waits_strip, w.finishes); within = w.within }

pub waiting_obeys : {c : ℕ} (m : MosaicSection) (bs : List Batch) → MountsWait c m bs → MosaicUnder c m bs
waiting_obeys m bs w = record { each = λ i l. waiting_batch m _ _ (w.each i l); covers = w.covers }

module _ (m : MosaicSection) {bs cs : List Batch} (M : MountsMoved m bs cs) where
  last_before : (i : ℕ) → (batch_before cs i).last ≡ (batch_before bs i).last
  unfolding batch_before
  last_before zero = refl
  last_before (suc i) = M.last i

  moved_batch : {c : ℕ} (i : ℕ) → i < length cs → BatchUnder c m (batch_before bs i) (batch_at bs i) → BatchUnder c m (batch_before cs i) (batch_at cs i)
  unfolding finish_due
  moved_batch i l b =
      let e : bench_sum m (batch_before cs i).last ((batch_at cs i).last - (batch_before cs i).last)
      ≡ bench_sum m (batch_before bs i).last ((batch_at bs i).last - (batch_before bs i).last)
      = rw (last_before i, M.last i) in
      record {
        rises = omega (arith, last_before i, M.last i, b.rises);
        waits_batch = M.waits_batch i l;
        finishes = omega (arith, M.finish i, b.finishes, M.work_starts i l, e);
        within = omega (arith, M.finish i, b.within);
      }

  pub moved_obeys : {c : ℕ} → MosaicUnder c m bs → MosaicUnder c m cs
  moved_obeys law = record {
    each = λ i l. moved_batch i l (law.each i (omega (arith, M.count)));
    covers = last_before (length cs) ∙ ap (λ (n : ℕ). (batch_before bs n).last) M.count ∙ law.covers;
  }

-- batches with the same last strips and finishes complete each strip at the same time
same_completion : (bs cs : List Batch) → length cs ≡ length bs → ((i : ℕ) → (batch_at cs i).last ≡ (batch_at bs i).last)
    → ((i : ℕ) → (batch_at cs i).finish ≡ (batch_at bs i).finish) → (j : ℕ) → completion cs j ≡ completion bs j
unfolding completion batch_at
same_completion [] [] n l f j = refl
same_completion [] (c ∷ cs) n l f j = absurd (omega arith)
same_completion (b ∷ bs) [] n l f j = absurd (omega arith)
same_completion (b ∷ bs) (c ∷ cs) n l f j =
    rw (l 0, f 0, same_completion bs cs (omega arith) (λ i. l (suc i)) (λ i. f (suc i)) j)

pub moved_figure : (m : MosaicSection) {bs cs : List Batch} → MountsMoved m bs cs → mosaic_figure m cs ≡ mosaic_figure m bs
unfolding mosaic_figure
moved_figure m {bs} {cs} M =
    sum_same m.strips _ _ (λ j l. ap (λ (n : ℕ). strip_weight m (j + 1) * n) (same_completion bs cs M.count M.last M.finish (j + 1)))
