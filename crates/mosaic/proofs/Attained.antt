-- The batches taken are a lawful timetable, have the least figure, start as early as they can, and finish before the ceiling.
-- One induction over the strips left shows all four.
use Rattle.std.specs.Prelude.{◌≡◌, List, [], ◌∷◌}
use Rattle.std.proofs.Math.Path.{refl, ap}
use Rattle.std.proofs.Common.{◌∙◌}
use Prim.Native.Nat.{ℕ, zero, suc, ◌+◌, ◌*◌, ◌-◌, ◌≤◌, ◌<◌}
use Rattle.std.proofs.Math.Nat.{mul-le-mul}
use Rattle.std.proofs.Math.Decide.{dec_lt}
use native.Mathlib.Omega.{arith}
use Rattle.sheet.specs.Limits.{most_weight, most_strips}
use Rattle.sheet.specs.Sound.{MosaicSound}
use Rattle.sheet.specs.declared.MosaicSection.{MosaicSection}
use Rattle.rules.specs.declared.Batch.{Batch}
use Rattle.rules.specs.Mosaic.{ready, setup_time}
use Rattle.running.specs.FunctionLaws.{batch_weight_most}
use Rattle.running.specs.Running.{batch_weight, BatchFollows, none, more}
use Rattle.rules_laws.proofs.Finish.{setup_most}
use Rattle.rules_laws.specs.MosaicRunning.{running_figure}
use Rattle.batching.specs.Least.{bench_start, finish_of}
use Rattle.mosaic.specs.Least.{instance_of}
use Rattle.batching.specs.Chosen.{batch_of}
use Rattle.batching.specs.Index.{least_at, open_at, closed_at, chosen_at, chosen_open_at}
use Rattle.batching.specs.Recursion.{least_end, least_one, least_opens, open_last, open_more, chosen_end, chosen_opens, chosen_last, chosen_close, chosen_extend}
use Rattle.mosaic.proofs.Finish.{earliest_lawful}
use Rattle.mosaic.proofs.Rules.{bench_most, ready_most}
use Rattle.mosaic.specs.Laws.Attained.{AsEarly, FinishBy, latest, Attains}

module _ {m : MosaicSection} (S : MosaicSound m) where
  attains_none : (i free : ℕ) → i ≡ m.strips → Attains m i free 0 []
  unfolding running_figure AsEarly FinishBy
  attains_none i free h = record {
    lawful = λ p e f. none {before = p} (omega arith);
    figure_is = λ p e. refl;
    early = tt;
    finishes = tt;
  }

  module _ (i q free : ℕ) (h : i < q) (k : q ≤ m.strips) (l : free ≤ latest i) where
    finish_most : finish_of (instance_of m) free i q ≤ latest q
    unfolding instance_of finish_of bench_start
    finish_most =
        omega (arith, bench_most S i (q - i), ready_most S q, setup_most m S)

    pub attains_batch : (figure : ℕ) (bs : List Batch) → Attains m q (finish_of (instance_of m) free i q) figure bs
        → Attains m i free (batch_weight m i q * finish_of (instance_of m) free i q + figure) (batch_of (instance_of m) free i q ∷ bs)
    unfolding running_figure AsEarly FinishBy batch_of instance_of
    attains_batch figure bs A = record {
      lawful = λ p e f. more (follows p e f) (A.lawful (batch_of (instance_of m) free i q) refl refl);
      figure_is = λ p e.
          ap (λ (j : ℕ). batch_weight m j q * finish_of (instance_of m) free i q + running_figure m (batch_of (instance_of m) free i q) bs) e
          ∙ ap (λ (n : ℕ). batch_weight m i q * finish_of (instance_of m) free i q + n) (A.figure_is (batch_of (instance_of m) free i q) refl);
      early = (refl, A.early);
      finishes = (omega (arith, finish_most), A.finishes);
    } where
      follows : (p : Batch) → p.last ≡ i → p.finish ≡ free → BatchFollows m p (batch_of (instance_of m) free i q)
      follows p e f = unfold batch_of in record {
        lawful = earliest_lawful m i q free h (omega (arith, finish_most, S.most_strips_holds)) p e f;
        known = k;
      }

    -- to close the open batch at strip q
    close : Attains m q (finish_of (instance_of m) free i q) (least_at (instance_of m) q (finish_of (instance_of m) free i q))
        (chosen_at (instance_of m) q (finish_of (instance_of m) free i q))
        → Attains m i free (closed_at (instance_of m) (bench_start (setup_time m) free (ready m q)) i q)
        (batch_of (instance_of m) free i q ∷ chosen_at (instance_of m) q (finish_of (instance_of m) free i q))
    unfolding closed_at instance_of finish_of
    close A = attains_batch _ _ A

  same : {i free v v' : ℕ} {bs bs' : List Batch} → v' ≡ v → bs' ≡ bs → Attains m i free v bs → Attains m i free v' bs'
  same e f A = rw (e, f) A

  -- d strips follow strip q
  attains_open : (d i q free : ℕ) → i < q → q + d ≡ m.strips → free ≤ latest i
      → Attains m i free (open_at (instance_of m) i q free) (chosen_open_at (instance_of m) i q free)
  unfolding instance_of
  attains_open zero i q free h k l =
      let x = instance_of m in
      let F = finish_of x free i q in
      same (open_last x i q free (omega arith)) (chosen_last x i q free (omega arith))
      (close i q free h (omega arith) l (same (least_end x q F (omega arith)) (chosen_end x q F (omega arith)) (attains_none q F (omega arith))))
  attains_open (suc d) i q free h k l =
      let x = instance_of m in
      let F = finish_of x free i q in
      let less : q < m.strips = omega arith in
      elim (dec_lt (closed_at x (bench_start (setup_time m) free (ready m q)) i q) (open_at x i (q + 1) free)) [
        | yes y ↦
            same (omega (arith, open_more x i q free less)) (chosen_close x i q free less y)
            (close i q free h (omega arith) l
            (same (least_opens x q F less) (chosen_opens x q F less) (attains_open d q (q + 1) F (omega arith) (omega arith) (finish_most i q free h (omega arith) l))))
        | no y ↦
            same (omega (arith, open_more x i q free less)) (chosen_extend x i q free less (omega arith))
            (attains_open d i (q + 1) free (omega arith) (omega arith) l)
      ]

  pub attains_at : (i free : ℕ) → i ≤ m.strips → free ≤ latest i → Attains m i free (least_at (instance_of m) i free) (chosen_at (instance_of m) i free)
  unfolding instance_of
  attains_at i free h l =
      let x = instance_of m in
      elim (dec_lt i m.strips) [
        | yes y ↦ same (least_opens x i free y) (chosen_opens x i free y) (attains_open (m.strips - (i + 1)) i (i + 1) free (omega arith) (omega arith) l)
        | no y ↦ same (least_end x i free (omega arith)) (chosen_end x i free (omega arith)) (attains_none i free (omega arith))
      ]

  -- the figure of one batch of all strips is a bound
  pub figure_most : least_at (instance_of m) 0 0 ≤ most_strips * most_weight * latest most_strips
  unfolding instance_of
  figure_most =
      let x = instance_of m in
      elim (dec_lt 0 m.strips) [
        | yes y ↦
            let w : x.weight 0 m.strips ≤ most_strips * most_weight = omega (arith, batch_weight_most m S 0 m.strips, S.most_strips_holds) in
            let f : finish_of x 0 0 m.strips ≤ latest most_strips = omega (arith, finish_most 0 m.strips 0 y (omega arith) (omega arith), S.most_strips_holds) in
            omega (arith, least_one x 0 0 y, mul-le-mul w f)
        | no y ↦ omega (arith, least_end x 0 0 (omega arith))
      ]
