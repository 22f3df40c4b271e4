-- The figures of the batches that wait for their last strip, from the last strip back: a batch's bench work starts when its last strip is ready, at a time
-- that no earlier batch changes, and the row of the block that it begins has what is least after it.
use mathlib.Core.Path.{◌≡◌, ◌∙◌}
use mathlib.Core.List.{List}
use Prim.Native.Nat.{ℕ, ◌+◌, ◌*◌, ◌-◌, ◌≤◌, ◌<◌}
use native.Mathlib.Decide.{dec_lt}
use native.Mathlib.Omega.{arith}
use lib.ListN.{length, get_or, set, length-set}
use lib.Seq.{get_or-set_same, get_or-set_other}
use Rattle.batching.specs.Index.{least_at, closed_at}
use Rattle.batching.specs.Caps.{finish_cap}
use Rattle.batching.specs.Tables.{width, instance_in, closed_figure, ClosedFigurePre, RowFilled, LateFrom, FillLateAfterPre, LateAfter}
use Rattle.batching.specs.declared.input.Strips.{Strips}
use Rattle.batching.proofs.CandidateLaws.{closed_figure_is, closed_figure_pre}

-- the batches of the strips after i up to the strip before q are done
pub record LateSoFar (x : Strips) (late₀ row₀ late row : List ℕ) (i q : ℕ) : Type 0 where
  pub kept : (k : ℕ) → ((p : ℕ) → i < p → p ≤ x.count → k ≡ width * i + p → ⊥) → get_or late k 0 ≡ get_or late₀ k 0
  pub done : (p : ℕ) → i < p → p < q → get_or late (width * i + p) 0 ≡ closed_at (instance_in x) (get_or x.ready.now (p - 1) 0) i p
  pub from : i < q
  pub late_len : length late ≡ length late₀
  pub row_len : length row ≡ length row₀

module _ {x : Strips} {late₀ row₀ : List ℕ} {i : ℕ} (P : FillLateAfterPre x late₀ row₀ i) where
  module _ {late row : List ℕ} {q : ℕ} (M : LateSoFar x late₀ row₀ late row i q) (h : q ≤ x.count) where
    -- bench work that waits for any strip, which stands at j
    module _ (j : ℕ) where
      finish_most : get_or x.ready.now j 0 + (get_or x.bench_sums.now q 0 - get_or x.bench_sums.now i 0) ≤ finish_cap
      finish_most = omega (arith, x.input.most_sum q h, x.input.most_ready j)

      module _ {row₁ : List ℕ} (R : RowFilled x row row₁ (get_or x.ready.now j 0) i q) where
        row_is : get_or row₁ q 0 ≡ least_at (instance_in x) q (get_or x.ready.now j 0 + (get_or x.bench_sums.now q 0 - get_or x.bench_sums.now i 0))
        row_is = R.row.at q (omega arith) h

        pub after_closed : ClosedFigurePre x row₁ (get_or x.ready.now j 0) i q
        after_closed = closed_figure_pre (omega (arith, M.from)) h (omega (arith, P.row_long, M.row_len, R.len)) finish_most row_is

    -- the batch that is due: its bench work waits for its last strip, q
    abbrev begin : ℕ
    begin = get_or x.ready.now (q - 1) 0

    module _ {row₁ : List ℕ} {figure : ℕ} (R : RowFilled x row row₁ begin i q) (e : figure ≡ closed_figure x row₁ begin i q) where
      new_is : (p : ℕ) → p ≡ q → get_or (set late (width * i + q) figure) (width * i + p) 0 ≡ closed_at (instance_in x) (get_or x.ready.now (p - 1) 0) i p
      new_is p z =
          rw z (get_or-set_same late (width * i + q) figure 0 (omega (arith, P.late_long, M.late_len, x.input.most_strips_holds, P.inside)) ∙ e
          ∙ closed_figure_is x row₁ begin i q (row_is (q - 1) R))

      pub after_step : LateSoFar x late₀ row₀ (set late (width * i + q) figure) row₁ i (q + 1)
      after_step = record {
        kept = λ k g. get_or-set_other late (width * i + q) k figure 0 (g q M.from h) ∙ M.kept k g;
        done = λ p g k. elim (dec_lt p q) [
          | yes y ↦ get_or-set_other late (width * i + q) (width * i + p) figure 0 (omega arith) ∙ M.done p g y
          | no y ↦ new_is p (omega arith)
        ];
        from = omega (arith, M.from);
        late_len = length-set late (width * i + q) figure ∙ M.late_len;
        row_len = R.len ∙ M.row_len;
      }

  pub after_end : {late row : List ℕ} {q : ℕ} → LateSoFar x late₀ row₀ late row i q → x.count < q → LateAfter x late₀ late i
  after_end M h = record { at = λ p k l. M.done p k (omega arith); kept = M.kept }

-- the batches of the strips after i or a later strip are done
pub record AllSoFar (x : Strips) (late₀ late row : List ℕ) (i : ℕ) : Type 0 where
  pub later : LateFrom x late i
  pub kept : (k : ℕ) → ((j q : ℕ) → j < q → q ≤ x.count → k ≡ width * j + q → ⊥) → get_or late k 0 ≡ get_or late₀ k 0
  pub to : i ≤ x.count
  pub late_len : length late ≡ length late₀
  pub row_len : length row ≡ width

module _ {x : Strips} {late₀ late row late₁ : List ℕ} {i : ℕ} (M : AllSoFar x late₀ late row i) (h : 0 < i) (A : LateAfter x late late₁ (i - 1)) where
  filled_at : (j q : ℕ) → i - 1 ≤ j → j < q → q ≤ x.count → get_or late₁ (width * j + q) 0 ≡ closed_at (instance_in x) (get_or x.ready.now (q - 1) 0) j q
  filled_at j q g k l = elim (dec_lt (i - 1) j) [
    | yes y ↦ A.kept (width * j + q) (λ r a b e. omega (arith, x.input.most_strips_holds)) ∙ M.later.at j q (omega arith) k l
    | no y ↦
        let e : j ≡ i - 1 = omega arith in
        rw e (A.at q (omega arith) l)
  ]

  pub all_step : {row₁ : List ℕ} → length late₁ ≡ length late → length row₁ ≡ length row → AllSoFar x late₀ late₁ row₁ (i - 1)
  all_step e f = record {
    later = record { at = filled_at };
    kept = λ k g. A.kept k (g (i - 1)) ∙ M.kept k g;
    to = omega (arith, M.to);
    late_len = e ∙ M.late_len;
    row_len = f ∙ M.row_len;
  }
