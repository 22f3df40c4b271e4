-- A candidate's figure fits and is what the recursion has for closing the batch; the least of the candidates is the recursion's value.
use mathlib.Core.Path.{◌≡◌, refl, ◌∙◌, sym}
use mathlib.Core.List.{List}
use Prim.Native.Nat.{ℕ, ◌+◌, ◌*◌, ◌-◌, ◌≤◌, ◌<◌, min}
use native.Mathlib.Omega.{arith}
use lib.ListN.{length, get_or}
use Rattle.batching.specs.Least.{bench_start}
use Rattle.batching.specs.Index.{least_at, open_at, closed_at}
use Rattle.batching.specs.Caps.{finish_cap}
use Rattle.batching.specs.Tables.{width, instance_in, closed_figure, ClosedFigurePre, ChooseBatchPre, CandidatePre}
use Rattle.batching.specs.Recursion.{start_in_time, start_late, least_opens, open_last, open_more}
use Rattle.batching.specs.Bounds.{least_most}
use Rattle.batching.specs.declared.input.Strips.{Strips}

-- what the code adds up is the batch's figure
pub closed_is : (x : Strips) (row : List ℕ) (begin i q : ℕ)
    → (get_or x.weight_sums.now q 0 - get_or x.weight_sums.now i 0) * (begin + (get_or x.bench_sums.now q 0 - get_or x.bench_sums.now i 0)) + get_or row q 0
    ≡ closed_figure x row begin i q
unfolding closed_figure
closed_is x row begin i q = refl

-- where the row has what is least after the batch, that figure is the recursion's
pub closed_figure_is : (x : Strips) (row : List ℕ) (begin i q : ℕ)
    → get_or row q 0 ≡ least_at (instance_in x) q (begin + (get_or x.bench_sums.now q 0 - get_or x.bench_sums.now i 0))
    → closed_figure x row begin i q ≡ closed_at (instance_in x) begin i q
unfolding closed_figure closed_at
closed_figure_is x row begin i q e = rw e

-- and may be asked for
pub closed_figure_pre : {x : Strips} {row : List ℕ} {begin i q : ℕ} → i ≤ q → q ≤ x.count → x.count < length row
    → begin + (get_or x.bench_sums.now q 0 - get_or x.bench_sums.now i 0) ≤ finish_cap
    → get_or row q 0 ≡ least_at (instance_in x) q (begin + (get_or x.bench_sums.now q 0 - get_or x.bench_sums.now i 0)) → ClosedFigurePre x row begin i q
closed_figure_pre {x} {q = q} h k l f e = record {
  rises = h;
  last = k;
  row_long = omega arith;
  most_finish_holds = f;
  most_rest = omega (arith, e, least_most x q _ f);
}

module _ {x : Strips} {late row : List ℕ} {free i q : ℕ} (P : CandidatePre x late row free i q) where
  row_is : get_or row q 0 ≡ least_at (instance_in x) q (free + x.mount + (get_or x.bench_sums.now q 0 - get_or x.bench_sums.now i 0))
  row_is = P.from.ahead.row_at q P.first P.last

  pub candidate_closed : ClosedFigurePre x row (free + x.mount) i q
  candidate_closed =
      closed_figure_pre (omega (arith, P.first)) P.last P.from.row_long
      (omega (arith, x.input.most_sum q P.last, x.input.most_mount, P.from.most_free_holds)) row_is

  pub candidate_in_time : get_or x.ready.now (q - 1) 0 ≤ free + x.mount → (r : ℕ) → r ≡ closed_figure x row (free + x.mount) i q
      → r ≡ closed_at (instance_in x) (bench_start x.mount free (get_or x.ready.now (q - 1) 0)) i q
  candidate_in_time h r e = rw (start_in_time x.mount free (get_or x.ready.now (q - 1) 0) h) (e ∙ closed_figure_is x row (free + x.mount) i q row_is)

  pub candidate_late : free + x.mount < get_or x.ready.now (q - 1) 0
      → get_or late (width * i + q) 0 ≡ closed_at (instance_in x) (bench_start x.mount free (get_or x.ready.now (q - 1) 0)) i q
  candidate_late h = rw (start_late x.mount free (get_or x.ready.now (q - 1) 0) h) (P.from.ahead.late_at q P.first P.last)

-- the least of the candidates from n down to q
pub record LeastSoFar (x : Strips) (free i q least : ℕ) : Type 0 where
  pub from : i < q
  pub to : q ≤ x.count
  pub least_is : least ≡ open_at (instance_in x) i q free

module _ {x : Strips} {late row : List ℕ} {free i : ℕ} (P : ChooseBatchPre x late row free i) where
  pub least_start : {figure : ℕ} → figure ≡ closed_at (instance_in x) (bench_start x.mount free (get_or x.ready.now (x.count - 1) 0)) i x.count
      → LeastSoFar x free i x.count figure
  least_start e = record { from = P.inside; to = omega arith; least_is = e ∙ sym (open_last (instance_in x) i x.count free refl) }

  module _ {q least : ℕ} (M : LeastSoFar x free i q least) (h : i + 1 < q) where
    open_next : open_at (instance_in x) i (q - 1) free
        ≡ min (closed_at (instance_in x) (bench_start x.mount free (get_or x.ready.now (q - 1 - 1) 0)) i (q - 1)) (open_at (instance_in x) i q free)
    open_next =
        let z : q - 1 + 1 ≡ q = omega arith in
        rw z at (open_more (instance_in x) i (q - 1) free (omega (arith, M.to)))

    module _ {figure : ℕ} (e : figure ≡ closed_at (instance_in x) (bench_start x.mount free (get_or x.ready.now (q - 1 - 1) 0)) i (q - 1)) where
      pub least_less : figure < least → LeastSoFar x free i (q - 1) figure
      least_less l = record { from = omega arith; to = omega (arith, M.to); least_is = omega (arith, open_next, M.least_is) }

      pub least_more : least ≤ figure → LeastSoFar x free i (q - 1) least
      least_more l = record { from = omega arith; to = omega (arith, M.to); least_is = omega (arith, open_next, M.least_is) }

  pub least_end_is : {q least : ℕ} → LeastSoFar x free i q least → q ≤ i + 1 → least ≡ least_at (instance_in x) i free
  least_end_is {q} M k =
      let z : q ≡ i + 1 = omega (arith, M.from) in
      (rw z at M.least_is) ∙ sym (least_opens (instance_in x) i free P.inside)
