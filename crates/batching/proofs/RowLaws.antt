-- A row is filled in place from lo on: entry p becomes the least figure at this block's time, while the entries above it still are those of the block with one
-- batch more.
use mathlib.Core.Path.{◌≡◌, ◌∙◌, sym}
use mathlib.Core.List.{List}
use Prim.Native.Nat.{ℕ, ◌+◌, ◌-◌, ◌≤◌, ◌<◌}
use native.Mathlib.Decide.{dec_lt}
use native.Mathlib.Omega.{arith}
use lib.ListN.{length, get_or}
use Rattle.batching.specs.Index.{least_at}
use Rattle.batching.specs.Tables.{instance_in, FillRowPre, RowFilled}
use Rattle.batching.specs.Recursion.{least_end}
use Rattle.batching.specs.declared.input.Strips.{Strips}

-- the entries lo .. p - 1 are done, those from p on are as they were
pub record RowSoFar (x : Strips) (row₀ row : List ℕ) (begin i lo p : ℕ) : Type 0 where
  pub from : lo ≤ p
  pub to : p ≤ x.count
  pub len : length row ≡ length row₀
  pub done : (k : ℕ) → lo ≤ k → k < p → get_or row k 0 ≡ least_at (instance_in x) k (begin + (get_or x.bench_sums.now k 0 - get_or x.bench_sums.now i 0))
  pub below : (k : ℕ) → k < lo → get_or row k 0 ≡ get_or row₀ k 0
  pub above : (k : ℕ) → p ≤ k → get_or row k 0 ≡ get_or row₀ k 0

module _ {x : Strips} {late row₀ : List ℕ} {begin i lo : ℕ} (P : FillRowPre x late row₀ begin i lo) where
  pub row_end : {row : List ℕ} {p : ℕ} → RowSoFar x row₀ row begin i lo p → x.count ≤ p → RowFilled x row₀ row begin i lo
  row_end {row} {p} M h = record {
    row = record {
      at = λ k l e. elim (dec_lt k p) [
        | yes y ↦ M.done k l y
        | no y ↦
            M.above k (omega arith) ∙ P.next.at k (omega (arith, P.inside)) e
            ∙ least_end (instance_in x) k (begin + x.mount + (get_or x.bench_sums.now k 0 - get_or x.bench_sums.now i 0)) (omega (arith, M.to))
            ∙ sym (least_end (instance_in x) k (begin + (get_or x.bench_sums.now k 0 - get_or x.bench_sums.now i 0)) (omega (arith, M.to)))
      ];
    };
    len = M.len;
    below = M.below;
    above = λ k l. M.above k (omega (arith, M.to));
  }
