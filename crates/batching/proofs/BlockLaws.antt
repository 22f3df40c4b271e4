-- A block's rows, from the last strip back: each turns the row of the block with one batch more into its own, one mount time earlier.
use mathlib.Core.Path.{◌≡◌, refl, ◌∙◌, sym}
use mathlib.Core.List.{List}
use Prim.Native.Nat.{ℕ, ◌+◌, ◌*◌, ◌-◌, ◌≤◌, ◌<◌}
use native.Mathlib.Omega.{arith}
use lib.ListN.{length, get_or, set, length-set}
use lib.Seq.{get_or-set_same}
use Rattle.batching.specs.Tables.{instance_in, RowIs, FillBlockPre}
use Rattle.batching.specs.Recursion.{least_end}
use Rattle.batching.specs.declared.input.Strips.{Strips}

-- the row from p on is done, at the time of as many mounts
pub record BlockSoFar (x : Strips) (row₀ row : List ℕ) (begin i lo p : ℕ) : Type 0 where
  pub row_is : RowIs x row (begin + (p - lo) * x.mount) i p
  pub row_long : x.count < length row
  pub len : length row ≡ length row₀
  pub below : (k : ℕ) → k < lo → get_or row k 0 ≡ get_or row₀ k 0
  pub above : (k : ℕ) → x.count < k → get_or row k 0 ≡ get_or row₀ k 0
  pub from : lo ≤ p
  pub to : p ≤ x.count

module _ {x : Strips} {late entry : List ℕ} {begin i lo : ℕ} (P : FillBlockPre x late entry begin i lo) where
  pub block_start : BlockSoFar x (set entry x.count 0) (set entry x.count 0) begin i lo x.count
  block_start = record {
    row_is = record {
      at = λ p h k.
          let e : p ≡ x.count = omega arith in
          rw e (get_or-set_same entry x.count 0 0 P.row_long ∙ sym (least_end (instance_in x) x.count _ (omega arith)));
    };
    row_long = omega (arith, P.row_long, length-set entry x.count 0);
    len = refl;
    below = λ k h. refl;
    above = λ k h. refl;
    from = P.inside;
    to = omega arith;
  }
