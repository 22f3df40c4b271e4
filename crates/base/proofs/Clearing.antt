-- Zeros written from the front: the first z elements are 0, the others as they were.
use mathlib.Core.Path.{◌≡◌, refl, ◌∙◌}
use mathlib.Core.List.{List, ◌++◌, append-nil}
use Prim.Native.Nat.{ℕ, ◌+◌, ◌≤◌, ◌<◌}
use native.Mathlib.Omega.{arith}
use borrow.Author.Fill.{fill_none, fill_more}
use lib.ListN.{length, set, drop, replicate, length-set}
use lib.Seq.{drop-length}

pub record Cleared (t₀ t : List ℕ) (z : ℕ) : Type 0 where
  pub within : z ≤ length t₀
  pub same_length : length t ≡ length t₀
  pub values : t ≡ replicate z 0 ++ drop z t₀

pub cleared_none : (t : List ℕ) → Cleared t t 0
cleared_none t = record { within = omega arith; same_length = refl; values = fill_none t 0 }

pub cleared_more : {t₀ t : List ℕ} {z : ℕ} → Cleared t₀ t z → z < length t₀ → Cleared t₀ (set t z 0) (z + 1)
cleared_more {t₀} {t} {z} a l = record {
  within = omega arith;
  same_length = simp length-set a.same_length;
  values = rw a.values (fill_more z 0 t₀ (omega arith));
}

pub cleared_all : {t₀ t : List ℕ} {z : ℕ} → Cleared t₀ t z → length t₀ ≤ z → t ≡ replicate (length t₀) 0
cleared_all {t₀} {t} {z} a l = a.values ∙ all
  where
    q : z ≡ length t₀
    q = omega arith

    all : replicate z 0 ++ drop z t₀ ≡ replicate (length t₀) 0
    all = rw (q, drop-length, append-nil)
