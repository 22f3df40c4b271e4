-- The pass order as a number (01, "The sheet"): "In the order number, bit 0 (the lowest) is the earliest pass; a 1 is a second pass, a 0 a first pass.
-- For n blocks it is proper when exactly n ones stand in its lowest 2n bits, no higher bit is set, and no beginning of it has more ones than zeros."
use Rattle.std.specs.Prelude.{◌≡◌, Bool, true, false, ◌&&◌, ℕ, zero, suc, ◌+◌, ◌-◌, ◌*◌, ◌/◌, ◌%◌, ◌^◌, ◌≤◌, ◌<◌, ltb, leb, eqb}

-- Bit k of x, the pass at position k from 0: 1 is a second pass, 0 a first pass.
abbrev pub bit : ℕ → ℕ → ℕ
bit x k = x / 2 ^ k % 2

-- The beginning of k passes: its ones, the second passes, ..
unfoldable pub seconds : ℕ → ℕ → ℕ
seconds x zero = 0
seconds x (suc k) = bit x k + seconds x k

-- .. and its zeros, the first passes.
unfoldable pub firsts : ℕ → ℕ → ℕ
firsts x k = k - seconds x k

-- 01: "For n blocks it is proper when ..". A beginning longer than 2n passes has only zeros more, so those of at most 2n passes are all.
pub record Proper (n x : ℕ) : Type 0 where
  -- "exactly n ones stand in its lowest 2n bits"
  pub exactly : seconds x (2 * n) ≡ n
  -- "no higher bit is set"
  pub no_higher : x < 2 ^ (2 * n)
  -- "no beginning of it has more ones than zeros"
  pub beginnings : (k : ℕ) → k ≤ 2 * n → seconds x k ≤ firsts x k

-- The same as a test: no beginning of at most k passes has more ones than zeros.
unfoldable pub never_more_seconds : ℕ → ℕ → Bool
never_more_seconds x zero = true
never_more_seconds x (suc k) = leb (seconds x (suc k)) (firsts x (suc k)) && never_more_seconds x k

unfoldable pub is_proper : ℕ → ℕ → Bool
is_proper n x = eqb (seconds x (2 * n)) n && ltb x (2 ^ (2 * n)) && never_more_seconds x (2 * n)

-- The test r says whether P holds.
pub record Decides (P : Type 0) (r : Bool) : Type 0 where
  pub holds : r ≡ true → P
  pub fails : r ≡ false → P → ⊥
