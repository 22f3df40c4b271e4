-- Bounds on the numbers of a list, after one of them is stored.
use Rattle.std.specs.Prelude.{ℕ, zero, suc, ◌+◌, ◌≤◌, ◌<◌, ◌≡◌, refl, List, length, get_or, set}
use Rattle.std.proofs.Math.Decide.{ℕ_discrete, dec_lt}
use Rattle.std.proofs.Common.{arith, length-set, get_or-set_same, get_or-set_other}
use Rattle.std.proofs.lemmas.List.{length-replicate}
use Rattle.std.proofs.Math.ListN.{get_or-eq_default}
use Rattle.sheet.specs.Decode.{zeros}

pub length_zeros : (n : ℕ) → length (zeros n) ≡ n
unfolding zeros
length_zeros n = length-replicate n 0

pub zeros_at : (n i : ℕ) → get_or (zeros n) i 0 ≡ 0
unfolding zeros
zeros_at zero i = refl
zeros_at (suc n) zero = refl
zeros_at (suc n) (suc i) = zeros_at n i

-- a store at i, read at i and elsewhere
pub set_here : (l : List ℕ) (i j v : ℕ) → i < length l → j ≡ i → get_or (set l i v) j 0 ≡ v
set_here l i j v h e = rw e (get_or-set_same l i v 0 h)

pub set_there : (l : List ℕ) (i j v : ℕ) → (j ≡ i → ⊥) → get_or (set l i v) j 0 ≡ get_or l j 0
set_there l i j v h = get_or-set_other l i j v 0 h

module _ (l : List ℕ) (most i v : ℕ) (all : (j : ℕ) → get_or l j 0 ≤ most) (fits : v ≤ most) where
  set_most_at : (j : ℕ) → Dec (j ≡ i) → Dec (i < length l) → get_or (set l i v) j 0 ≤ most
  set_most_at j (yes e) (yes h) = rw (set_here l i j v h e) fits
  set_most_at j (yes e) (no h) =
      rw (get_or-eq_default (set l i v) 0 {n = j} (omega (arith, length-set l i v))) (omega arith)
  set_most_at j (no e) h = rw (set_there l i j v e) (all j)

  -- all numbers stay within a bound
  pub set_most : (j : ℕ) → get_or (set l i v) j 0 ≤ most
  set_most j = set_most_at j (ℕ_discrete j i) (dec_lt i (length l))

module _ (l : List ℕ) (n v : ℕ) (all : (j : ℕ) → j < n → 1 ≤ get_or l j 0) (fits : 1 ≤ v) (room : n < length l) where
  set_least_at : (j : ℕ) → j < n + 1 → Dec (j ≡ n) → 1 ≤ get_or (set l n v) j 0
  set_least_at j h (yes e) = rw (set_here l n j v room e) fits
  set_least_at j h (no e) = rw (set_there l n j v e) (all j (omega arith))

  -- the first n numbers are at least 1, and so is the one stored behind them
  pub set_least : (j : ℕ) → j < n + 1 → 1 ≤ get_or (set l n v) j 0
  set_least j h = set_least_at j h (ℕ_discrete j n)

-- two lists of which no number of the one is above that of the other, and two numbers that are stored in them
module _ (l k : List ℕ) (i v w : ℕ) (all : (j : ℕ) → get_or l j 0 ≤ get_or k j 0) (fits : v ≤ w) (room : i < length k) where
  set_ordered_at : (j : ℕ) → Dec (j ≡ i) → Dec (i < length l) → get_or (set l i v) j 0 ≤ get_or (set k i w) j 0
  set_ordered_at j (yes e) (yes h) = rw (set_here l i j v h e, set_here k i j w room e) fits
  set_ordered_at j (yes e) (no h) = rw (get_or-eq_default (set l i v) 0 {n = j} (omega (arith, length-set l i v))) (omega arith)
  set_ordered_at j (no e) h = rw (set_there l i j v e, set_there k i j w e) (all j)

  pub set_ordered : (j : ℕ) → get_or (set l i v) j 0 ≤ get_or (set k i w) j 0
  set_ordered j = set_ordered_at j (ℕ_discrete j i) (dec_lt i (length l))
