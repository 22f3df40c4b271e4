-- Laws of columns: there are so many of them, each is the filler or a digit, and a number that fits is read back from them,
-- so that it is not cut and no two such numbers have the same columns.
use Prim.Native.Nat.{ℕ, zero, suc, ◌+◌, ◌-◌, ◌/◌, ◌%◌, ◌^◌, ◌≤◌, ◌<◌}
use Rattle.std.specs.Prelude.{◌≡◌, ◌⊎◌, ◌≢◌, Bool, length, get_or}
use Rattle.std.proofs.Math.Path.{refl}
use Rattle.std.proofs.Common.{sym, ap, ◌∙◌, mod-eq_of_lt}
use Rattle.std.proofs.Math.Logic.{inl, inr}
use Rattle.std.proofs.Math.Bool.{true, false, cond}
use Rattle.std.proofs.Math.Nat.{one-le-pow, pow-succ'}
use native.Mathlib.Omega.{arith}
use Rattle.std.proofs.Math.Arith.{mod-mul}
use Rattle.std.proofs.Math.Dec.{ltb}
use borrow.Author.Tests.{ltb-false}
use Rattle.decimal.specs.Columns.{zero_digit, space, column_of, column_at, columns, columns_value}

pub length_columns : (filler width value : ℕ) → length (columns filler width value) ≡ width
unfolding columns
length_columns filler zero value = refl
length_columns filler (suc width) value = ap suc (length_columns filler width value)

-- the columns by index: the one at index i stands width - 1 - i places left of the units
pub column_place : (filler width value i : ℕ) → i < width → get_or (columns filler width value) i 0 ≡ column_at filler value (width - 1 - i)
unfolding columns
column_place filler zero value i h = absurd (omega arith)
column_place filler (suc width) value zero h = let e : width ≡ suc width - 1 - 0 = omega arith in ap (column_at filler value) e
column_place filler (suc width) value (suc i) h =
    let e : width - 1 - i ≡ suc width - 1 - suc i = omega arith in
    column_place filler width value i (omega arith) ∙ ap (column_at filler value) e

-- a column is the filler or a digit
module _ (filler : ℕ) where
  kind_of : (rest : ℕ) → (column_of filler rest ≡ filler) ⊎ ((zero_digit ≤ column_of filler rest) × (column_of filler rest < zero_digit + 10))
  unfolding column_of
  kind_of rest = cases (ltb 0 rest)
    where
      cases : (b : Bool) → (cond b (zero_digit + rest % 10) filler ≡ filler)
          ⊎ ((zero_digit ≤ cond b (zero_digit + rest % 10) filler) × (cond b (zero_digit + rest % 10) filler < zero_digit + 10))
      cases true = inr (omega arith, omega arith)
      cases false = inl refl

  kind_at : (value k : ℕ) → (column_at filler value k ≡ filler) ⊎ ((zero_digit ≤ column_at filler value k) × (column_at filler value k < zero_digit + 10))
  unfolding column_at
  kind_at value zero = inr (omega arith, omega arith)
  kind_at value (suc k) = kind_of (value / 10 ^ suc k)

  pub filler_or_digit : (width value i : ℕ) → i < width → (get_or (columns filler width value) i 0 ≡ filler)
      ⊎ ((zero_digit ≤ get_or (columns filler width value) i 0) × (get_or (columns filler width value) i 0 < zero_digit + 10))
  filler_or_digit width value i h = rw (column_place filler width value i h) (kind_at value (width - 1 - i))

-- where the filler is a space, no column is a line feed
pub no_line_feed : (width value i : ℕ) → i < width → get_or (columns space width value) i 0 ≢ 10
no_line_feed width value i h e = elim (filler_or_digit space width value i h) [ inl f ↦ omega arith | inr d ↦ omega arith ]

-- what a column counts is the number's digit at its place
module _ (filler : ℕ) (small : filler ≤ zero_digit) where
  digit_of : (rest : ℕ) → column_of filler rest - zero_digit ≡ rest % 10
  unfolding column_of
  digit_of rest = cases (ltb 0 rest) refl
    where
      cases : (b : Bool) → ltb 0 rest ≡ b → cond b (zero_digit + rest % 10) filler - zero_digit ≡ rest % 10
      cases true e = omega arith
      cases false e = let none : rest ≤ 0 = ltb-false 0 rest e in omega arith

  digit_at : (value k : ℕ) → column_at filler value k - zero_digit ≡ value / 10 ^ k % 10
  unfolding column_at
  digit_at value zero = omega arith
  digit_at value (suc k) = digit_of (value / 10 ^ suc k)

  -- columns say the number's digits at their places
  columns_say : (width value : ℕ) → columns_value (columns filler width value) ≡ value % 10 ^ width
  unfolding columns columns_value
  columns_say zero value = omega arith
  columns_say (suc k) value =
      rw (length_columns filler k value, digit_at value k, columns_say k value, pow-succ' 10 k)
      (sym (mod-mul value (one-le-pow 1 10 (omega arith)) (one-le-pow k 10 (omega arith))))

-- no number that fits is cut
pub columns_back : (filler width value : ℕ) → filler ≤ zero_digit → value < 10 ^ width → columns_value (columns filler width value) ≡ value
columns_back filler width value small h = columns_say filler small width value ∙ mod-eq_of_lt h
