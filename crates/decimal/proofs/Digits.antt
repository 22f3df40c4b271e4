-- The decimal digits of a number, as many as it has and no more. A number that fits its columns stands in them right-aligned:
-- the filler so often that the digits end in the last column, then the digits, of which the first is 0 for the number 0 alone.
use Prim.Native.Nat.{ℕ, zero, suc, ◌+◌, ◌-◌, ◌*◌, ◌/◌, ◌%◌, ◌^◌, ◌≤◌, ◌<◌}
use Rattle.std.specs.Prelude.{◌≡◌, Bool, length, get_or, replicate}
use Rattle.std.proofs.Math.Path.{refl}
use Rattle.std.proofs.Common.{ap, ◌∙◌, mul_assoc, pow-suc, add-one, arith, length-append}
use Rattle.std.proofs.Math.Bool.{true, false}
use mathlib.Core.List.{List, [], ◌∷◌, ◌++◌, append_assoc}
use Rattle.std.proofs.Math.Nat.{pow-succ', div-div-eq-div-mul, zero-div}
use Rattle.std.proofs.lemmas.List.{length-replicate}
use Rattle.std.proofs.Math.ListN.{get_or-append}
use Rattle.std.proofs.Math.Dec.{ltb}
use borrow.Author.Tests.{lt-ltb, ltb-true, ltb-false}
use Rattle.decimal.specs.Columns.{zero_digit, column_of, column_at, columns, columns_value}
use Rattle.decimal.proofs.Laws.{length_columns}
use Rattle.decimal.specs.Digits.{digits_within, digits_of}

-- what holds of the one digit of a number below 10, and of one digit more, holds of the digits of every number
module _ (P : ℕ → List ℕ → Type 0)
    (one : (value : ℕ) → value < 10 → P value ((zero_digit + value) ∷ []))
    (more : (value : ℕ) (digits : List ℕ) → 10 ≤ value → P (value / 10) digits → P value (digits ++ (zero_digit + value % 10) ∷ [])) where
  within : (steps value : ℕ) → value < steps → P value (digits_within steps value)
  unfolding digits_within
  within zero value h = absurd (omega arith)
  within (suc steps) value h = cases (ltb value 10) refl (within steps (value / 10))
    where
      cases : (b : Bool) → ltb value 10 ≡ b → (value / 10 < steps → P (value / 10) (digits_within steps (value / 10)))
          → P value (elim b [ true ↦ (zero_digit + value) ∷ [] | false ↦ digits_within steps (value / 10) ++ (zero_digit + value % 10) ∷ [] ])
      cases true e again = one value (ltb-true value 10 e)
      cases false e again =
          let large : 10 ≤ value = ltb-false value 10 e in
          more value (digits_within steps (value / 10)) large (again (omega arith))

  digits_induction : (value : ℕ) → P value (digits_of value)
  unfolding digits_of
  digits_induction value = within (suc value) value (omega arith)

-- the columns left of the units, from what the number leaves without its last digit
leading : ℕ → ℕ → ℕ → List ℕ
leading filler zero rest = []
leading filler (suc k) rest = column_of filler (rest / 10 ^ k) ∷ leading filler k rest

-- columns are those of the number without its last digit, and the last digit
columns_last : (filler k value : ℕ) → columns filler (suc k) value ≡ leading filler k (value / 10) ++ (zero_digit + value % 10) ∷ []
unfolding leading columns column_at
columns_last filler zero value = refl
columns_last filler (suc k) value =
    rw (pow-succ' 10 k, ← div-div-eq-div-mul value 10 (10 ^ k)) (ap (λ l. column_of filler (value / 10 / 10 ^ k) ∷ l) (columns_last filler k value))

leading_none : (filler k : ℕ) → leading filler k 0 ≡ replicate k filler
unfolding leading column_of
leading_none filler zero = refl
leading_none filler (suc k) = let e : 0 / 10 ^ k ≡ 0 = zero-div (10 ^ k) in rw e (ap (λ l. filler ∷ l) (leading_none filler k))

leading_some : (filler k rest : ℕ) → 0 < rest → leading filler k rest ≡ columns filler k rest
unfolding leading columns column_at column_of
leading_some filler zero rest h = refl
leading_some filler (suc zero) rest h = let e : rest / 10 ^ 0 ≡ rest = omega arith in rw (e, lt-ltb 0 rest h)
leading_some filler (suc (suc k)) rest h = ap (λ l. column_of filler (rest / 10 ^ suc k) ∷ l) (leading_some filler (suc k) rest h)

-- the columns of a number that fits, by its digits
abbrev Aligned : ℕ → ℕ → List ℕ → Type 0
Aligned filler value digits =
    (width : ℕ) → 0 < width → value < 10 ^ width → columns filler width value ≡ replicate (width - length digits) filler ++ digits

aligned_one : (filler value : ℕ) → value < 10 → Aligned filler value ((zero_digit + value) ∷ [])
aligned_one filler value h zero some fits = absurd (omega arith)
aligned_one filler value h (suc k) some fits =
    columns_last filler k value ∙ rw (none, last, less) (ap (λ l. l ++ (zero_digit + value) ∷ []) (leading_none filler k))
  where
    none : value / 10 ≡ 0
    none = omega arith

    last : value % 10 ≡ value
    last = omega arith

    less : suc k - 1 ≡ k
    less = omega arith

aligned_more : (filler value : ℕ) (digits : List ℕ) → 10 ≤ value → Aligned filler (value / 10) digits
    → Aligned filler value (digits ++ (zero_digit + value % 10) ∷ [])
aligned_more filler value digits h again zero some fits = absurd (omega arith)
aligned_more filler value digits h again (suc zero) some fits = absurd (omega arith)
aligned_more filler value digits h again (suc (suc j)) some fits =
    columns_last filler (suc j) value
    ∙ ap (λ l. l ++ (zero_digit + value % 10) ∷ [])
    (leading_some filler (suc j) (value / 10) (omega arith) ∙ again (suc j) (omega arith) (omega (arith, pow-suc 10 (suc j))))
    ∙ append_assoc (replicate (suc j - length digits) filler) digits ((zero_digit + value % 10) ∷ [])
    ∙ rw (length-append digits ((zero_digit + value % 10) ∷ []), less)
  where
    less : suc (suc j) - (length digits + 1) ≡ suc j - length digits
    less = omega arith

-- a number that fits stands right-aligned in its columns: fillers, then its digits
pub right_aligned : (filler width value : ℕ) → 0 < width → value < 10 ^ width
    → columns filler width value ≡ replicate (width - length (digits_of value)) filler ++ digits_of value
right_aligned filler width value = digits_induction (Aligned filler) (aligned_one filler) (aligned_more filler) value width

-- so its digits are no more than its columns
pub digits_fit : (width value : ℕ) → 0 < width → value < 10 ^ width → length (digits_of value) ≤ width
digits_fit width value w h =
    omega (arith, length_columns 0 width value, simp (length-append, length-replicate) at (ap length (right_aligned 0 width value w h)))

-- there is a digit, and only the number 0 begins with the digit 0
abbrev First : ℕ → List ℕ → Type 0
First value digits = (0 < length digits) × (0 < value → zero_digit < get_or digits 0 0)

first_one : (value : ℕ) → value < 10 → First value ((zero_digit + value) ∷ [])
first_one value h = (omega arith, λ p. omega arith)

first_more : (value : ℕ) (digits : List ℕ) → 10 ≤ value → First (value / 10) digits → First value (digits ++ (zero_digit + value % 10) ∷ [])
first_more value digits h again = (omega (arith, length-append digits last), λ p. rw (get_or-append digits last 0 0 again.0) (again.1 (omega arith)))
  where
    last : List ℕ
    last = (zero_digit + value % 10) ∷ []

pub first_digit : (value : ℕ) → 0 < value → zero_digit < get_or (digits_of value) 0 0
first_digit value = (digits_induction First first_one first_more value).1

-- the digits say the number
value_more : (digits : List ℕ) (digit : ℕ) → columns_value (digits ++ digit ∷ []) ≡ columns_value digits * 10 + (digit - zero_digit)
unfolding columns_value
value_more [] digit = omega arith
value_more (c ∷ cs) digit =
    rw (length-append cs (digit ∷ []), value_more cs digit, add-one (length cs), pow-suc 10 (length cs))
    (omega (arith, mul_assoc (c - zero_digit) (10 ^ length cs) 10))

back_one : (value : ℕ) → value < 10 → columns_value ((zero_digit + value) ∷ []) ≡ value
unfolding columns_value
back_one value h = omega arith

back_more : (value : ℕ) (digits : List ℕ) → 10 ≤ value → columns_value digits ≡ value / 10 → columns_value (digits ++ (zero_digit + value % 10) ∷ []) ≡ value
back_more value digits h again = omega (arith, value_more digits (zero_digit + value % 10))

pub digits_back : (value : ℕ) → columns_value (digits_of value) ≡ value
digits_back = digits_induction (λ value digits. columns_value digits ≡ value) back_one back_more
