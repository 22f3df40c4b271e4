-- Laws for a loop that stores the columns of a number from the units to the left: what holds before each column,
-- how one column more is stored, and that in the end all are stored.
use Rattle.std.specs.Prelude.{ℕ, suc, ◌+◌, ◌-◌, ◌/◌, ◌%◌, ◌^◌, ◌≤◌, ◌<◌, ◌≡◌, refl, List}
use Rattle.std.proofs.Math.Path.{ap}
use Rattle.std.proofs.Common.{◌∙◌, pow-suc, length-set, lt-ltb, le-ltb}
use Rattle.std.proofs.Math.Nat.{div-div-eq-div-mul}
use native.Mathlib.Omega.{arith}
use Rattle.std.proofs.Math.ListN.{set}
use Rattle.field.specs.Put.{put, put_none, put_front}
use Rattle.decimal.specs.Columns.{zero_digit, column_of, column_at, columns}
use Rattle.decimal.specs.Storing.{Stored}

-- one column, by whether anything is left of the number
pub column_digit : (filler rest : ℕ) → 0 < rest → zero_digit + rest % 10 ≡ column_of filler rest
unfolding column_of
column_digit filler rest h = simp (lt-ltb _ _ h)

pub column_filler : (filler rest : ℕ) → rest ≤ 0 → filler ≡ column_of filler rest
unfolding column_of
column_filler filler rest h = simp (le-ltb _ _ h)

pub stored_none : (d : List ℕ) (at width filler value : ℕ) → Stored d d at width filler value width value (zero_digit + value % 10)
unfolding column_at columns
stored_none d at width filler value =
    record { within = omega arith; long = refl; same = rw none (put_none d (at + width)); over = rw none (omega arith); is_next = rw none }
  where
    none : width - width ≡ 0
    none = omega arith

module _ (d₀ d : List ℕ) (at width filler value left rest next : ℕ) (s : Stored d₀ d at width filler value left rest next) where
  one_more : 0 < left → width - (left - 1) ≡ suc (width - left)
  one_more h = let w = s.within in omega arith

  over_more : 0 < left → rest / 10 ≡ value / 10 ^ (width - (left - 1))
  over_more h = rw (one_more h, s.over, pow-suc) (div-div-eq-div-mul value (10 ^ (width - left)) 10)

  same_more : 0 < left → set d (at + (left - 1)) next ≡ put d₀ (at + (left - 1)) (columns filler (width - (left - 1)) value)
  unfolding columns
  same_more h =
      rw (one_more h, ← s.is_next)
      (ap (λ l. set l (at + (left - 1)) next) (s.same ∙ ap (λ k. put d₀ k (columns filler (width - left) value)) behind)
      ∙ put_front d₀ (at + (left - 1)) next (columns filler (width - left) value))
    where
      behind : at + left ≡ at + (left - 1) + 1
      behind = omega arith

  next_more : 0 < left → column_of filler (rest / 10) ≡ column_at filler value (width - (left - 1))
  unfolding column_at
  next_more h = rw (over_more h, one_more h)

  pub stored_more : (c : ℕ) → 0 < left → c ≡ column_of filler (rest / 10)
      → Stored d₀ (set d (at + (left - 1)) next) at width filler value (left - 1) (rest / 10) c
  stored_more c h e =
      record {
        within = let w = s.within in omega arith;
        long = length-set d (at + (left - 1)) next ∙ s.long;
        same = same_more h;
        over = over_more h;
        is_next = e ∙ next_more h;
      }

  pub stored_all : left ≤ 0 → d ≡ put d₀ at (columns filler width value)
  stored_all h = s.same ∙ rw (start, whole)
    where
      start : at + left ≡ at
      start = omega arith

      whole : width - left ≡ width
      whole = omega arith
