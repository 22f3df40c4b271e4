-- Laws of the field at an offset: which tests tell what stands there, and that a whole field lies within the row.
use Rattle.std.specs.Prelude.{ℕ, ◌+◌, ◌-◌, ◌*◌, ◌^◌, ◌≤◌, ◌<◌, ◌≡◌, refl, Bool, true, false, cond, List, length, get_or, ltb, leb}
use Rattle.std.proofs.Common.{sym, ◌∙◌, arith}
use borrow.Author.Tests.{le-leb, lt-leb, lt-ltb, le-ltb, leb-true, leb-false, ltb-false}
use Rattle.field.specs.Bytes.{number_at, NumberRead}
use Rattle.field.specs.Field.{field_at, end_of}
use Rattle.field.specs.declared.Field.{Field}
use Rattle.field.specs.declared.Field.TheVariants.{End, Cut, Whole}

module _ (s : List ℕ) (at : ℕ) where
  pub field_end : length s ≤ at → End ≡ field_at s at
  unfolding field_at
  field_end h = simp (le-leb _ _ h)

  pub field_short : at < length s → length s - at < 3 → Cut ≡ field_at s at
  unfolding field_at
  field_short h k = simp (lt-leb _ _ h, lt-ltb _ _ k)

  pub field_past : (len : ℕ) → NumberRead s (at + 1) 2 len → at < length s → 3 ≤ length s - at → length s - at - 3 < len → Cut ≡ field_at s at
  unfolding field_at
  field_past len r h k l = simp (sym r.is, lt-leb _ _ h, le-ltb _ _ k, lt-leb _ _ l)

  pub field_whole : (len : ℕ) → NumberRead s (at + 1) 2 len → at < length s → 3 ≤ length s - at → len ≤ length s - at - 3
      → Whole (get_or s at 0) len ≡ field_at s at
  unfolding field_at
  field_whole len r h k l = simp (sym r.is, lt-leb _ _ h, le-ltb _ _ k, le-leb _ _ l)

whole_cases : (b1 b2 b3 : Bool) (tag len t l : ℕ) → cond b1 End (cond b2 Cut (cond b3 (Whole tag len) Cut)) ≡ Whole t l
    → (b1 ≡ false) × (b2 ≡ false) × (b3 ≡ true) × (tag ≡ t) × (len ≡ l)
whole_cases true b2 b3 tag len t l e = let z : ◌≡◌ {A = ℕ} 0 1 = cc in absurd (omega arith)
whole_cases false true b3 tag len t l e = let z : ◌≡◌ {A = ℕ} 0 1 = cc in absurd (omega arith)
whole_cases false false false tag len t l e = let z : ◌≡◌ {A = ℕ} 0 1 = cc in absurd (omega arith)
whole_cases false false true tag len t l e = (refl, refl, refl, cc, cc)

-- what a whole field is: it lies within the row, and its tag and length are the bytes there
pub record WholeAt (s : List ℕ) (at tag len : ℕ) : Type 0 where
  pub within : at + 3 + len ≤ length s
  pub tag_is : tag ≡ get_or s at 0
  pub length_is : len ≡ number_at s (at + 1) 2

pub whole_at : (s : List ℕ) (at tag len : ℕ) → field_at s at ≡ Whole tag len → WholeAt s at tag len
unfolding field_at
whole_at s at tag len e =
    let h = whole_cases (leb (length s) at) (ltb (length s - at) 3) (leb (number_at s (at + 1) 2) (length s - at - 3)) (get_or s at 0) (number_at s (at + 1) 2) tag len e in
    let h1 = leb-false (length s) at h.0 in
    let h2 = ltb-false (length s - at) 3 h.1 in
    let h3 = leb-true (number_at s (at + 1) 2) (length s - at - 3) h.2 in
    record { within = omega (arith, h.4); tag_is = sym h.3; length_is = sym h.4 }

-- the offset behind the field that was found at an offset; behind a whole field it lies within the row
module _ (s : List ℕ) (at : ℕ) (f : Field) (ef : f ≡ field_at s at) where
  pub end_none : f ≡ End → at ≡ end_of at (field_at s at)
  unfolding end_of
  end_none e = rw (← ef, e)

  pub end_cut : f ≡ Cut → at ≡ end_of at (field_at s at)
  unfolding end_of
  end_cut e = rw (← ef, e)

  module _ (tag len : ℕ) (e : f ≡ Whole tag len) where
    pub end_whole : at + 3 + len ≡ end_of at (field_at s at)
    unfolding end_of
    end_whole = rw (← ef, e)

    -- sums that stay near the field fit
    pub near_fits : length s * 1 < 2 ^ 63 → (j : ℕ) → j ≤ 65536 → at + j < 2 ^ 64
    near_fits big j lj = let w = (whole_at s at tag len (sym ef ∙ e)).within in omega arith

    pub behind_fits : length s * 1 < 2 ^ 63 → (j : ℕ) → j ≤ 65536 → at + j + len < 2 ^ 64
    behind_fits big j lj = let w = (whole_at s at tag len (sym ef ∙ e)).within in omega arith
