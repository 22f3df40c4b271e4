-- Numbers and fields in a row of bytes: what is written is read back, and what is read is what stands there.
use Rattle.std.specs.Prelude.{◌≡◌, ℕ, zero, suc, ◌+◌, ◌*◌, ◌/◌, ◌%◌, ◌^◌, ◌≤◌, ◌<◌, length, drop}
use Rattle.std.proofs.Math.Path.{refl, sym, ap}
use Rattle.std.proofs.Common.{◌∙◌, add-zero, add-one, length-append, length-drop, get_or-append-add, drop-cons, length-take-le, take-add, drop-drop}
use mathlib.Core.List.{List, [], ◌∷◌, ◌++◌}
use native.Mathlib.Omega.{arith}
use Rattle.std.proofs.Math.ListN.{get_or, take}
use Rattle.field.specs.Bytes.{number_at, bytes_of, NumberRead}
use Rattle.field.specs.Field.{field_at, field_bytes}
use Rattle.field.specs.Fields.{WholeAt, whole_at, field_whole}
use Rattle.field.specs.Numbers.{number_one, number_suc, pow_byte}
use Rattle.field.specs.declared.Field.TheVariants.{Whole}
use Rattle.plan_format.specs.ByteLaws.{AreBytes}

-- a number stands where it stood when bytes are put before it
pub number_append : (pre s : List ℕ) (at width : ℕ) → number_at (pre ++ s) (length pre + at) width ≡ number_at s at width
unfolding number_at
number_append pre s at zero = refl
number_append pre s at (suc width) =
    let next : length pre + at + 1 ≡ length pre + (at + 1) = omega arith in
    let rest : number_at (pre ++ s) (length pre + at + 1) width ≡ number_at s (at + 1) width
    = ap (λ (k : ℕ). number_at (pre ++ s) k width) next ∙ number_append pre s (at + 1) width in
    omega (arith, get_or-append-add pre s at 0, rest)

-- a number that fits its bytes is read back from them
number_first : (width value : ℕ) (post : List ℕ) → value < 2 ^ (8 * width) → number_at (bytes_of width value ++ post) 0 width ≡ value
unfolding number_at bytes_of
number_first zero value post h = omega arith
number_first (suc width) value post h =
    let rest : number_at (value % 256 ∷ bytes_of width (value / 256) ++ post) 1 width ≡ number_at (bytes_of width (value / 256) ++ post) 0 width
    = number_append (value % 256 ∷ []) (bytes_of width (value / 256) ++ post) 0 width in
    omega (arith, rest, number_first width (value / 256) post (omega (arith, pow_byte width)))

pub number_back : (pre : List ℕ) (width value : ℕ) (post : List ℕ) → value < 2 ^ (8 * width)
    → number_at (pre ++ (bytes_of width value ++ post)) (length pre) width ≡ value
number_back pre width value post h =
    ap (λ (k : ℕ). number_at (pre ++ (bytes_of width value ++ post)) k width) (sym (add-zero (length pre)))
    ∙ number_append pre (bytes_of width value ++ post) 0 width
    ∙ number_first width value post h

-- a number that is read is that of the bytes which stand there
pub bytes_number : (s : List ℕ) → AreBytes s → (at width : ℕ) → at + width ≤ length s → bytes_of width (number_at s at width) ≡ take width (drop at s)
unfolding bytes_of
bytes_number s b at zero h = refl
bytes_number s b at (suc width) h =
    ap (λ (k : ℕ). k % 256 ∷ bytes_of width (k / 256)) (number_suc s at width)
    ∙ rw (low, high, drop-cons s at 0 (omega arith)) (ap (λ (l : List ℕ). get_or s at 0 ∷ l) (bytes_number s b (at + 1) width (omega arith) ∙ ap (λ (k : ℕ). take width (drop k s)) (add-one at)))
  where
    low : (get_or s at 0 + 256 * number_at s (at + 1) width) % 256 ≡ get_or s at 0
    low = omega (arith, b.byte at)

    high : (get_or s at 0 + 256 * number_at s (at + 1) width) / 256 ≡ number_at s (at + 1) width
    high = omega (arith, b.byte at)

-- the same with what stands behind it
pub number_then : (s : List ℕ) → AreBytes s → (at width more next : ℕ) → at + width ≡ next → next ≤ length s
    → take (width + more) (drop at s) ≡ bytes_of width (number_at s at width) ++ take more (drop next s)
number_then s b at width more next e h =
    take-add width more (drop at s) ∙ rw (← bytes_number s b at width (omega arith), drop-drop width at s, e)

-- a field takes three bytes and its content
field_length : (tag : ℕ) (content post : List ℕ) → length (field_bytes tag content ++ post) ≡ 3 + (length content + length post)
unfolding field_bytes bytes_of
field_length tag content post = omega (arith, length-append content post)

pub length_field : (tag : ℕ) (content : List ℕ) → length (field_bytes tag content) ≡ 3 + length content
unfolding field_bytes bytes_of
length_field tag content = omega arith

-- a field that is written is found
pub field_written : (pre : List ℕ) (tag : ℕ) (content post : List ℕ) → length content < 2 ^ 16
    → field_at (pre ++ (field_bytes tag content ++ post)) (length pre) ≡ Whole tag (length content)
unfolding field_bytes bytes_of
field_written pre tag content post h =
    sym
    (field_whole (pre ++ (field_bytes tag content ++ post)) (length pre) (length content) read (omega (arith, size)) (omega (arith, size)) (omega (arith, size)))
    ∙ ap (λ (t : ℕ). Whole t (length content)) tag_is
  where
    size : length (pre ++ (field_bytes tag content ++ post)) ≡ length pre + (3 + (length content + length post))
    size = omega (arith, length-append pre (field_bytes tag content ++ post), field_length tag content post)

    tag_is : get_or (pre ++ (field_bytes tag content ++ post)) (length pre) 0 ≡ tag
    tag_is =
        ap (λ (k : ℕ). get_or (pre ++ (field_bytes tag content ++ post)) k 0) (sym (add-zero (length pre)))
        ∙ get_or-append-add pre (field_bytes tag content ++ post) 0 0

    read : NumberRead (pre ++ (field_bytes tag content ++ post)) (length pre + 1) 2 (length content)
    read =
        record { is = sym (number_append pre (field_bytes tag content ++ post) 1 2 ∙ number_back (tag ∷ []) 2 (length content) (content ++ post) h); fits = h }

-- a field that is found is what stands there
module _ (s : List ℕ) (b : AreBytes s) (at tag len : ℕ) (e : field_at s at ≡ Whole tag len) where
  found : WholeAt s at tag len
  found = whole_at s at tag len e

  content_length_lem : length (take len (drop (at + 3) s)) ≡ len
  content_length_lem = length-take-le len (drop (at + 3) s) (omega (arith, length-drop (at + 3) s, found.within))

  tag_byte : bytes_of 1 (number_at s at 1) ≡ tag ∷ []
  unfolding bytes_of
  tag_byte = ap (λ (k : ℕ). k % 256 ∷ []) (number_one s at) ∙ ap (λ (k : ℕ). k ∷ []) low
    where
      low : get_or s at 0 % 256 ≡ tag
      low = omega (arith, b.byte at, found.tag_is)

  pub field_stands : take (3 + len) (drop at s) ≡ field_bytes tag (take len (drop (at + 3) s))
  unfolding field_bytes
  field_stands =
      ap (λ (k : ℕ). take k (drop at s)) all
      ∙ number_then s b at 1 (2 + len) (at + 1) refl (omega (arith, found.within))
      ∙ ap (λ (l : List ℕ). l ++ take (2 + len) (drop (at + 1) s)) tag_byte
      ∙ ap (λ (l : List ℕ). tag ∷ l) (number_then s b (at + 1) 2 len (at + 3) (omega arith) (omega (arith, found.within)))
      ∙ ap (λ (n : ℕ). tag ∷ (bytes_of 2 n ++ take len (drop (at + 3) s))) (sym found.length_is ∙ sym content_length_lem)
    where
      all : 3 + len ≡ 1 + (2 + len)
      all = omega arith
