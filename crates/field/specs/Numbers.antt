-- Laws of numbers in bytes: a loop that reads one from its highest byte down, a loop that writes one from its lowest byte up,
-- and that what is written is read back.
use Rattle.std.specs.Prelude.{ℕ, zero, suc, ◌+◌, ◌-◌, ◌*◌, ◌/◌, ◌%◌, ◌^◌, ◌≤◌, ◌<◌, ◌≡◌, refl, List, ◌++◌, length, get_or, set, take, drop}
use Rattle.std.proofs.Common.{sym, ◌∙◌, append-nil, append_assoc, add-one, length-set, pow-add, pow_pos, pow_mono}
use Rattle.std.proofs.Math.Path.{ap}
use native.Mathlib.Omega.{arith}
use Rattle.std.proofs.Math.ListN.{get_or-eq_default}
use Rattle.std.proofs.lemmas.List.Edits.{sets, sets-eq}
use lib.Seq.{drop-length}
use Rattle.field.specs.Bytes.{number_at, bytes_of, NumberRead}
use borrow.Rule.Slice.PartMut.{mid_of, post_of, put_mid, mid_len, Post-is}
use Rattle.field.specs.Put.{put, holding, put_whole}

-- past the end every byte counts as 0
number_past : (s : List ℕ) (at width : ℕ) → length s ≤ at → number_at s at width ≡ 0
unfolding number_at
number_past s at zero h = refl
number_past s at (suc width) h = omega (arith, get_or-eq_default s 0 {n = at} h, number_past s (at + 1) width (omega arith))

pub past_read : (s : List ℕ) (at width : ℕ) → length s ≤ at → NumberRead s at width 0
past_read s at width h = record { is = sym (number_past s at width h); fits = pow_pos (8 * width) }

-- one byte is the number of width 1
pub number_one : (s : List ℕ) (at : ℕ) → number_at s at 1 ≡ get_or s at 0
unfolding number_at
number_one s at = omega arith

pub byte_read : (s : List ℕ) (at b : ℕ) → b ≡ get_or s at 0 → b < 256 → NumberRead s at 1 b
byte_read s at b e h = record { is = e ∙ sym (number_one s at); fits = h }

pub number_suc : (s : List ℕ) (at width : ℕ) → number_at s at (suc width) ≡ get_or s at 0 + 256 * number_at s (at + 1) width
unfolding number_at
number_suc s at width = refl

pub pow_byte : (width : ℕ) → 2 ^ (8 * suc width) ≡ 256 * 2 ^ (8 * width)
pow_byte width = ap (λ k. 2 ^ k) eight ∙ pow-add 2 8 (8 * width)
  where
    eight : 8 * suc width ≡ 8 + 8 * width
    eight = omega arith

-- the bytes of a number from the one at `left` on have been added up
pub record Added (s : List ℕ) (at width left value : ℕ) : Type 0 where
  pub within : left ≤ width
  pub read : NumberRead s (at + left) (width - left) value

pub added_none : (s : List ℕ) (at width : ℕ) → Added s at width width 0
unfolding number_at
added_none s at width = record { within = omega arith; read = rw none (record { is = refl; fits = omega arith }) }
  where
    none : width - width ≡ 0
    none = omega arith

module _ (s : List ℕ) (at width left value b : ℕ) (a : Added s at width left value) (more : 0 < left) (r : NumberRead s (at + (left - 1)) 1 b) where
  rest : width - (left - 1) ≡ suc (width - left)
  rest = let w = a.within in omega arith

  next : at + (left - 1) + 1 ≡ at + left
  next = omega arith

  pub added_more : Added s at width (left - 1) (b + 256 * value)
  added_more =
      let w = a.within in
      record { within = omega arith; read = rw rest (record { is = value_is; fits = value_fits }) }
    where
      value_is : b + 256 * value ≡ number_at s (at + (left - 1)) (suc (width - left))
      value_is =
          omega (arith, number_suc s (at + (left - 1)) (width - left), r.is, number_one s (at + (left - 1)), a.read.is, ap (λ k. number_at s k (width - left)) next)

      value_fits : b + 256 * value < 2 ^ (8 * suc (width - left))
      value_fits = let f = a.read.fits in let g = r.fits in omega (arith, pow_byte (width - left))

  pub added_fits : width ≤ 8 → b + 256 * value < 2 ^ 64
  added_fits h =
      let w = a.within in
      let f = a.read.fits in
      let g = r.fits in
      omega (arith, pow_mono {i = 8 * (width - left)} {j = 56} (omega arith))

-- the same with a byte that is read within the row
module _ (s : List ℕ) (at width left value : ℕ) (a : Added s at width left value) (more : 0 < left) (small : get_or s (at + (left - 1)) 0 < 256) where
  pub within_more : Added s at width (left - 1) (get_or s (at + (left - 1)) 0 + 256 * value)
  within_more = added_more s at width left value (get_or s (at + (left - 1)) 0) a more (byte_read s (at + (left - 1)) _ refl small)

  pub within_fits : width ≤ 8 → get_or s (at + (left - 1)) 0 + 256 * value < 2 ^ 64
  within_fits h = added_fits s at width left value (get_or s (at + (left - 1)) 0) a more (byte_read s (at + (left - 1)) _ refl small) h

-- so that the next byte can be added without wrapping
pub scaled_fits : (s : List ℕ) (at width left value : ℕ) → Added s at width left value → 0 < left → width ≤ 8 → 256 * value < 2 ^ 64
scaled_fits s at width left value a more h =
    let w = a.within in
    let f = a.read.fits in
    omega (arith, pow_mono {i = 8 * (width - left)} {j = 56} (omega arith))

pub added_all : (s : List ℕ) (at width left value : ℕ) → Added s at width left value → left ≤ 0 → NumberRead s at width value
added_all s at width left value a h = rw (← start, ← whole) a.read
  where
    start : at + left ≡ at
    start = omega arith

    whole : width - left ≡ width
    whole = omega arith

pub length_bytes : (width value : ℕ) → length (bytes_of width value) ≡ width
unfolding bytes_of
length_bytes zero value = refl
length_bytes (suc width) value = ap suc (length_bytes width (value / 256))

-- storing what is left of a number gives the whole
pub record Storing (d₀ d : List ℕ) (at width value done rest : ℕ) : Type 0 where
  pub within : done ≤ width
  pub long : length d ≡ length d₀
  pub same : put d (at + done) (bytes_of (width - done) rest) ≡ put d₀ at (bytes_of width value)

pub storing_none : (d : List ℕ) (at width value : ℕ) → Storing d d at width value 0 value
storing_none d at width value = record { within = omega arith; long = refl; same = rw (start, whole) }
  where
    start : at + 0 ≡ at
    start = omega arith

    whole : width - 0 ≡ width
    whole = omega arith

put_first : (d : List ℕ) (at width value : ℕ) → put d at (bytes_of (suc width) value) ≡ put (set d at (value % 256)) (at + 1) (bytes_of width (value / 256))
unfolding put bytes_of
put_first d at width value = rw (add-one at)

module _ (d₀ d : List ℕ) (at width value done rest : ℕ) (s : Storing d₀ d at width value done rest) where
  pub storing_more : done < width → Storing d₀ (set d (at + done) (rest % 256)) at width value (done + 1) (rest / 256)
  storing_more h = record { within = omega arith; long = length-set d (at + done) (rest % 256) ∙ s.long; same = one ∙ s.same }
    where
      left : width - done ≡ suc (width - (done + 1))
      left = omega arith

      next : at + (done + 1) ≡ at + done + 1
      next = omega arith

      one : put (set d (at + done) (rest % 256)) (at + (done + 1)) (bytes_of (width - (done + 1)) (rest / 256)) ≡ put d (at + done) (bytes_of (width - done) rest)
      one = rw (next, left) (sym (put_first d (at + done) (width - (done + 1)) rest))

  pub storing_all : width ≤ done → d ≡ put d₀ at (bytes_of width value)
  unfolding put bytes_of
  storing_all h = ap (λ k. put d (at + done) (bytes_of k rest)) none ∙ s.same
    where
      none : 0 ≡ width - done
      none = let w = s.within in omega arith

held_alone : (bytes part : List ℕ) → length bytes ≡ length part → holding bytes part ≡ bytes
unfolding holding
held_alone bytes part h = rw (h, drop-length, append-nil)

-- the same over a part of a buffer, of just those bytes; put back, it is the store
module _ (d : List ℕ) (at width value : ℕ) (fits : at + width ≤ length d) (bytes : List ℕ) (done rest : ℕ)
    (s : Storing (mid_of at (at + width - at) d) bytes 0 width value done rest) where
  as_wide : length (mid_of at (at + width - at) d) ≡ width
  as_wide = mid_len at (at + width) d fits ∙ omega arith

  pub part_more : done < length (mid_of at (at + width - at) d)
      → Storing (mid_of at (at + width - at) d) (set bytes done (rest % 256)) 0 width value (done + 1) (rest / 256)
  part_more h =
      let start : 0 + done ≡ done = omega arith in
      rw start at (storing_more (mid_of at (at + width - at) d) bytes 0 width value done rest s (omega (arith, as_wide)))

  pub part_all : length (mid_of at (at + width - at) d) ≤ done → put_mid at (at + width - at) d bytes ≡ put d at (bytes_of width value)
  unfolding put
  part_all h = ap (λ l. take at d ++ (l ++ post_of at (at + width - at) d)) stored ∙ ap (λ l. take at d ++ (bytes_of width value ++ l)) (Post-is at (at + width) d from) ∙ sym whole
    where
      from : at ≤ at + width
      from = omega arith

      as_long : length (bytes_of width value) ≡ length (mid_of at (at + width - at) d)
      as_long = length_bytes width value ∙ sym as_wide

      held : put (mid_of at (at + width - at) d) 0 (bytes_of width value) ≡ bytes_of width value
      held = put_whole (mid_of at (at + width - at) d) (bytes_of width value) (omega (arith, as_long)) ∙ held_alone _ _ as_long

      stored : bytes ≡ bytes_of width value
      stored = storing_all (mid_of at (at + width - at) d) bytes 0 width value done rest s (omega (arith, as_wide)) ∙ held

      whole : sets d at (bytes_of width value) ≡ take at d ++ (bytes_of width value ++ drop (at + width) d)
      whole =
          sets-eq (bytes_of width value) d at (omega (arith, length_bytes width value))
          ∙ ap (λ k. take at d ++ bytes_of width value ++ drop (at + k) d) (length_bytes width value)
          ∙ append_assoc (take at d) (bytes_of width value) (drop (at + width) d)
