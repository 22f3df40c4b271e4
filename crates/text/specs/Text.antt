-- Text stored in a buffer: bytes, and a name with a number behind it. All other bytes of the buffer are as they were.
use Prim.Native.Nat.{ℕ, suc, ◌+◌, ◌-◌, ◌^◌, ◌≤◌, ◌<◌}
use Rattle.std.specs.Prelude.{◌≡◌, refl, List, ◌++◌, Bool, true, false, length, get_or, set, take, drop, leb}
use Rattle.std.proofs.Common.{sym, ap, ◌∙◌, length-set, drop_of_length-le, length-take-le, leb-true, leb-false}
use Rattle.std.proofs.Math.Nat.{pow-le-pow_right}
use Rattle.std.proofs.Math.Numerals.{add-one}
use native.Mathlib.Omega.{arith}
use Rattle.std.proofs.Math.Seq.{drop-cons}
use Rattle.io.specs.Counts.{IsPrefixLen}
use Rattle.io.specs.Digits.{last_digits, IsDigitCount}
use Rattle.field.specs.Put.{put, put_more}

-- bytes at an offset, and the offset behind them
pub record BytesPut (before : List ℕ) (at : ℕ) (bytes after : List ℕ) (r : ℕ) : Type 0 where
  pub is : after ≡ put before at bytes
  pub end : r ≡ at + length bytes
  pub counts : IsPrefixLen r after

-- the fewest digits of a number of 64 bits, at the start of a text
pub record DigitsOf (value : ℕ) (text : List ℕ) (k : ℕ) : Type 0 where
  pub counts : IsPrefixLen k text
  pub fewest : IsDigitCount 10 1 value k
  pub is : take k text ≡ last_digits 10 k value
  pub most : k ≤ 20

-- a name, and behind it a number in its fewest digits
pub record DecimalPut (before : List ℕ) (at : ℕ) (name : List ℕ) (value : ℕ) (after : List ℕ) (r : ℕ) : Type 0 where
  pub width : ℕ
  pub fewest : IsDigitCount 10 1 value width
  pub is : after ≡ put before at (name ++ last_digits 10 width value)
  pub end : r ≡ at + length name + width
  pub most : width ≤ 20
  pub counts : IsPrefixLen r after

-- the first `done` bytes are stored, and storing the rest gives the whole
pub record Storing (before : List ℕ) (at : ℕ) (bytes now : List ℕ) (done : ℕ) : Type 0 where
  pub within : done ≤ length bytes
  pub long : length now ≡ length before
  pub same : put now (at + done) (drop done bytes) ≡ put before at bytes

pub storing_none : (before : List ℕ) (at : ℕ) (bytes : List ℕ) → Storing before at bytes before 0
storing_none before at bytes = record { within = omega arith; long = refl; same = rw start }
  where
    start : at + 0 ≡ at
    start = omega arith

module _ (before : List ℕ) (at : ℕ) (bytes now : List ℕ) (done : ℕ) (s : Storing before at bytes now done) where
  one : done < length bytes → put (set now (at + done) (get_or bytes done 0)) (at + (done + 1)) (drop (done + 1) bytes) ≡ put now (at + done) (drop done bytes)
  unfolding put
  one h = let e : at + (done + 1) ≡ suc (at + done) = omega arith in rw (e, add-one done, drop-cons bytes done 0)

  none : length bytes ≤ done → put now (at + done) (drop done bytes) ≡ now
  unfolding put
  none h = rw (drop_of_length-le bytes {i = done} h)

  pub storing_more : done < length bytes → Storing before at bytes (set now (at + done) (get_or bytes done 0)) (done + 1)
  storing_more h = record { within = omega arith; long = length-set now (at + done) (get_or bytes done 0) ∙ s.long; same = one h ∙ s.same }

  pub storing_all : at + length bytes ≤ length before → length bytes ≤ done → BytesPut before at bytes now (at + done)
  storing_all room h = record { is = sym (none h) ∙ s.same; end = omega arith; counts = (within, sym (length-take-le (at + done) now within)) }
    where
      within : at + done ≤ length now
      within = let w = s.within in let l = s.long in omega arith

-- a number of 64 bits has at most 20 digits
few_digits : (value k : ℕ) → value < 2 ^ 64 → IsDigitCount 10 1 value k → k ≤ 20
few_digits value k h f = cases (leb k 20) refl
  where
    cases : (b : Bool) → leb k 20 ≡ b → k ≤ 20
    cases true e = leb-true k 20 e
    cases false e =
        let more : 20 < k = leb-false k 20 e in
        let large : 10 ^ 20 ≤ 10 ^ (k - 1) = pow-le-pow_right {n = 10} (omega arith) {i = 20} {j = k - 1} (omega arith) in
        let least : 10 ^ (k - 1) ≤ value = f.2 (omega arith) in
        omega arith

pub digits_few : (value : ℕ) (text : List ℕ) (k : ℕ) → value < 2 ^ 64 → IsPrefixLen k text → IsDigitCount 10 1 value k → take k text ≡ last_digits 10 k value
    → DigitsOf value text k
digits_few value text k h c f d = record { counts = c; fewest = f; is = d; most = few_digits value k h f }

-- a name is stored, and then the digits behind it
pub decimal_put : (before : List ℕ) (at : ℕ) (name : List ℕ) (value : ℕ) (mid : List ℕ) (behind : ℕ) (text : List ℕ) (k : ℕ) (after : List ℕ) (r : ℕ)
    → DigitsOf value text k → BytesPut before at name mid behind → BytesPut mid behind (take k text) after r → DecimalPut before at name value after r
decimal_put before at name value mid behind text k after r d first second =
    record { width = k; fewest = d.fewest; is = is; end = omega (arith, first.end, second.end, d.counts.1); most = d.most; counts = second.counts }
  where
    is : after ≡ put before at (name ++ last_digits 10 k value)
    is =
        second.is
        ∙ ap (λ (l : List ℕ). put mid behind l) d.is
        ∙ ap (λ (l : List ℕ). put l behind (last_digits 10 k value)) first.is
        ∙ ap (λ (n : ℕ). put (put before at name) n (last_digits 10 k value)) first.end
        ∙ put_more before at name (last_digits 10 k value)
