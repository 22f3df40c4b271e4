-- The count of ones of a masked number is the count of second passes of its beginning, and the mask is what the code makes.
use Rattle.std.specs.Prelude.{◌≡◌, refl, ℕ, zero, suc, ◌+◌, ◌-◌, ◌*◌, ◌%◌, ◌^◌, ◌≤◌, ◌<◌}
use Rattle.std.proofs.Common.{sym, ap, ap₂, ◌∙◌, mod-lt, mod-eq_of_lt, lt_of_lt_of_le, one-mul, add-one, arith, pow_mono, pow_pos}
use Rattle.std.proofs.Math.Nat.{mod-one}
use Rattle.std.specs.Int.Count.{ones}
use Rattle.std.proofs.lemmas.Nat.{ones_cat, ones-le, and_mask}
use Rattle.std.specs.Int.Bits.{bit_and}
use Rattle.std.proofs.Math.Pow.{pow-lt}
use Rattle.order.specs.Order.{bit, seconds}
use Rattle.order.specs.Seconds.{bit_lt, seconds_zero, seconds_suc, seconds_le, mod_more, pow_more}

ones_bit : (b : ℕ) → b < 2 → ones b ≡ b
unfolding ones
ones_bit zero h = refl
ones_bit (suc zero) h = refl
ones_bit (suc (suc b)) h = absurd (omega arith)

pub ones_mod : (x k : ℕ) → ones (x % 2 ^ k) ≡ seconds x k
ones_mod x zero = ap ones (mod-one x) ∙ ones_bit 0 (omega arith) ∙ sym (seconds_zero x)
ones_mod x (suc k) =
    ap (λ (j : ℕ). ones (x % 2 ^ j)) (sym (add-one k))
    ∙ ap ones (mod_more x k)
    ∙ ones_cat k (bit x k) (x % 2 ^ k) (mod-lt x (pow_pos k))
    ∙ ap₂ ◌+◌ (ones_bit (bit x k) (bit_lt x k)) (ones_mod x k)
    ∙ sym (seconds_suc x k)

pub ones_below : (x k : ℕ) → x < 2 ^ k → ones x ≡ seconds x k
ones_below x k h = ap ones (sym (mod-eq_of_lt h)) ∙ ones_mod x k

-- The code's `1 << k`.
pub shifted_one : (k : ℕ) → k < 64 → (1 * 2 ^ k) % 2 ^ 64 ≡ 2 ^ k
shifted_one k h = ap (λ (m : ℕ). m % 2 ^ 64) (one-mul (2 ^ k)) ∙ mod-eq_of_lt (pow-lt h)

pub shifted_positive : (k : ℕ) → k < 64 → 1 ≤ (1 * 2 ^ k) % 2 ^ 64
shifted_positive k h = rw (shifted_one k h) (pow_pos k)

-- The code's `count_ones(x & ((1 << k) - 1))`.
pub ones_masked : (x k : ℕ) → k < 64 → ones (bit_and x ((1 * 2 ^ k) % 2 ^ 64 - 1)) ≡ seconds x k
ones_masked x k h = rw (shifted_one k h) (ap ones (and_mask x k) ∙ ones_mod x k)

pub ones_masked_fits : (x k : ℕ) → k < 64 → ones (bit_and x ((1 * 2 ^ k) % 2 ^ 64 - 1)) < 2 ^ 64
ones_masked_fits x k h = omega (arith, ones_masked x k h, seconds_le x k)

-- The count of the whole 64-bit number is that of each beginning of 64 passes or more.
pub ones_whole : (x k : ℕ) → x < 2 ^ 64 → 64 ≤ k → ones x ≡ seconds x k
ones_whole x k h l = ones_below x k (lt_of_lt_of_le h (pow_mono {i = 64} {j = k} l))

pub ones_fits : (x : ℕ) → x < 2 ^ 64 → ones x < 2 ^ 64
ones_fits x h = omega (arith, ones-le 64 x h)

-- The code's `x + (1 << k)`.
pub second_fits : (x k : ℕ) → k < 64 → x < 2 ^ k → x + (1 * 2 ^ k) % 2 ^ 64 < 2 ^ 64
second_fits x k h l = rw (shifted_one k h) (omega (arith, pow_more k, pow_mono {i = k + 1} {j = 64} (omega arith)))
