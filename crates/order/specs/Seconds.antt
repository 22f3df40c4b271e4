-- Laws of the passes of a number and of the counts of its beginnings: one pass more, longer beginnings, the number cut off at k,
-- and a number x below 2 ^ k followed by a first pass (x itself) or by a second pass (x + 2 ^ k).
use Rattle.std.specs.Prelude.{◌≡◌, refl, ◌⊎◌, ℕ, zero, suc, ◌+◌, ◌-◌, ◌*◌, ◌/◌, ◌%◌, ◌^◌, ◌≤◌, ◌<◌}
use Rattle.std.proofs.Common.{sym, ap, ap₂, ◌∙◌, inl, inr, mod-lt, lt_of_lt_of_le, mod-eq_of_lt, add_comm, add-zero, add-suc, zero-mul, pow-suc, add-one, arith, pow_pos, pow_mono}
use Rattle.std.proofs.Math.Nat.{div-eq_of_lt}
use Rattle.std.proofs.Math.Decide.{ℕ_discrete}
use Rattle.std.proofs.Math.Pow.{field, high, low, mod-mod-pow}
use Rattle.std.proofs.lemmas.Nat.{mod-pow-add}
use Rattle.order.specs.Order.{bit, seconds, firsts}

-- One pass.
pub bit_lt : (x k : ℕ) → bit x k < 2
bit_lt x k = mod-lt (x / 2 ^ k) (omega arith)

pub bit_cases : (x k : ℕ) → (bit x k ≡ 0) ⊎ (bit x k ≡ 1)
bit_cases x k = go (bit x k) (bit_lt x k)
  where
    go : (b : ℕ) → b < 2 → (b ≡ 0) ⊎ (b ≡ 1)
    go zero h = inl refl
    go (suc zero) h = inr refl
    go (suc (suc b)) h = absurd (omega arith)

-- One pass more.
pub seconds_zero : (x : ℕ) → seconds x 0 ≡ 0
unfolding seconds
seconds_zero x = refl

pub seconds_suc : (x k : ℕ) → seconds x (suc k) ≡ bit x k + seconds x k
unfolding seconds
seconds_suc x k = refl

pub seconds_more : (x k : ℕ) → seconds x (k + 1) ≡ bit x k + seconds x k
seconds_more x k = rw (add-one k, seconds_suc)

pub seconds_le : (x k : ℕ) → seconds x k ≤ k
seconds_le x zero = rw seconds_zero (omega arith)
seconds_le x (suc k) = rw seconds_suc (omega (arith, seconds_le x k, bit_lt x k))

-- Every pass of a beginning is a first or a second pass.
pub firsts_seconds : (x k : ℕ) → firsts x k + seconds x k ≡ k
unfolding firsts
firsts_seconds x k = omega (arith, seconds_le x k)

pub firsts_more : (x k : ℕ) → firsts x (k + 1) + bit x k ≡ firsts x k + 1
firsts_more x k = omega (arith, firsts_seconds x (k + 1), firsts_seconds x k, seconds_more x k)

-- Beginnings with no more second than first passes: that of no pass, and one pass more.
pub no_pass : (x j : ℕ) → j < 1 → seconds x j ≤ firsts x j
no_pass x j l = rw (none, seconds_zero) (omega arith)
  where
    none : j ≡ 0
    none = omega arith

pub one_pass_more : (x k : ℕ) → ((j : ℕ) → j ≤ k → seconds x j ≤ firsts x j) → seconds x (k + 1) ≤ firsts x (k + 1)
    → (j : ℕ) → j ≤ k + 1 → seconds x j ≤ firsts x j
one_pass_more x k f last j l = go (ℕ_discrete j (k + 1))
  where
    go : Dec (j ≡ k + 1) → seconds x j ≤ firsts x j
    go (yes w) = rw w last
    go (no ne) = f j (omega arith)

-- Longer beginnings have no fewer passes of either kind.
seconds_grow : (x j d : ℕ) → (seconds x j ≤ seconds x (j + d)) × (seconds x (j + d) ≤ seconds x j + d)
seconds_grow x j zero = rw (add-zero j) (omega arith, omega arith)
seconds_grow x j (suc d) = go (seconds_grow x j d)
  where
    go : (seconds x j ≤ seconds x (j + d)) × (seconds x (j + d) ≤ seconds x j + d)
        → (seconds x j ≤ seconds x (j + suc d)) × (seconds x (j + suc d) ≤ seconds x j + suc d)
    go rest = rw (add-suc j d, seconds_suc) (omega (arith, rest.0), omega (arith, rest.1, bit_lt x (j + d)))

seconds_between : (x j k : ℕ) → j ≤ k → (seconds x j ≤ seconds x k) × (seconds x k ≤ seconds x j + (k - j))
seconds_between x j k l = rw e at (seconds_grow x j (k - j))
  where
    e : j + (k - j) ≡ k
    e = omega arith

pub seconds_mono : (x j k : ℕ) → j ≤ k → seconds x j ≤ seconds x k
seconds_mono x j k l = (seconds_between x j k l).0

pub firsts_mono : (x j k : ℕ) → j ≤ k → firsts x j ≤ firsts x k
firsts_mono x j k l = omega (arith, (seconds_between x j k l).1, firsts_seconds x j, firsts_seconds x k)

-- The number cut off at k has the same passes below k.
pub bit_mod : (w k j : ℕ) → j < k → bit (w % 2 ^ k) j ≡ bit w j
bit_mod w k j l =
    ap (λ (m : ℕ). w % 2 ^ m / 2 ^ j % 2) e
    ∙ ap (λ (m : ℕ). m % 2) (field w (k - j - 1 + 1) j)
    ∙ mod-mod-pow (w / 2 ^ j) (k - j - 1) 1
  where
    e : k ≡ k - j - 1 + 1 + j
    e = omega arith

pub seconds_mod : (w k j : ℕ) → j ≤ k → seconds (w % 2 ^ k) j ≡ seconds w j
seconds_mod w k zero l = rw (seconds_zero (w % 2 ^ k), seconds_zero w)
seconds_mod w k (suc j) l =
    seconds_suc (w % 2 ^ k) j ∙ ap₂ ◌+◌ (bit_mod w k j (omega arith)) (seconds_mod w k j (omega arith)) ∙ sym (seconds_suc w j)

pub mod_more : (w k : ℕ) → w % 2 ^ (k + 1) ≡ bit w k * 2 ^ k + w % 2 ^ k
mod_more w k = ap (λ (j : ℕ). w % 2 ^ j) (add_comm k 1) ∙ mod-pow-add w 1 k

pub pow_more : (k : ℕ) → 2 ^ (k + 1) ≡ 2 * 2 ^ k
pow_more k = rw (add-one k) (omega (arith, pow-suc 2 k))

pub mod_shorter : (w k j : ℕ) → j ≤ k → w % 2 ^ k % 2 ^ j ≡ w % 2 ^ j
mod_shorter w k j l = ap (λ (m : ℕ). w % 2 ^ m % 2 ^ j) (sym e) ∙ mod-mod-pow w (k - j) j
  where
    e : k - j + j ≡ k
    e = omega arith

-- No pass stands above a number below 2 ^ k.
pub bit_above : (x k j : ℕ) → x < 2 ^ k → k ≤ j → bit x j ≡ 0
bit_above x k j h l = rw (div-eq_of_lt (lt_of_lt_of_le h (pow_mono {i = k} {j = j} l)))

pub seconds_above : (x k m : ℕ) → x < 2 ^ k → k ≤ m → seconds x m ≡ seconds x k
seconds_above x k m h l = sym (ap (seconds x) e) ∙ go (m - k)
  where
    e : k + (m - k) ≡ m
    e = omega arith

    go : (d : ℕ) → seconds x (k + d) ≡ seconds x k
    go zero = rw add-zero
    go (suc d) = rw (add-suc k d, seconds_suc) (omega (arith, go d, bit_above x k (k + d) h (omega arith)))

-- A number with no second pass from k on is below 2 ^ k.
pub seconds_flat : (x k d : ℕ) → x < 2 ^ (k + d) → seconds x (k + d) ≡ seconds x k → x < 2 ^ k
seconds_flat x k zero h e = rw (add-zero k) at h
seconds_flat x k (suc d) h e = seconds_flat x k d lower same
  where
    last : bit x (k + d) + seconds x (k + d) ≡ seconds x k
    last = sym (seconds_suc x (k + d)) ∙ ap (seconds x) (sym (add-suc k d)) ∙ e

    none : bit x (k + d) ≡ 0
    none = omega (arith, last, seconds_mono x k (k + d) (omega arith))

    same : seconds x (k + d) ≡ seconds x k
    same = omega (arith, last, none)

    longer : k + suc d ≡ k + d + 1
    longer = omega arith

    whole : x ≡ x % 2 ^ (k + d)
    whole = sym (mod-eq_of_lt (rw longer at h)) ∙ mod_more x (k + d) ∙ rw (none, zero-mul) (omega arith)

    lower : x < 2 ^ (k + d)
    lower = omega (arith, whole, mod-lt x (pow_pos (k + d)))

-- x below 2 ^ k, and then one pass.
module _ (x k : ℕ) (h : x < 2 ^ k) where
  swap : x + 2 ^ k ≡ 1 * 2 ^ k + x
  swap = omega arith

  pub bit_first : bit x k ≡ 0
  bit_first = rw (div-eq_of_lt h)

  pub bit_second : bit (x + 2 ^ k) k ≡ 1
  bit_second = rw (swap, high 1 k h)

  pub mod_second : (x + 2 ^ k) % 2 ^ k ≡ x
  mod_second = rw (swap, low 1 k h)

  pub seconds_before_second : (j : ℕ) → j ≤ k → seconds (x + 2 ^ k) j ≡ seconds x j
  seconds_before_second j l = sym (seconds_mod (x + 2 ^ k) k j l) ∙ ap (λ (y : ℕ). seconds y j) mod_second

  pub firsts_before_second : (j : ℕ) → j ≤ k → firsts (x + 2 ^ k) j ≡ firsts x j
  firsts_before_second j l = omega (arith, firsts_seconds (x + 2 ^ k) j, firsts_seconds x j, seconds_before_second j l)

  pub seconds_first : seconds x (k + 1) ≡ seconds x k
  seconds_first = omega (arith, seconds_more x k, bit_first)

  pub firsts_first : firsts x (k + 1) ≡ firsts x k + 1
  firsts_first = omega (arith, firsts_more x k, bit_first)

  pub seconds_second : seconds (x + 2 ^ k) (k + 1) ≡ seconds x k + 1
  seconds_second = omega (arith, seconds_more (x + 2 ^ k) k, bit_second, seconds_before_second k (omega arith))

  pub firsts_second : firsts (x + 2 ^ k) (k + 1) ≡ firsts x k
  firsts_second = omega (arith, firsts_seconds (x + 2 ^ k) (k + 1), firsts_seconds x k, seconds_second)
