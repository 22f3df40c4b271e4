-- Laws of the passes of n blocks. In a proper order the pass at each position is one of the 2n, and each of the 2n has a position: the counts of first
-- and of second passes grow by at most one from a position to the next, so each count is that of some position.
use Rattle.std.specs.Prelude.{◌≡◌, List, ◌⊎◌, ℕ, zero, suc, ◌+◌, ◌-◌, ◌*◌, ◌^◌, ◌≤◌, ◌<◌, get_or}
use Rattle.std.proofs.Common.{sym, ap, ◌∙◌, inl, inr, ⊎_elim, add-one, arith, lt-ltb, le-ltb, eq-eqb, ne_eqb}
use Rattle.std.proofs.Math.Decide.{dec_lt}
use Rattle.order.specs.Order.{bit, seconds, firsts, Proper}
use Rattle.order.specs.Seconds.{bit_cases, seconds_suc, seconds_zero, seconds_more, seconds_le, firsts_seconds, firsts_more}
use Rattle.order.specs.Blocks.{proper_first, proper_second, proper_firsts}
use Rattle.order.specs.Passes.{pass_at, time_of}

-- the pass at a position, by its bit
pub pass_second : (n w k : ℕ) → bit w k ≡ 1 → pass_at n w k ≡ n + seconds w k
unfolding pass_at
pass_second n w k e = rw (eq-eqb (bit w k) 1 e)

pub pass_first : (n w k : ℕ) → (bit w k ≡ 1 → ⊥) → pass_at n w k ≡ firsts w k
unfolding pass_at
pass_first n w k e = rw (ne_eqb (bit w k) 1 e)

-- each count of passes is that of some position
second_position : (w k i : ℕ) → i < seconds w k → (j : ℕ) × (j < k) × (bit w j ≡ 1) × (seconds w j ≡ i)
second_position w zero i l = absurd (omega (arith, seconds_zero w))
second_position w (suc k) i l = go (dec_lt i (seconds w k)) (bit_cases w k) (second_position w k i)
  where
    go : Dec (i < seconds w k) → (bit w k ≡ 0) ⊎ (bit w k ≡ 1) → (i < seconds w k → (j : ℕ) × (j < k) × (bit w j ≡ 1) × (seconds w j ≡ i))
        → (j : ℕ) × (j < suc k) × (bit w j ≡ 1) × (seconds w j ≡ i)
    go (yes q) b ih = let r = ih q in (r.0, omega arith, r.2, r.3)
    go (no q) (inl z) ih = absurd (omega (arith, seconds_suc w k))
    go (no q) (inr e) ih = (k, omega arith, e, omega (arith, seconds_suc w k))

first_position : (w k i : ℕ) → i < firsts w k → (j : ℕ) × (j < k) × (bit w j ≡ 0) × (firsts w j ≡ i)
first_position w zero i l = absurd (omega (arith, firsts_seconds w 0))
first_position w (suc k) i l = go (dec_lt i (firsts w k)) (bit_cases w k) (first_position w k i)
  where
    one_more : firsts w (suc k) + bit w k ≡ firsts w k + 1
    one_more = rw (← add-one k) (firsts_more w k)

    go : Dec (i < firsts w k) → (bit w k ≡ 0) ⊎ (bit w k ≡ 1) → (i < firsts w k → (j : ℕ) × (j < k) × (bit w j ≡ 0) × (firsts w j ≡ i))
        → (j : ℕ) × (j < suc k) × (bit w j ≡ 0) × (firsts w j ≡ i)
    go (yes q) b ih = let r = ih q in (r.0, omega arith, r.2, r.3)
    go (no q) (inl z) ih = (k, omega arith, z, omega (arith, one_more))
    go (no q) (inr e) ih = absurd (omega (arith, one_more))

module _ {n w : ℕ} (proper : Proper n w) where
  -- the pass at a position is one of the flight's
  pub pass_known : (k : ℕ) → k < 2 * n → pass_at n w k < 2 * n
  pass_known k h =
      ⊎_elim (λ z. omega (arith, pass_first n w k (λ o. omega arith), proper_first proper k h z))
      (λ o. omega (arith, pass_second n w k o, proper_second proper k h o, proper_firsts proper k (omega arith)))
      (bit_cases w k)

  -- every pass has a position
  pub position : (p : ℕ) → p < 2 * n → (k : ℕ) × (k < 2 * n) × (pass_at n w k ≡ p)
  position p l = go (dec_lt p n)
    where
      go : Dec (p < n) → (k : ℕ) × (k < 2 * n) × (pass_at n w k ≡ p)
      go (yes q) =
          let r = first_position w (2 * n) p (omega (arith, firsts_seconds w (2 * n), proper.exactly)) in
          (r.0, r.1, pass_first n w r.0 (λ o. omega (arith, r.2)) ∙ r.3)
      go (no q) =
          let r = second_position w (2 * n) (p - n) (omega (arith, proper.exactly)) in
          (r.0, r.1, pass_second n w r.0 r.2 ∙ omega (arith, r.3))

-- the last position has the second pass of the last block
pub last_pass : {n w : ℕ} → Proper n w → 0 < n → pass_at n w (2 * n - 1) ≡ 2 * n - 1
last_pass {n} {w} proper some = pass_second n w (2 * n - 1) one ∙ omega (arith, more, one)
  where
    e : 2 * n ≡ 2 * n - 1 + 1
    e = omega arith

    more : n ≡ bit w (2 * n - 1) + seconds w (2 * n - 1)
    more = sym proper.exactly ∙ ap (seconds w) e ∙ seconds_more w (2 * n - 1)

    one : bit w (2 * n - 1) ≡ 1
    one = go (bit_cases w (2 * n - 1))
      where
        go : (bit w (2 * n - 1) ≡ 0) ⊎ (bit w (2 * n - 1) ≡ 1) → bit w (2 * n - 1) ≡ 1
        go (inr h) = h
        go (inl h) = absurd (omega (arith, more, proper.beginnings (2 * n - 1) (omega arith), firsts_seconds w (2 * n - 1)))

-- the time of a first pass and of a second pass
module _ (n : ℕ) (first second : List ℕ) (p : ℕ) where
  pub first_time : p < n → get_or first p 0 ≡ time_of n first second p
  unfolding time_of
  first_time l = rw (lt-ltb p n l)

  pub second_time : n ≤ p → get_or second (p - n) 0 ≡ time_of n first second p
  unfolding time_of
  second_time l = rw (le-ltb p n l)

-- what `pass_at` computes
module _ (n w k b s : ℕ) (pre : (n ≤ 32) × (k < 64)) where
  pub second_fits : s ≡ seconds w k → n + s < 2 ^ 64
  second_fits e = omega (arith, seconds_le w k)

  pub second_pass : b ≡ bit w k → b ≡ 1 → s ≡ seconds w k → n + s ≡ pass_at n w k
  second_pass e one q = rw q (sym (pass_second n w k (sym e ∙ one)))

  pub first_pass : b ≡ bit w k → (b ≡ 1 → ⊥) → s ≡ firsts w k → s ≡ pass_at n w k
  first_pass e one q = q ∙ sym (pass_first n w k (λ h. one (e ∙ h)))
