-- Laws for a search over pass orders: a beginning of k passes has up to two children, x (a first pass next) and x + 2 ^ k (a second pass next),
-- a beginning of 2n passes is a proper order, and every proper order goes on through exactly one possible child of each of its beginnings.
use Rattle.std.specs.Prelude.{◌≡◌, ◌⊎◌, ℕ, ◌+◌, ◌*◌, ◌%◌, ◌^◌, ◌≤◌, ◌<◌}
use Rattle.std.proofs.Common.{sym, ap, ◌∙◌, inl, inr, mod-eq_of_lt, zero-mul, one-mul, arith, pow_pos}
use Rattle.std.proofs.Math.Nat.{mod-one}
use Rattle.order.specs.Order.{bit, seconds, firsts, Proper}
use Rattle.order.specs.Beginning.{Beginning, Extends, Through, by_first, by_second}
use Rattle.order.specs.Blocks.{proper_first, proper_second}
use Rattle.order.specs.Seconds.{bit_cases, no_pass, one_pass_more, firsts_seconds, bit_mod, seconds_mod, mod_more, pow_more, mod_shorter, mod_second}
use Rattle.order.specs.Seconds.{seconds_before_second, firsts_before_second, seconds_first, firsts_first, seconds_second, firsts_second}

-- The root of the search.
pub beginning_empty : (n : ℕ) → Beginning n 0 0
beginning_empty n = record {
  within = omega arith;
  no_higher = omega arith;
  first_passes = omega (arith, firsts_seconds 0 0);
  beginnings = λ j l. no_pass 0 j (omega arith);
}

module _ {n k x : ℕ} (b : Beginning n k x) where
  -- A first pass next.
  pub first_child : firsts x k < n → Beginning n (k + 1) x
  first_child l = record {
    within = omega (arith, firsts_seconds x k, b.beginnings k (omega arith));
    no_higher = omega (arith, pow_more k);
    first_passes = omega (arith, firsts_first x k b.no_higher);
    beginnings =
        one_pass_more x k b.beginnings (omega (arith, seconds_first x k b.no_higher, firsts_first x k b.no_higher, b.beginnings k (omega arith)));
  }

  -- A second pass next.
  pub second_child : seconds x k < firsts x k → Beginning n (k + 1) (x + 2 ^ k)
  second_child l = record {
    within = omega (arith, firsts_seconds x k);
    no_higher = omega (arith, pow_more k);
    first_passes = omega (arith, firsts_second x k b.no_higher);
    beginnings = one_pass_more (x + 2 ^ k) k before (omega (arith, seconds_second x k b.no_higher, firsts_second x k b.no_higher));
  }
    where
      before : (j : ℕ) → j ≤ k → seconds (x + 2 ^ k) j ≤ firsts (x + 2 ^ k) j
      before j q = rw (seconds_before_second x k b.no_higher j q, firsts_before_second x k b.no_higher j q) (b.beginnings j q)

-- A whole beginning is a proper order.
pub whole_proper : {n x : ℕ} → Beginning n (2 * n) x → Proper n x
whole_proper {n} {x} b = record {
  exactly = omega (arith, firsts_seconds x (2 * n), b.beginnings (2 * n) (omega arith));
  no_higher = b.no_higher;
  beginnings = b.beginnings;
}

-- The passes of w below k are those of x.
pub extends_bit : {w k x : ℕ} → Extends w k x → (j : ℕ) → j < k → bit w j ≡ bit x j
extends_bit {w} {k} {x} e j l = sym (bit_mod w k j l) ∙ ap (λ (y : ℕ). bit y j) e.begins

pub extends_seconds : {w k x : ℕ} → Extends w k x → (j : ℕ) → j ≤ k → seconds w j ≡ seconds x j
extends_seconds {w} {k} {x} e j l = sym (seconds_mod w k j l) ∙ ap (λ (y : ℕ). seconds y j) e.begins

pub extends_firsts : {w k x : ℕ} → Extends w k x → (j : ℕ) → j ≤ k → firsts w j ≡ firsts x j
extends_firsts {w} {k} {x} e j l = omega (arith, firsts_seconds w j, firsts_seconds x j, extends_seconds e j l)

pub extends_empty : (w : ℕ) → Extends w 0 0
extends_empty w = record { begins = mod-one w }

pub extends_itself : {n w : ℕ} → Proper n w → Extends w (2 * n) w
extends_itself p = record { begins = mod-eq_of_lt p.no_higher }

-- A proper order extends no whole beginning but itself.
pub extends_whole : {n w x : ℕ} → Proper n w → Extends w (2 * n) x → x ≡ w
extends_whole p e = sym e.begins ∙ mod-eq_of_lt p.no_higher

-- The next pass of w decides which child it extends.
pub extends_first : {w k x : ℕ} → Extends w k x → bit w k ≡ 0 → Extends w (k + 1) x
extends_first {w} {k} {x} e z = record { begins = mod_more w k ∙ rw (z, zero-mul, e.begins) (omega arith) }

pub extends_second : {w k x : ℕ} → Extends w k x → bit w k ≡ 1 → Extends w (k + 1) (x + 2 ^ k)
extends_second {w} {k} {x} e z = record { begins = mod_more w k ∙ rw (z, one-mul, e.begins) (omega arith) }

-- What extends a beginning extends each beginning of it, so what extends a child extends its parent.
pub extends_shorter : {w k x : ℕ} → Extends w k x → (j : ℕ) → j ≤ k → Extends w j (x % 2 ^ j)
extends_shorter {w} {k} {x} e j l = record { begins = sym (mod_shorter w k j l) ∙ ap (λ (y : ℕ). y % 2 ^ j) e.begins }

pub first_parent : {w k x : ℕ} → x < 2 ^ k → Extends w (k + 1) x → Extends w k x
first_parent {w} {k} {x} h e = rw (mod-eq_of_lt h) at (extends_shorter e k (omega arith))

pub second_parent : (w k x : ℕ) → x < 2 ^ k → Extends w (k + 1) (x + 2 ^ k) → Extends w k x
second_parent w k x h e = rw (mod_second x k h) at (extends_shorter e k (omega arith))

-- Of the two children it extends at most one.
pub one_child : (w k x : ℕ) → Extends w (k + 1) x → Extends w (k + 1) (x + 2 ^ k) → ⊥
one_child w k x a b = omega (arith, a.begins, b.begins, pow_pos k)

-- A proper order goes on through a possible child of each of its beginnings.
pub through_child : {n w k x : ℕ} → Proper n w → k < 2 * n → Extends w k x → Through n w k x
through_child {n} {w} {k} {x} p l e = go (bit_cases w k)
  where
    go : (bit w k ≡ 0) ⊎ (bit w k ≡ 1) → Through n w k x
    go (inl z) = by_first (rw (extends_firsts e k (omega arith)) at (proper_first p k l z)) (extends_first e z)
    go (inr z) =
        by_second
        (rw (extends_seconds e k (omega arith), extends_firsts e k (omega arith)) at (proper_second p k l z))
        (extends_second e z)
