-- The acceptance of `proper` on plain numbers: its three tests together are `Proper`.
-- The whole number and its lowest 2n bits have the same count, so no higher bit is set; the beginning of 2n passes has as many zeros as ones.
use mathlib.Core.Path.{◌≡◌, sym, ap, ◌∙◌}
use mathlib.Core.Bool.{true}
use Prim.Native.Nat.{ℕ, ◌+◌, ◌-◌, ◌*◌, ◌^◌, ◌≤◌, ◌<◌}
use native.Mathlib.Decide.{dec_lt}
use native.Mathlib.Omega.{arith}
use borrow.Author.Count.{below_more}
use Rattle.order.specs.Order.{seconds, firsts, is_proper}
use Rattle.order.specs.Seconds.{no_pass, seconds_flat, firsts_seconds}
use Rattle.order.specs.Decided.{true_proper}

-- No beginning below k passes has more second than first passes.
pub record Tried (x k : ℕ) : Type 0 where
  pub tried : (j : ℕ) → j < k → seconds x j ≤ firsts x j

pub tried_none : (x : ℕ) → Tried x 1
tried_none x = record { tried = no_pass x }

pub tried_more : (x k f s : ℕ) → Tried x k → f ≡ firsts x k → s ≡ seconds x k → s ≤ f → Tried x (k + 1)
tried_more x k f s t a b h = record { tried = below_more (λ j. seconds x j ≤ firsts x j) k t.tried (omega arith) }

pub tried_all : (n x k r s : ℕ) → x < 2 ^ 64 → n ≤ 32 → r ≡ seconds x 64 → r ≡ n → s ≡ seconds x (2 * n) → s ≡ n
    → Tried x k → 2 * n ≤ k → true ≡ is_proper n x
tried_all n x k r s h l e a d b t q =
    sym (true_proper n x (record { exactly = exactly; no_higher = no_higher; beginnings = λ j i. go j i (dec_lt j (2 * n)) }))
  where
    exactly : seconds x (2 * n) ≡ n
    exactly = sym d ∙ b

    up : 2 * n + (64 - 2 * n) ≡ 64
    up = omega arith

    no_higher : x < 2 ^ (2 * n)
    no_higher = seconds_flat x (2 * n) (64 - 2 * n) (rw up h) (ap (seconds x) up ∙ sym e ∙ a ∙ sym exactly)

    go : (j : ℕ) → j ≤ 2 * n → Dec (j < 2 * n) → seconds x j ≤ firsts x j
    go j i (yes w) = t.tried j (omega arith)
    go j i (no w) = rw last (omega (arith, exactly, firsts_seconds x (2 * n)))
      where
        last : j ≡ 2 * n
        last = omega arith
