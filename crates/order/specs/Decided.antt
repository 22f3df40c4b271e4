-- The test `is_proper` decides `Proper`: each of its three parts decides one field.
use Rattle.std.specs.Prelude.{◌≡◌, refl, Bool, true, false, ◌&&◌, ℕ, zero, suc, ◌*◌, ◌^◌, ◌≤◌, ltb, leb, eqb}
use Rattle.std.proofs.Common.{sym, ◌∙◌, true≢false, add-one, arith, lt-ltb, le-leb, eq-eqb, ltb-true, leb-true, eqb-true}
use Rattle.order.specs.Order.{seconds, firsts, Proper, never_more_seconds, is_proper, Decides}
use Rattle.order.specs.Seconds.{no_pass, one_pass_more}

both : (a b : Bool) → a && b ≡ true → (a ≡ true) × (b ≡ true)
both true b e = (refl, e)
both false b e = absurd (true≢false (sym e))

never_true : (x k : ℕ) → never_more_seconds x k ≡ true → (j : ℕ) → j ≤ k → seconds x j ≤ firsts x j
unfolding never_more_seconds
never_true x zero e j l = no_pass x j (omega arith)
never_true x (suc k) e j l = one_pass_more x k (never_true x k parts.1) (rw (add-one k) (leb-true _ _ parts.0)) j (omega arith)
  where
    parts : (leb (seconds x (suc k)) (firsts x (suc k)) ≡ true) × (never_more_seconds x k ≡ true)
    parts = both _ _ e

never_holds : (x k : ℕ) → ((j : ℕ) → j ≤ k → seconds x j ≤ firsts x j) → never_more_seconds x k ≡ true
unfolding never_more_seconds
never_holds x zero f = refl
never_holds x (suc k) f = rw (le-leb _ _ (f (suc k) (omega arith))) (never_holds x k (λ j l. f j (omega arith)))

pub proper_true : (n x : ℕ) → is_proper n x ≡ true → Proper n x
unfolding is_proper
proper_true n x e = record {
  exactly = eqb-true _ _ counts.0;
  no_higher = ltb-true _ _ counts.1;
  beginnings = never_true x (2 * n) parts.1;
}
  where
    parts : (eqb (seconds x (2 * n)) n && ltb x (2 ^ (2 * n)) ≡ true) × (never_more_seconds x (2 * n) ≡ true)
    parts = both (eqb (seconds x (2 * n)) n && ltb x (2 ^ (2 * n))) (never_more_seconds x (2 * n)) e

    counts : (eqb (seconds x (2 * n)) n ≡ true) × (ltb x (2 ^ (2 * n)) ≡ true)
    counts = both (eqb (seconds x (2 * n)) n) (ltb x (2 ^ (2 * n))) parts.0

pub true_proper : (n x : ℕ) → Proper n x → is_proper n x ≡ true
unfolding is_proper
true_proper n x p = rw (eq-eqb _ _ p.exactly, lt-ltb _ _ p.no_higher) (never_holds x (2 * n) p.beginnings)

pub proper_decided : (n x : ℕ) → Decides (Proper n x) (is_proper n x)
proper_decided n x = record { holds = proper_true n x; fails = λ e p. true≢false (sym (true_proper n x p) ∙ e) }

pub false_proper : (n x : ℕ) → (Proper n x → ⊥) → is_proper n x ≡ false
false_proper n x f = go (is_proper n x) (proper_true n x)
  where
    go : (r : Bool) → (r ≡ true → Proper n x) → r ≡ false
    go true t = absurd (f (t refl))
    go false t = refl
