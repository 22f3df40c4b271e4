-- The turns of the two loops, on plain values: one constraint of a round, and one round. A solution is left as it is, so the result of a round
-- is decided at the first constraint that does not hold, where the values are still those that the round began with.
use mathlib.Core.Path.{◌≡◌, refl, sym, ap, ◌∙◌}
use mathlib.Core.Bool.{Bool, true, false, ◌&&◌, true≢false}
use mathlib.Core.List.{List}
use Prim.Native.Nat.{ℕ, ◌+◌, ◌-◌, ◌≤◌, ◌<◌, ◌^◌}
use native.Mathlib.Numerals.{add-one}
use native.Mathlib.Decide.{dec_le}
use native.Mathlib.Omega.{arith}
use borrow.Author.Tests.{le-leb, lt-leb}
use lib.Dec.{leb}
use lib.ListN.{length, set, replicate, length-set}
use Rattle.difference.specs.System.{System, Solves, Inside, value, raised, relax, relaxed, rounds, holds, least_values, solvable}
use Rattle.difference.specs.Caps.{most_number, round_cap, value_cap}
use Rattle.difference.specs.Round.{relax_still, relaxed_bound, relaxed_still, rounds_length, rounds_bound, rounds_solve}
use Rattle.difference.specs.Least.{holds_true, true_holds, false_holds, rounds_still}
use Rattle.difference.specs.Rows.{item, system_of, SolvePre, RoundPre, RoundDone, SolveDone, InRound, InRounds}
use Rattle.difference.specs.declared.Constraint.{Constraint}

pub round_start : (S : System) (t : List ℕ) → InRound S t t true 0
unfolding relaxed holds
round_start S t = record { within = omega arith; same_length = refl; values = refl; result = refl }

-- One constraint of a round.
module _ (S : System) (t₀ t : List ℕ) (held : Bool) (k : ℕ) (inv : InRound S t₀ t held k) (l : k < S.count) where
  -- While all constraints held, nothing has changed.
  untouched : holds S k t₀ ≡ true → t ≡ t₀
  untouched e = inv.values ∙ relaxed_still S k t₀ (holds_true S t₀ k e)

  pub constraint_held : value t (S.from k) + S.up k ≤ value t (S.to k) + S.down k → InRound S t₀ t held (k + 1)
  unfolding relaxed holds
  constraint_held h = record {
    within = omega arith;
    same_length = inv.same_length;
    values = rw (add-one k, ← inv.values) (sym (relax_still S k t h));
    result = rw (add-one k) (inv.result ∙ go (holds S k t₀) refl);
  }
    where
      go : (b : Bool) → holds S k t₀ ≡ b → b ≡ b && leb (value t₀ (S.from k) + S.up k) (value t₀ (S.to k) + S.down k)
      go true q = sym (le-leb _ _ (rw (untouched q) at h))
      go false q = refl

  pub constraint_broken : value t (S.to k) + S.down k < value t (S.from k) + S.up k
      → InRound S t₀ (set t (S.to k) (value t (S.from k) + S.up k - S.down k)) false (k + 1)
  unfolding relaxed relax holds
  constraint_broken h = record {
    within = omega arith;
    same_length = simp length-set inv.same_length;
    values = rw (add-one k, ← inv.values) (ap (set t (S.to k)) e);
    result = rw (add-one k) (go (holds S k t₀) refl);
  }
    where
      e : value t (S.from k) + S.up k - S.down k ≡ raised S k t
      e = omega arith

      go : (b : Bool) → holds S k t₀ ≡ b → false ≡ b && leb (value t₀ (S.from k) + S.up k) (value t₀ (S.to k) + S.down k)
      go true q = sym (lt-leb _ _ (rw (untouched q) at h))
      go false q = refl

pub round_end : {S : System} {t₀ t : List ℕ} {held : Bool} {k : ℕ} → InRound S t₀ t held k → S.count ≤ k → RoundDone S t₀ t held
round_end {S} {t₀} {t} {held} {k} inv h =
    record { values = inv.values ∙ ap (λ (n : ℕ). relaxed S n t₀) e; result = inv.result ∙ ap (λ (n : ℕ). holds S n t₀) e }
  where
    e : k ≡ S.count
    e = omega arith

-- One round.
pub rounds_start : {S : System} {t : List ℕ} → t ≡ replicate S.variables 0 → InRounds S t 0
unfolding rounds
rounds_start e = record { within = omega arith; values = e; unsolved = λ q l. absurd (omega arith) }

pub rounds_more : {S : System} {t t' : List ℕ} {held : Bool} {r : ℕ} → InRounds S t r → r < S.variables → RoundDone S t t' held → held ≡ false
    → InRounds S t' (r + 1)
unfolding rounds
rounds_more {S} {t} {t'} {held} {r} inv l d m = record {
  within = omega arith;
  values = rw add-one (d.values ∙ ap (relaxed S S.count) inv.values);
  unsolved = λ q h. go q (dec_le r q) h;
}
  where
    last : holds S S.count (rounds S r) ≡ false
    last = ap (holds S S.count) (sym inv.values) ∙ sym d.result ∙ m

    go : (q : ℕ) → Dec (r ≤ q) → q < r + 1 → holds S S.count (rounds S q) ≡ false
    go q (yes h) l = ap (λ (n : ℕ). holds S S.count (rounds S n)) e ∙ last
      where
        e : q ≡ r
        e = omega arith
    go q (no h) l = inv.unsolved q (omega arith)

module _ {S : System} {t : List ℕ} {r : ℕ} (inside : Inside S) (inv : InRounds S t r) where
  -- A round that began at a solution ends all rounds.
  pub solution_found : {t' : List ℕ} {held : Bool} → r < S.variables → RoundDone S t t' held → held ≡ true → SolveDone S t' true
  unfolding least_values solvable
  solution_found {t'} {held} l d m = record {
    values = d.values ∙ relaxed_still S S.count t solved ∙ inv.values ∙ sym later;
    result = sym (true_holds S (rounds S S.variables) S.count (rw (later, ← inv.values) solved));
  }
    where
      solved : Solves S (value t)
      solved = holds_true S t S.count (sym d.result ∙ m)

      e : S.variables ≡ r + (S.variables - r)
      e = omega arith

      later : rounds S S.variables ≡ rounds S r
      later = ap (rounds S) e ∙ rounds_still S r (rw inv.values at solved) (S.variables - r)

  pub none_found : S.variables ≤ r → SolveDone S t false
  unfolding least_values solvable
  none_found l = record {
    values = inv.values ∙ ap (rounds S) e;
    result = sym (false_holds S (rounds S S.variables) S.count (holds S S.count (rounds S S.variables)) refl none);
  }
    where
      e : r ≡ S.variables
      e = omega (arith, inv.within)

      none : Solves S (value (rounds S S.variables)) → ⊥
      none s =
          true≢false
          (sym (true_holds S (rounds S (S.variables - 1)) S.count (rounds_solve S inside (value (rounds S S.variables)) s))
          ∙ inv.unsolved (S.variables - 1) (omega (arith, inside.some)))

pub fit_inside : {n : ℕ} {rows : List Constraint} → SolvePre n rows → Inside (system_of n rows)
fit_inside f = record { some = f.some; from_in = f.from_in; to_in = f.to_in }

-- The same as the code does it: m, the length of the values that were set to zeros, is n, that of those that were lent.
module _ {n : ℕ} {rows : List Constraint} {t : List ℕ} {r : ℕ} (fit : SolvePre n rows) (inv : InRounds (system_of n rows) t r) where
  pub rounds_same_length : length t ≡ n
  rounds_same_length = ap length inv.values ∙ rounds_length (system_of n rows) r

  pub round_ready : RoundPre t rows
  round_ready = record { fit = rw rounds_same_length fit; low = low }
    where
      low : (j : ℕ) → value t j ≤ value_cap
      low j = rw inv.values (omega (arith, rounds_bound (system_of n rows) fit.short fit.up_low r j, inv.within, fit.few))

  module _ {m : ℕ} (same : m ≡ n) where
    module _ {t' : List ℕ} {held : Bool} (d : RoundDone (system_of (length t) rows) t t' held) (l : r < m) where
      pub go_on : held ≡ false → InRounds (system_of n rows) t' (r + 1)
      go_on e = rounds_more inv (omega arith) (rw rounds_same_length at d) e

      pub stop : held ≡ true → SolveDone (system_of n rows) t' true
      stop e = solution_found (fit_inside fit) inv (omega arith) (rw rounds_same_length at d) e

    pub give_up : m ≤ r → SolveDone (system_of n rows) t false
    give_up l = none_found (fit_inside fit) inv (omega arith)

-- The sums of one constraint of a round fit 64 bits.
module _ {rows : List Constraint} {t₀ t : List ℕ} {held : Bool} {k : ℕ} (ready : RoundPre t₀ rows)
    (inv : InRound (system_of (length t₀) rows) t₀ t held k) (l : k < length rows) where
  low : (j : ℕ) → value t j ≤ value_cap + round_cap
  low j =
      rw inv.values
      (omega (
        arith,
        ready.fit.short,
        relaxed_bound (system_of (length t₀) rows) k t₀ value_cap most_number (λ k' l'. ready.fit.up_low k' (omega arith)) ready.low j,
      ))

  pub wanted_fits : (j : ℕ) → value t j + (item rows k).up < 2 ^ 64
  wanted_fits j = omega (arith, low j, ready.fit.up_low k l)

  pub had_fits : value t (item rows k).to + (item rows k).down < 2 ^ 64
  had_fits = omega (arith, low (item rows k).to, ready.fit.down_low k l)
