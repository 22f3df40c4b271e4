-- The fact that planners rest on: after as many rounds as there are variables the values are the least solution, or there is no solution.
use Rattle.std.specs.Prelude.{◌≡◌, Bool, true, false, ◌&&◌, List, leb}
use Rattle.std.proofs.Math.Path.{refl}
use Rattle.std.proofs.Common.{sym, ap, ◌∙◌, true≢false, add-zero, add-suc, arith}
use Prim.Native.Nat.{ℕ, zero, suc, ◌+◌, ◌-◌, ◌≤◌, ◌<◌}
use Rattle.std.proofs.Math.Decide.{ℕ_discrete}
use borrow.Author.Tests.{le-leb, leb-true}
use Rattle.difference.specs.System.{System, Solves, Inside, value, rounds, holds, least_values, solvable}
use Rattle.difference.specs.Round.{relaxed_still, rounds_below, rounds_solve}

-- The test `holds` decides the first k constraints.
pub both : (a b : Bool) → a && b ≡ true → (a ≡ true) × (b ≡ true)
both true b e = (refl, e)
both false b e = absurd (true≢false (sym e))

module _ (S : System) (t : List ℕ) where
  pub holds_true : (k : ℕ) → holds S k t ≡ true → (j : ℕ) → j < k → value t (S.from j) + S.up j ≤ value t (S.to j) + S.down j
  unfolding holds
  holds_true zero e j l = absurd (omega arith)
  holds_true (suc k) e j l = go (ℕ_discrete j k) (holds_true k parts.0 j)
    where
      parts : (holds S k t ≡ true) × (leb (value t (S.from k) + S.up k) (value t (S.to k) + S.down k) ≡ true)
      parts = both _ _ e

      go : Dec (j ≡ k) → (j < k → value t (S.from j) + S.up j ≤ value t (S.to j) + S.down j)
          → value t (S.from j) + S.up j ≤ value t (S.to j) + S.down j
      go (yes w) ih = rw w (leb-true _ _ parts.1)
      go (no ne) ih = ih (omega arith)

  pub true_holds : (k : ℕ) → ((j : ℕ) → j < k → value t (S.from j) + S.up j ≤ value t (S.to j) + S.down j) → holds S k t ≡ true
  unfolding holds
  true_holds zero h = refl
  true_holds (suc k) h = rw (true_holds k (λ j l. h j (omega arith)), le-leb _ _ (h k (omega arith)))

  pub false_holds : (k : ℕ) (b : Bool) → holds S k t ≡ b → (((j : ℕ) → j < k → value t (S.from j) + S.up j ≤ value t (S.to j) + S.down j) → ⊥) → b ≡ false
  false_holds k true e h = absurd (h (holds_true k e))
  false_holds k false e h = refl

-- Once the values are a solution, further rounds leave them.
pub rounds_still : (S : System) (r : ℕ) → Solves S (value (rounds S r)) → (d : ℕ) → rounds S (r + d) ≡ rounds S r
unfolding rounds
rounds_still S r s zero = rw (add-zero r)
rounds_still S r s (suc d) = rw (add-suc r d, rounds_still S r s d) (relaxed_still S S.count (rounds S r) s)

module _ (S : System) (inside : Inside S) where
  pub solvable_solves : solvable S ≡ true → Solves S (value (least_values S))
  unfolding solvable
  solvable_solves e = holds_true S (least_values S) S.count e

  pub least_below : (y : ℕ → ℕ) → Solves S y → (j : ℕ) → value (least_values S) j ≤ y j
  unfolding least_values
  least_below y s j = rounds_below S y s S.variables j

  last_still : (y : ℕ → ℕ) → Solves S y → rounds S S.variables ≡ rounds S (S.variables - 1)
  last_still y s = ap (rounds S) e ∙ rounds_still S (S.variables - 1) (rounds_solve S inside y s) 1
    where
      e : S.variables ≡ S.variables - 1 + 1
      e = omega (arith, inside.some)

  pub solution_solvable : (y : ℕ → ℕ) → Solves S y → solvable S ≡ true
  unfolding solvable least_values
  solution_solvable y s = true_holds S (rounds S S.variables) S.count (rw (last_still y s) (rounds_solve S inside y s))

  -- "the rounds reach the least solution within the number of variables, or there is none"
  pub least_or_none : (solvable S ≡ true → Solves S (value (least_values S)) × ((y : ℕ → ℕ) → Solves S y → (j : ℕ) → value (least_values S) j ≤ y j))
      × (solvable S ≡ false → (y : ℕ → ℕ) → Solves S y → ⊥)
  least_or_none = (λ e. (solvable_solves e, least_below), λ e y s. true≢false (sym (solution_solvable y s) ∙ e))
