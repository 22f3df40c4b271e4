-- Why as many rounds as variables are enough, over an abstract sequence of iterates x 0, x 1, .. that rises, stays below every solution,
-- and meets each constraint one round late. Take any solution y, and let z be y, one less wherever it differs from the iterate x r. Either z is
-- a solution with a smaller sum, and the claim follows by induction on the sum, or a constraint that z breaks starts at a variable that
-- has its final value and gives one more variable its final value in round r + 1. So after variables - 1 rounds all have it.
use Rattle.std.specs.Prelude.{◌≡◌, ◌⊎◌}
use Rattle.std.proofs.Math.Logic.{inl, inr}
use Prim.Native.Nat.{ℕ, zero, suc, ◌+◌, ◌-◌, ◌≤◌, ◌<◌, min, max}
use native.Mathlib.Omega.{arith}
use Rattle.std.proofs.Math.Decide.{dec_le}
use Rattle.difference.specs.System.{System, Solves, Inside}
use Rattle.base.specs.Sums.{sum_over}
use Rattle.base.specs.SumLaws.{sum_le, sum_lt, sum_full}
use Rattle.difference.specs.Bounded.{all_or}

-- 1 where x and y agree, else 0 (where x ≤ y)
same : (ℕ → ℕ) → (ℕ → ℕ) → ℕ → ℕ
same x y j = 1 - (y j - x j)

same_le : (x y : ℕ → ℕ) (j : ℕ) → same x y j ≤ 1
unfolding same
same_le x y j = omega arith

-- y, one less where it differs from x (where x ≤ y)
lower : (ℕ → ℕ) → (ℕ → ℕ) → ℕ → ℕ
lower x y j = max (x j) (y j - 1)

-- each place at which x and y differ lowers the sum
shrink : (n : ℕ) (x y : ℕ → ℕ) → ((j : ℕ) → x j ≤ y j) → sum_over n (lower x y) + n ≤ sum_over n y + sum_over n (same x y)
unfolding sum_over same lower
shrink zero x y h = omega arith
shrink (suc n) x y h = omega (arith, h n, shrink n x y h)

-- On plain numbers: a constraint that y meets and the lowered values break.
broken : (xi yi xj yj c d : ℕ) → xi ≤ yi → xj ≤ yj → yi + c ≤ yj + d → max xj (yj - 1) + d < max xi (yi - 1) + c
    → (xi ≡ yi) × (xj < yj) × (yj + d ≤ yi + c)
broken xi yi xj yj c d h₁ h₂ h₃ h₄ = omega arith

rises : (u v y : ℕ) → u < y → v ≡ y → 1 - (y - u) < 1 - (y - v)
rises u v y l e = omega arith

module _ (S : System) (inside : Inside S) (x : ℕ → ℕ → ℕ)
    (rise : (r j : ℕ) → x r j ≤ x (suc r) j)
    (below : (y : ℕ → ℕ) → Solves S y → (r j : ℕ) → x r j ≤ y j)
    (push : (r k : ℕ) → k < S.count → x r (S.from k) + S.up k ≤ x (suc r) (S.to k) + S.down k) where
  settled : (ℕ → ℕ) → ℕ → ℕ
  settled y r = sum_over S.variables (same (x r) y)

  -- the last iterate that counts
  Done : Type 0
  Done = Solves S (x (S.variables - 1))

  module _ (y : ℕ → ℕ) (sol : Solves S y)
      (less : (z : ℕ → ℕ) → Solves S z → sum_over S.variables z < sum_over S.variables y → Done) where
    -- a constraint that the lowered vector breaks starts at a settled variable and ends at one that is settled in the next round
    broken_from : (r k : ℕ) → k < S.count → lower (x r) y (S.to k) + S.down k < lower (x r) y (S.from k) + S.up k
        → same (x r) y (S.from k) ≡ 1
    unfolding lower same
    broken_from r k l b =
        let f = broken _ _ _ _ _ _ (below y sol r (S.from k)) (below y sol r (S.to k)) (sol k l) b in
        omega arith

    broken_to : (r k : ℕ) → k < S.count → lower (x r) y (S.to k) + S.down k < lower (x r) y (S.from k) + S.up k
        → same (x r) y (S.to k) < same (x (suc r)) y (S.to k)
    unfolding lower same
    broken_to r k l b =
        let f = broken _ _ _ _ _ _ (below y sol r (S.from k)) (below y sol r (S.to k)) (sol k l) b in
        let e : x (suc r) (S.to k) ≡ y (S.to k) = omega (arith, f, push r k l, below y sol (suc r) (S.to k)) in
        rises _ _ _ f.1 e

    kept : (r j : ℕ) → same (x r) y j ≤ same (x (suc r)) y j
    unfolding same
    kept r j = omega (arith, rise r j, below y sol r j, below y sol (suc r) j)

    -- in each round: all is shown, or every variable is settled, or some variable is settled and one more is in the next
    turn : (r : ℕ) → Done ⊎ ((S.variables ≤ settled y r) ⊎ ((0 < settled y r) × (settled y r < settled y (suc r))))
    unfolding settled
    turn r = go (all_or S.count (λ k. lower (x r) y (S.from k) + S.up k) (λ k. lower (x r) y (S.to k) + S.down k)) (dec_le S.variables (settled y r))
      where
        go : ((k : ℕ) × (k < S.count) × (lower (x r) y (S.to k) + S.down k < lower (x r) y (S.from k) + S.up k)) ⊎ Solves S (lower (x r) y)
            → Dec (S.variables ≤ settled y r) → Done ⊎ ((S.variables ≤ settled y r) ⊎ ((0 < settled y r) × (settled y r < settled y (suc r))))
        go e (yes h) = inr (inl h)
        go (inr z) (no h) = inl (less (lower (x r) y) z (omega (arith, shrink S.variables (x r) y (below y sol r))))
        go (inl w) (no h) = inr (inr (
          omega (arith, sum_lt S.variables (λ j. 0) (same (x r) y) (λ j q. omega arith) (S.from w.0) (inside.from_in w.0 w.1) (omega (arith, broken_from r w.0 w.1 w.2))),
          sum_lt S.variables (same (x r) y) (same (x (suc r)) y) (λ j q. kept r j) (S.to w.0) (inside.to_in w.0 w.1)
              (broken_to r w.0 w.1 w.2),
        ))

    -- so by round r at least r + 1 variables are settled
    grown : (r : ℕ) → Done ⊎ (min S.variables (r + 1) ≤ settled y r)
    unfolding settled
    grown zero = go (turn 0)
      where
        go : Done ⊎ ((S.variables ≤ settled y 0) ⊎ ((0 < settled y 0) × (settled y 0 < settled y 1))) → Done ⊎ (min S.variables (0 + 1) ≤ settled y 0)
        go (inl d) = inl d
        go (inr (inl h)) = inr (omega arith)
        go (inr (inr h)) = inr (omega arith)
    grown (suc r) = go (turn r) (grown r)
      where
        go : Done ⊎ ((S.variables ≤ settled y r) ⊎ ((0 < settled y r) × (settled y r < settled y (suc r))))
            → Done ⊎ (min S.variables (r + 1) ≤ settled y r) → Done ⊎ (min S.variables (suc r + 1) ≤ settled y (suc r))
        go (inl d) g = inl d
        go (inr t) (inl d) = inl d
        go (inr (inl h)) (inr g) = inr (omega (arith, mono))
          where
            mono : settled y r ≤ settled y (suc r)
            mono = sum_le S.variables (same (x r) y) (same (x (suc r)) y) (λ j q. kept r j)
        go (inr (inr h)) (inr g) = inr (omega arith)

    -- and the last iterate that counts is y itself
    reach : Done
    unfolding Done settled same
    reach = go (grown (S.variables - 1))
      where
        equal : S.variables ≤ settled y (S.variables - 1) → (j : ℕ) → j < S.variables → x (S.variables - 1) j ≡ y j
        equal h j l =
            omega (arith, sum_full S.variables (same (x (S.variables - 1)) y) (same_le (x (S.variables - 1)) y) h j l, below y sol (S.variables - 1) j)

        go : Done ⊎ (min S.variables (S.variables - 1 + 1) ≤ settled y (S.variables - 1)) → Done
        go (inl d) = d
        go (inr h) =
            λ k l. let e = equal (omega (arith, inside.some)) in
            omega (arith, sol k l, e (S.from k) (inside.from_in k l), e (S.to k) (inside.to_in k l))

  by_fuel : (n : ℕ) (y : ℕ → ℕ) → Solves S y → sum_over S.variables y < n → Done
  by_fuel zero y sol h = absurd (omega arith)
  by_fuel (suc n) y sol h = reach y sol (λ z solz q. by_fuel n z solz (omega arith))

  -- where there is a solution at all, the iterate before the last round is one
  pub gap : (y : ℕ → ℕ) → Solves S y → Solves S (x (S.variables - 1))
  unfolding Done
  gap y sol = by_fuel (suc (sum_over S.variables y)) y sol (omega arith)
