-- Two families that have the same constraints have the same result.
use Rattle.std.specs.Prelude.{◌≡◌, List}
use Rattle.std.proofs.Math.Path.{refl, ap}
use Rattle.std.proofs.Common.{◌∙◌, arith}
use Prim.Native.Nat.{ℕ, zero, suc, ◌≤◌, ◌<◌}
use Rattle.difference.specs.System.{System, relax, relaxed, rounds, holds, least_values, solvable}

pub record Agree (S T : System) : Type 0 where
  pub variables : S.variables ≡ T.variables
  pub count : S.count ≡ T.count
  pub from : (k : ℕ) → k < S.count → S.from k ≡ T.from k
  pub to : (k : ℕ) → k < S.count → S.to k ≡ T.to k
  pub up : (k : ℕ) → k < S.count → S.up k ≡ T.up k
  pub down : (k : ℕ) → k < S.count → S.down k ≡ T.down k

module _ (S T : System) (a : Agree S T) where
  agree_relaxed : (k : ℕ) (t : List ℕ) → k ≤ S.count → relaxed S k t ≡ relaxed T k t
  unfolding relaxed relax
  agree_relaxed zero t l = refl
  agree_relaxed (suc k) t l =
      rw (agree_relaxed k t (omega arith), a.from k (omega arith), a.to k (omega arith), a.up k (omega arith), a.down k (omega arith))

  agree_holds : (k : ℕ) (t : List ℕ) → k ≤ S.count → holds S k t ≡ holds T k t
  unfolding holds
  agree_holds zero t l = refl
  agree_holds (suc k) t l =
      rw (agree_holds k t (omega arith), a.from k (omega arith), a.to k (omega arith), a.up k (omega arith), a.down k (omega arith))

  agree_rounds : (r : ℕ) → rounds S r ≡ rounds T r
  unfolding rounds
  agree_rounds zero = rw a.variables
  agree_rounds (suc r) =
      ap (relaxed S S.count) (agree_rounds r) ∙ agree_relaxed S.count (rounds T r) (omega arith) ∙ ap (λ (k : ℕ). relaxed T k (rounds T r)) a.count

  pub agree_values : least_values S ≡ least_values T
  unfolding least_values
  agree_values = agree_rounds S.variables ∙ ap (rounds T) a.variables

  pub agree_solvable : solvable S ≡ solvable T
  unfolding solvable
  agree_solvable =
      ap (holds S S.count) agree_values ∙ agree_holds S.count (least_values T) (omega arith) ∙ ap (λ (k : ℕ). holds T k (least_values T)) a.count
