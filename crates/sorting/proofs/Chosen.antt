-- The list that the search chose leads through states in which each desk it names has a strip left, and ends at the least figure.
use Rattle.std.specs.Prelude.{◌≡◌, refl, List, ◌⊎◌}
use Rattle.std.proofs.Common.{sym, ◌∙◌, inl, inr}
use Rattle.std.proofs.Math.Path.{ap, subst}
use Prim.Native.Nat.{ℕ, zero, suc, ◌+◌, ◌-◌, ◌*◌, ◌^◌, ◌/◌, ◌%◌, ◌≤◌, ◌<◌}
use Rattle.std.proofs.Math.Nat.{div-eq_of_lt-le}
use native.Mathlib.Omega.{arith}
use Rattle.interleaving.specs.declared.State.{State}
use Rattle.interleaving.specs.declared.Incumbent.{Incumbent}
use Rattle.interleaving.specs.Instance.{Instance}
use Rattle.interleaving.specs.Search.{StripLeft, step_of, start_state, no_incumbent, search_from, first_best, Completes}
use Rattle.interleaving.proofs.SearchLaws.{search_bound}
use Rattle.interleaving.specs.Consistent.{Consistent}
use Rattle.interleaving.proofs.Consistent.{consistent_start}
use Rattle.interleaving.specs.Completion.{Attained}
use Rattle.interleaving.proofs.Completion.{bound_completes, search_attains, path_range, step_path}
use Rattle.sorting.specs.Plan.{reached, listed_desk}
use Rattle.sorting.proofs.Route.{completion}
use Rattle.sorting.specs.Chosen.{chosen_state, Chosen}

-- the digit of a completion's number is the desk that was served
digit_is : (J : List ℕ) (k : ℕ) (x e : State) (d : ℕ) → d < 3 → Completes J k (step_of J x d) e → e.path / 4 ^ k % 4 ≡ d + 1
digit_is J k x e d p c = go (path_range J k (step_of J x d) e c)
  where
    go : ((step_of J x d).path * 4 ^ k ≤ e.path) × (e.path < ((step_of J x d).path + 1) * 4 ^ k) → e.path / 4 ^ k % 4 ≡ d + 1
    go w = rw (div-eq_of_lt-le (4 ^ k) w.0 w.1, step_path J x d) (omega arith)

record Step (J : List ℕ) (k : ℕ) (x e : State) (d : ℕ) : Type 0 where
  pub desk : d - 1 < 3
  pub strip : StripLeft J x (d - 1)
  pub digit : d ≡ d - 1 + 1
  pub rest : Completes J k (step_of J x (d - 1)) e

step_of_lem : (J : List ℕ) (k : ℕ) (x e : State) (d : ℕ) → e.path / 4 ^ k % 4 ≡ d → Completes J (suc k) x e → Step J k x e d
unfolding Completes
step_of_lem J k x e d q c = subst (λ (y : ℕ). Step J k x e y) same made
  where
    same : c.0 + 1 ≡ d
    same = sym (digit_is J k x e c.0 c.1 c.3) ∙ q

    back : c.0 + 1 - 1 ≡ c.0
    back = omega arith

    made : Step J k x e (c.0 + 1)
    made = record {
      desk = rw back c.1;
      strip = subst (StripLeft J x) (sym back) c.2;
      digit = omega arith;
      rest = subst (λ (y : ℕ). Completes J k (step_of J x y) e) (sym back) c.3;
    }

module _ (J : List ℕ) (j : Instance J) where
  attained : Attained J (start_state J).left (start_state J) (first_best J)
  unfolding first_best
  attained =
      go (search_attains J (start_state J).left (start_state J) no_incumbent) (completion J j (start_state J).left (start_state J) (consistent_start J j) refl)
    where
      go : (search_from J (start_state J).left (start_state J) no_incumbent ≡ no_incumbent)
          ⊎ Attained J (start_state J).left (start_state J) (search_from J (start_state J).left (start_state J) no_incumbent)
          → (e : State) × Completes J (start_state J).left (start_state J) e × Consistent J e
          → Attained J (start_state J).left (start_state J) (search_from J (start_state J).left (start_state J) no_incumbent)
      go (inl e) c =
          absurd
          (omega (arith, ap (λ (x : Incumbent). x.figure) e, bound_completes J (start_state J).left (start_state J) _ (search_bound J (start_state J).left (start_state J) no_incumbent) c.0 c.1, c.2.fits.cost))
      go (inr a) c = a

  module _ (a : Attained J (start_state J).left (start_state J) (first_best J)) where
    step_at_lem : (i : ℕ) → i < (start_state J).left → Completes J ((start_state J).left - i) (chosen_state J i) a.end
        → Step J ((start_state J).left - suc i) (chosen_state J i) a.end (listed_desk (first_best J).path (start_state J).left i)
    unfolding listed_desk
    step_at_lem i l c =
        step_of_lem J ((start_state J).left - suc i) (chosen_state J i) a.end _ (ap (λ (x : ℕ). x / 4 ^ ((start_state J).left - suc i) % 4) (sym a.path))
        (subst (λ (k : ℕ). Completes J k (chosen_state J i) a.end) (more l) c)
      where
        more : i < (start_state J).left → (start_state J).left - i ≡ suc ((start_state J).left - suc i)
        more l = omega arith

    follow : (i : ℕ) → i ≤ (start_state J).left → Completes J ((start_state J).left - i) (chosen_state J i) a.end
    unfolding reached
    follow zero l = subst (λ (k : ℕ). Completes J k (start_state J) a.end) same a.ends
      where
        same : (start_state J).left ≡ (start_state J).left - 0
        same = omega arith
    follow (suc i) l = (step_at_lem i (omega arith) (follow i (omega arith))).rest

    end_is : a.end ≡ chosen_state J (start_state J).left
    unfolding Completes
    end_is = subst (λ (k : ℕ). Completes J k (chosen_state J (start_state J).left) a.end) none (follow (start_state J).left (omega arith))
      where
        none : (start_state J).left - (start_state J).left ≡ 0
        none = omega arith

    chosen_of : Chosen J
    chosen_of = record {
      serves = λ i l. let w = step_at_lem i l (follow i (omega arith)) in (w.desk, w.strip);
      digit = λ i l. (step_at_lem i l (follow i (omega arith))).digit;
      cost = ap (λ (x : State). x.cost) (sym end_is) ∙ sym a.figure;
      path = ap (λ (x : State). x.path) (sym end_is) ∙ sym a.path;
    }

  pub chosen : Chosen J
  chosen = chosen_of attained
