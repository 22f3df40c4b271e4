-- A state whose scanner time and number of strips left are those of its counts, as every state that the search reaches is.
use Rattle.std.specs.Prelude.{◌≡◌, refl, List, ℕ, zero, suc, ◌+◌, ◌-◌, ◌≤◌, ◌<◌, length, set, replicate}
use Rattle.std.proofs.Math.Path.{ap}
use Rattle.std.proofs.Math.Nat.{one-le-pow}
use Rattle.std.proofs.Common.{add-one, arith, get_or-set_other}
use Rattle.std.proofs.Math.Decide.{ℕ_discrete}
use Rattle.std.proofs.Math.ListN.{get_or}
use Rattle.std.proofs.Math.Seq.{get_or-set_same}
use Rattle.interleaving.specs.declared.State.{State}
use Rattle.interleaving.specs.Instance.{Instance, strips_cap}
use Rattle.interleaving.specs.Search.{StripLeft, step_of, start_state}
use Rattle.interleaving.proofs.CapLaws.{capped_step}
use Rattle.interleaving.specs.Consistent.{sum3, scan_sum, Consistent}

pub sum3_set : (g : ℕ → ℕ → ℕ) (T : List ℕ) (d v : ℕ) → d < 3 → length T ≡ 3 → sum3 g (set T d v) + g d (get_or T d 0) ≡ sum3 g T + g d v
sum3_set g T zero v p l =
    rw (get_or-set_same T 0 v 0 (omega arith), get_or-set_other T 0 1 v 0 (λ e. omega arith), get_or-set_other T 0 2 v 0 (λ e. omega arith)) (omega arith)
sum3_set g T (suc zero) v p l =
    rw (get_or-set_same T 1 v 0 (omega arith), get_or-set_other T 1 0 v 0 (λ e. omega arith), get_or-set_other T 1 2 v 0 (λ e. omega arith)) (omega arith)
sum3_set g T (suc (suc zero)) v p l =
    rw (get_or-set_same T 2 v 0 (omega arith), get_or-set_other T 2 0 v 0 (λ e. omega arith), get_or-set_other T 2 1 v 0 (λ e. omega arith)) (omega arith)
sum3_set g T (suc (suc (suc d))) v p l = absurd (omega arith)

one_less : (l L K n i : ℕ) → l ≡ L → K + (n - i) ≡ L + (n - (i + 1)) → i < n → l - 1 ≡ K
one_less l L K n i e h p = omega arith

module _ (J : List ℕ) (j : Instance J) (s : State) (g : Consistent J s) (d : ℕ) (p : d < 3) (m : StripLeft J s d) (more : 0 < s.left) where
  pub consistent_step : Consistent J (step_of J s d)
  unfolding step_of scan_sum
  consistent_step = record {
    fits = capped_step J j s g.fits d p m more;
    within = λ e q. go e q (ℕ_discrete e d);
    time =
        omega (arith, g.time, sum3_set (scan_sum J) s.taken d (get_or s.taken d 0 + 1) p g.fits.takens, ap (scan_sum J d) (add-one (get_or s.taken d 0)));
    left =
        one_less _ _ _ (get_or J d 0) (get_or s.taken d 0) g.left
        (sum3_set (λ e i. get_or J e 0 - i) s.taken d (get_or s.taken d 0 + 1) p g.fits.takens) m;
  }
    where
      go : (e : ℕ) → e < 3 → Dec (e ≡ d) → get_or (set s.taken d (get_or s.taken d 0 + 1)) e 0 ≤ get_or J e 0
      go e q (yes w) = rw (w, get_or-set_same s.taken d (get_or s.taken d 0 + 1) 0 (omega (arith, g.fits.takens))) (omega arith)
      go e q (no w) = rw (get_or-set_other s.taken d e (get_or s.taken d 0 + 1) 0 w) (g.within e q)

pub zeros : (d : ℕ) → get_or {A = ℕ} (replicate 3 0) d 0 ≡ 0
zeros zero = refl
zeros (suc zero) = refl
zeros (suc (suc zero)) = refl
zeros (suc (suc (suc d))) = refl

pub start_sum : (J : List ℕ) → Instance J → get_or J 0 0 + get_or J 1 0 + get_or J 2 0 ≤ strips_cap
start_sum J j = omega (arith, j.few 0 (omega arith), j.few 1 (omega arith), j.few 2 (omega arith))

pub consistent_start : (J : List ℕ) → Instance J → Consistent J (start_state J)
unfolding start_state scan_sum
consistent_start J j = record {
  fits = record {
    left = few;
    frees = refl;
    takens = refl;
    time = omega (arith, few);
    free = λ d. rw (zeros d) (omega (arith, few));
    cost = omega (arith, few);
    path = one-le-pow (strips_cap - (get_or J 0 0 + get_or J 1 0 + get_or J 2 0)) 4 (omega arith);
  };
  within = λ d p. rw (zeros d) (omega arith);
  time = refl;
  left = omega arith;
}
  where
    few : get_or J 0 0 + get_or J 1 0 + get_or J 2 0 ≤ strips_cap
    few = start_sum J j
