-- What the search returns is a completion, and the first of the best: its list's number is the least among those of its figure.
use Rattle.std.specs.Prelude.{◌≡◌, List, ◌⊎◌}
use Rattle.std.proofs.Math.Path.{refl, sym, ap}
use Rattle.std.proofs.Common.{subst, ◌∙◌, le_refl, le_trans, lt_of_lt_of_le, le_of_lt, mul-le-mul_right, mul_assoc, pow-suc, lt-ltb, le-ltb}
use Rattle.std.proofs.Math.Logic.{inl, inr}
use Prim.Native.Nat.{ℕ, zero, suc, ◌+◌, ◌*◌, ◌^◌, ◌≤◌, ◌<◌}
use Rattle.std.proofs.Math.Nat.{mul_comm}
use Rattle.std.proofs.Math.Decide.{dec_lt, ℕ_discrete}
use native.Mathlib.Omega.{arith}
use Rattle.std.proofs.Math.ListN.{get_or}
use Rattle.interleaving.specs.declared.State.{State}
use Rattle.interleaving.specs.declared.Incumbent.{Incumbent}
use Rattle.interleaving.specs.Search.{StripLeft, step_of, keep, over_desks, branch, search_from, LowerBound, Completes}
use Rattle.interleaving.proofs.SearchLaws.{branch_yes, branch_no, bound_down, search_falls, search_bound, search_stays}
use Rattle.interleaving.specs.Completion.{Attained, First}

pub same_incumbent : (u v : Incumbent) → u.figure ≡ v.figure → u.path ≡ v.path → u ≡ v
same_incumbent u v p q = λ i. record { figure = p i; path = q i }

pub step_path : (J : List ℕ) (s : State) (d : ℕ) → (step_of J s d).path ≡ s.path * 4 + d + 1
unfolding step_of
step_path J s d = refl

module _ (J : List ℕ) where
  pub bound_completes : (k : ℕ) (s : State) (B : ℕ) → LowerBound J k s B → (e : State) → Completes J k s e → B ≤ e.cost
  unfolding LowerBound Completes
  bound_completes zero s B h e q = rw q h
  bound_completes (suc k) s B h e q = bound_completes k (step_of J s q.0) B (h q.0 q.1 q.2) e q.3

  over_cases : (P : Incumbent → Type 0) (g : ℕ → Incumbent → Incumbent) (n : ℕ) (b : Incumbent) → ((d : ℕ) → d < n → (r : Incumbent) → (g d r ≡ r) ⊎ P (g d r))
      → (over_desks g n b ≡ b) ⊎ P (over_desks g n b)
  unfolding over_desks
  over_cases P g zero b h = inl refl
  over_cases P g (suc n) b h = go (h n (omega arith) (over_desks g n b)) (over_cases P g n b (λ d p. h d (omega arith)))
    where
      go : (g n (over_desks g n b) ≡ over_desks g n b) ⊎ P (g n (over_desks g n b)) → (over_desks g n b ≡ b) ⊎ P (over_desks g n b)
          → (g n (over_desks g n b) ≡ b) ⊎ P (g n (over_desks g n b))
      go (inl e) (inl f) = inl (e ∙ f)
      go (inl e) (inr f) = inr (subst P (sym e) f)
      go (inr f) q = inr f

  pub search_attains : (k : ℕ) (s : State) (b : Incumbent) → (search_from J k s b ≡ b) ⊎ Attained J k s (search_from J k s b)
  unfolding search_from keep Completes
  search_attains zero s b = go (dec_lt s.cost b.figure)
    where
      go : Dec (s.cost < b.figure) → (keep s b ≡ b) ⊎ Attained J 0 s (keep s b)
      go (yes l) = rw (lt-ltb _ _ l) (inr (record { end = s; ends = refl; figure = refl; path = refl }))
      go (no l) = rw (le-ltb s.cost b.figure (omega arith)) (inl refl)
  search_attains (suc k) s b =
      over_cases (Attained J (suc k) s) (branch J (search_from J k) s) 3 b
      (λ d p r. go d p r (dec_lt (get_or s.taken d 0) (get_or J d 0)) (search_attains k (step_of J s d) r))
    where
      go : (d : ℕ) → d < 3 → (r : Incumbent) → Dec (get_or s.taken d 0 < get_or J d 0)
          → (search_from J k (step_of J s d) r ≡ r) ⊎ Attained J k (step_of J s d) (search_from J k (step_of J s d) r)
          → (branch J (search_from J k) s d r ≡ r) ⊎ Attained J (suc k) s (branch J (search_from J k) s d r)
      go d p r (no l) i = inl (branch_no J (search_from J k) s d r (omega arith))
      go d p r (yes l) (inl e) = inl (branch_yes J (search_from J k) s d r l ∙ e)
      go d p r (yes l) (inr a) =
          inr
          (subst (Attained J (suc k) s) (sym (branch_yes J (search_from J k) s d r l)) (record { end = a.end; ends = (d, p, l, a.ends); figure = a.figure; path = a.path }))

  -- the numbers of a state's completions lie between two numbers
  pub path_range : (k : ℕ) (s e : State) → Completes J k s e → (s.path * 4 ^ k ≤ e.path) × (e.path < (s.path + 1) * 4 ^ k)
  unfolding Completes
  path_range zero s e q = rw q (omega arith, omega arith)
  path_range (suc k) s e q = go (path_range k (step_of J s q.0) e q.3)
    where
      four : (a : ℕ) → a * 4 ^ suc k ≡ (a * 4) * 4 ^ k
      four a = ap (λ (x : ℕ). a * x) (pow-suc 4 k ∙ mul_comm (4 ^ k) 4) ∙ sym (mul_assoc a 4 (4 ^ k))

      go : ((step_of J s q.0).path * 4 ^ k ≤ e.path) × (e.path < ((step_of J s q.0).path + 1) * 4 ^ k)
          → (s.path * 4 ^ suc k ≤ e.path) × (e.path < (s.path + 1) * 4 ^ suc k)
      go w = (
        rw four (le_trans (mul-le-mul_right (4 ^ k) low) w.0),
        rw four (lt_of_lt_of_le w.1 (mul-le-mul_right (4 ^ k) high)),
      )
        where
          low : s.path * 4 ≤ (step_of J s q.0).path
          low = omega (arith, step_path J s q.0)

          high : (step_of J s q.0).path + 1 ≤ (s.path + 1) * 4
          high = omega (arith, step_path J s q.0, q.1)

  search_same : (k : ℕ) (s : State) (b : Incumbent) → (search_from J k s b).figure ≡ b.figure → search_from J k s b ≡ b
  search_same k s b e = search_stays J k s b (subst (LowerBound J k s) e (search_bound J k s b))

  -- what holds once the desks below d were searched
  record Stage (k : ℕ) (s : State) (d : ℕ) (r : Incumbent) : Type 0 where
    pub low : r.path ≤ (s.path * 4 + d + 1) * 4 ^ k
    pub bound : (x : ℕ) → x < d → StripLeft J s x → LowerBound J k (step_of J s x) r.figure
    pub first : (x : ℕ) → x < d → StripLeft J s x → First J k (step_of J s x) r

  module _ (k : ℕ) (s : State) (before : (z : State) (b : Incumbent) → b.path ≤ z.path * 4 ^ k → First J k z (search_from J k z b)) where
    stage_none : (b : Incumbent) → b.path ≤ s.path * 4 ^ suc k → Stage k s 0 b
    stage_none b l = record {
      low = le_trans (rw (pow-suc 4 k ∙ mul_comm (4 ^ k) 4, ← mul_assoc) at l) (mul-le-mul_right (4 ^ k) (omega arith));
      bound = λ x p. absurd (omega arith);
      first = λ x p. absurd (omega arith);
    }

    stage_more : (d : ℕ) (r : Incumbent) → d < 3 → Stage k s d r → Stage k s (suc d) (branch J (search_from J k) s d r)
    stage_more d r p g = go (dec_lt (get_or s.taken d 0) (get_or J d 0))
      where
        q : Incumbent
        q = search_from J k (step_of J s d) r

        wider : (s.path * 4 + d + 1) * 4 ^ k ≤ (s.path * 4 + suc d + 1) * 4 ^ k
        wider = mul-le-mul_right (4 ^ k) (omega arith)

        no_more : (get_or s.taken d 0 < get_or J d 0 → ⊥) → Stage k s (suc d) r
        no_more n = record {
          low = le_trans g.low wider;
          bound = λ x l m. at x l m (ℕ_discrete x d);
          first = λ x l m. at' x l m (ℕ_discrete x d);
        }
          where
            at : (x : ℕ) → x < suc d → StripLeft J s x → Dec (x ≡ d) → LowerBound J k (step_of J s x) r.figure
            at x l m (yes e) = absurd (n (rw e at m))
            at x l m (no e) = g.bound x (omega arith) m

            at' : (x : ℕ) → x < suc d → StripLeft J s x → Dec (x ≡ d) → First J k (step_of J s x) r
            at' x l m (yes e) = absurd (n (rw e at m))
            at' x l m (no e) = g.first x (omega arith) m

        one_more : Stage k s (suc d) q
        one_more = record {
          low = low (search_attains k (step_of J s d) r);
          bound = λ x l m. at x l m (ℕ_discrete x d);
          first = λ x l m. at' x l m (ℕ_discrete x d);
        }
          where
            low : (q ≡ r) ⊎ Attained J k (step_of J s d) q → q.path ≤ (s.path * 4 + suc d + 1) * 4 ^ k
            low (inl e) = rw e (le_trans g.low wider)
            low (inr a) =
                rw a.path
                (le_trans (le_of_lt (path_range k (step_of J s d) a.end a.ends).1) (mul-le-mul_right (4 ^ k) (omega (arith, step_path J s d))))

            at : (x : ℕ) → x < suc d → StripLeft J s x → Dec (x ≡ d) → LowerBound J k (step_of J s x) q.figure
            at x l m (yes e) = rw e (search_bound J k (step_of J s d) r)
            at x l m (no e) = bound_down J k (step_of J s x) r.figure q.figure (search_falls J k (step_of J s d) r) (g.bound x (omega arith) m)

            at' : (x : ℕ) → x < suc d → StripLeft J s x → Dec (x ≡ d) → First J k (step_of J s x) q
            at' x l m (yes e) = rw e (before (step_of J s d) r (rw (step_path J s d) g.low))
            at' x l m (no e) = λ z n w. kept z n w (search_same k (step_of J s d) r (same z n w))
              where
                same : (z : State) → Completes J k (step_of J s x) z → q.figure ≡ z.cost → q.figure ≡ r.figure
                same z n w = omega (arith, search_falls J k (step_of J s d) r, bound_completes k (step_of J s x) r.figure (g.bound x (omega arith) m) z n)

                kept : (z : State) → Completes J k (step_of J s x) z → q.figure ≡ z.cost → q ≡ r → q.path ≤ z.path
                kept z n w f = rw f (g.first x (omega arith) m z n (sym (ap (λ (y : Incumbent). y.figure) f) ∙ w))

        go : Dec (get_or s.taken d 0 < get_or J d 0) → Stage k s (suc d) (branch J (search_from J k) s d r)
        go (yes m) = subst (Stage k s (suc d)) (sym (branch_yes J (search_from J k) s d r m)) one_more
        go (no n) = subst (Stage k s (suc d)) (sym (branch_no J (search_from J k) s d r (omega arith))) (no_more n)

    stages : (d : ℕ) (b : Incumbent) → d ≤ 3 → b.path ≤ s.path * 4 ^ suc k → Stage k s d (over_desks (branch J (search_from J k) s) d b)
    unfolding over_desks
    stages zero b p l = stage_none b l
    stages (suc d) b p l = stage_more d _ (omega arith) (stages d b (omega arith) l)

  pub search_first : (k : ℕ) (s : State) (b : Incumbent) → b.path ≤ s.path * 4 ^ k → First J k s (search_from J k s b)
  unfolding search_from keep Completes
  search_first zero s b l = λ e n w. rw n (go (dec_lt s.cost b.figure))
    where
      go : Dec (s.cost < b.figure) → (keep s b).path ≤ s.path
      go (yes h) = rw (lt-ltb _ _ h) (le_refl _)
      go (no h) = rw (le-ltb s.cost b.figure (omega arith)) (omega arith)
  search_first (suc k) s b l = λ e n w. (stages k s (search_first k) 3 b (omega arith) l).first n.0 n.1 n.2 e n.3 w
