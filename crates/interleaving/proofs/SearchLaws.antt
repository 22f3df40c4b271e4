-- Laws of the search. It never worsens its incumbent; what it returns bounds what it searched; and an incumbent that bounds a state from below stays, which is
-- what every cut asks.
use Rattle.std.specs.Prelude.{◌≡◌, cond, List, ltb}
use Rattle.std.proofs.Math.Path.{refl, sym, ap}
use Rattle.std.proofs.Common.{◌∙◌, add-one, lt-ltb, le-ltb}
use Prim.Native.Nat.{ℕ, zero, suc, ◌+◌, ◌-◌, ◌≤◌, ◌<◌, max}
use Rattle.std.proofs.Math.Nat.{le_refl, le_trans}
use Rattle.std.proofs.Math.Decide.{dec_lt, ℕ_discrete}
use native.Mathlib.Omega.{arith}
use Rattle.std.proofs.Math.ListN.{get_or}
use Rattle.interleaving.specs.declared.State.{State}
use Rattle.interleaving.specs.declared.Incumbent.{Incumbent}
use Rattle.interleaving.specs.Search.{StripLeft, step_of, keep, over_desks, branch, search_from, LowerBound}

-- the greater of two
pub max_left : (a b : ℕ) → a ≤ max a b
max_left a b = omega arith

pub max_right : (a b : ℕ) → b ≤ max a b
max_right a b = omega arith

pub max_least : (a b c : ℕ) → a ≤ c → b ≤ c → max a b ≤ c
max_least a b c p q = omega arith

-- a desk is searched once the desks below it were
pub over_one : {A : Type 0} (g : ℕ → A → A) (d : ℕ) (b : A) → over_desks g (d + 1) b ≡ g d (over_desks g d b)
unfolding over_desks
over_one g d b = ap (λ (n : ℕ). over_desks g n b) (add-one d)

-- the search never worsens the incumbent
module _ (g : ℕ → Incumbent → Incumbent) (falls : (d : ℕ) (b : Incumbent) → (g d b).figure ≤ b.figure) where
  over_falls : (n : ℕ) (b : Incumbent) → (over_desks g n b).figure ≤ b.figure
  unfolding over_desks
  over_falls zero b = le_refl _
  over_falls (suc n) b = le_trans (falls n (over_desks g n b)) (over_falls n b)

  over_more : (n d : ℕ) (b : Incumbent) → d < n → (over_desks g n b).figure ≤ (g d (over_desks g d b)).figure
  unfolding over_desks
  over_more zero d b l = absurd (omega arith)
  over_more (suc n) d b l = go (ℕ_discrete d n) (λ q. over_more n d b q)
    where
      go : Dec (d ≡ n) → (d < n → (over_desks g n b).figure ≤ (g d (over_desks g d b)).figure) → (g n (over_desks g n b)).figure ≤ (g d (over_desks g d b)).figure
      go (yes e) h = rw e (le_refl _)
      go (no e) h = le_trans (falls n (over_desks g n b)) (h (omega arith))

over_stays : (g : ℕ → Incumbent → Incumbent) (n : ℕ) (b : Incumbent) → ((d : ℕ) → d < n → g d b ≡ b) → over_desks g n b ≡ b
unfolding over_desks
over_stays g zero b h = refl
over_stays g (suc n) b h = rw (over_stays g n b (λ d l. h d (omega arith))) (h n (omega arith))

module _ (J : List ℕ) where
  branch_falls : (f : State → Incumbent → Incumbent) (s : State) → ((t : State) (b : Incumbent) → (f t b).figure ≤ b.figure) → (d : ℕ) (b : Incumbent)
      → (branch J f s d b).figure ≤ b.figure
  unfolding branch
  branch_falls f s h d b = go (dec_lt (get_or s.taken d 0) (get_or J d 0))
    where
      go : Dec (get_or s.taken d 0 < get_or J d 0) → (cond (ltb (get_or s.taken d 0) (get_or J d 0)) (f (step_of J s d) b) b).figure ≤ b.figure
      go (yes l) = rw (lt-ltb _ _ l) (h (step_of J s d) b)
      go (no l) = rw (le-ltb (get_or s.taken d 0) (get_or J d 0) (omega arith)) (le_refl _)

  pub branch_yes : {A : Type 0} (f : State → A → A) (s : State) (d : ℕ) (b : A) → StripLeft J s d → branch J f s d b ≡ f (step_of J s d) b
  unfolding branch
  branch_yes f s d b l = rw (lt-ltb _ _ l)

  pub branch_no : {A : Type 0} (f : State → A → A) (s : State) (d : ℕ) (b : A) → get_or J d 0 ≤ get_or s.taken d 0 → branch J f s d b ≡ b
  unfolding branch
  branch_no f s d b l = rw (le-ltb (get_or s.taken d 0) (get_or J d 0) l)

  keep_falls : (s : State) (b : Incumbent) → ((keep s b).figure ≤ b.figure) × ((keep s b).figure ≤ s.cost)
  unfolding keep
  keep_falls s b = go (dec_lt s.cost b.figure)
    where
      go : Dec (s.cost < b.figure)
          → ((cond (ltb s.cost b.figure) (record { figure = s.cost; path = s.path }) b).figure ≤ b.figure)
          × ((cond (ltb s.cost b.figure) (record { figure = s.cost; path = s.path }) b).figure ≤ s.cost)
      go (yes l) = rw (lt-ltb _ _ l) (omega arith, omega arith)
      go (no l) = rw (le-ltb s.cost b.figure (omega arith)) (omega arith, omega arith)

  pub search_falls : (k : ℕ) (s : State) (b : Incumbent) → (search_from J k s b).figure ≤ b.figure
  unfolding search_from
  search_falls zero s b = (keep_falls s b).0
  search_falls (suc k) s b = over_falls (branch J (search_from J k) s) (branch_falls (search_from J k) s (search_falls k)) 3 b

  pub bound_down : (k : ℕ) (s : State) (B C : ℕ) → C ≤ B → LowerBound J k s B → LowerBound J k s C
  unfolding LowerBound
  bound_down zero s B C l h = omega arith
  bound_down (suc k) s B C l h = λ d p m. bound_down k (step_of J s d) B C l (h d p m)

  -- what the search returns bounds what it searched
  pub search_bound : (k : ℕ) (s : State) (b : Incumbent) → LowerBound J k s (search_from J k s b).figure
  unfolding search_from LowerBound
  search_bound zero s b = (keep_falls s b).1
  search_bound (suc k) s b = λ d p m. bound_down k (step_of J s d) _ _ (at d p m) (search_bound k (step_of J s d) (over_desks (branch J (search_from J k) s) d b))
    where
      at : (d : ℕ) → d < 3 → StripLeft J s d
          → (over_desks (branch J (search_from J k) s) 3 b).figure ≤ (search_from J k (step_of J s d) (over_desks (branch J (search_from J k) s) d b)).figure
      at d p m =
          rw (branch_yes (search_from J k) s d (over_desks (branch J (search_from J k) s) d b) m)
          at (over_more (branch J (search_from J k) s) (branch_falls (search_from J k) s (search_falls k)) 3 d b p)

  -- an incumbent that bounds the state stays: what a cut asks
  pub search_stays : (k : ℕ) (s : State) (b : Incumbent) → LowerBound J k s b.figure → search_from J k s b ≡ b
  unfolding search_from LowerBound keep
  search_stays zero s b h = rw (le-ltb s.cost b.figure h)
  search_stays (suc k) s b h =
      over_stays (branch J (search_from J k) s) 3 b (λ d p. go d p (dec_lt (get_or s.taken d 0) (get_or J d 0)) (λ l. search_stays k (step_of J s d) b (h d p l)))
    where
      go : (d : ℕ) → d < 3 → Dec (get_or s.taken d 0 < get_or J d 0) → (StripLeft J s d → search_from J k (step_of J s d) b ≡ b)
          → branch J (search_from J k) s d b ≡ b
      go d p (yes l) i = branch_yes (search_from J k) s d b l ∙ i l
      go d p (no l) i = branch_no (search_from J k) s d b (omega arith)

  -- the search where no strip is left
  pub search_leaf : (s : State) (b : Incumbent) → s.left ≡ 0 → search_from J s.left s b ≡ keep s b
  unfolding search_from
  search_leaf s b e = rw e

-- the loop over the desks
pub over_none : {A : Type 0} (g : ℕ → A → A) (b : A) → b ≡ over_desks g 0 b
unfolding over_desks
over_none g b = refl

module _ (J : List ℕ) where
  -- a desk that is searched, and a desk that has no strip left, for any search f
  module _ {A : Type 0} (f : State → A → A) (s : State) (d : ℕ) (b q : A) where
    pub branch_again_yes : (n : State) (r : A) → q ≡ over_desks (branch J f s) d b → StripLeft J s d → n ≡ step_of J s d → r ≡ f n q
        → r ≡ over_desks (branch J f s) (d + 1) b
    branch_again_yes n r i m e h =
        h ∙ ap (λ (x : State). f x q) e ∙ ap (f (step_of J s d)) i ∙ sym (over_one (branch J f s) d b ∙ branch_yes J f s d (over_desks (branch J f s) d b) m)

    pub branch_again_no : q ≡ over_desks (branch J f s) d b → get_or J d 0 ≤ get_or s.taken d 0 → q ≡ over_desks (branch J f s) (d + 1) b
    branch_again_no i m = i ∙ sym (over_one (branch J f s) d b ∙ branch_no J f s d (over_desks (branch J f s) d b) m)

  pub step_left : (s : State) (d : ℕ) → (step_of J s d).left ≡ s.left - 1
  unfolding step_of
  step_left s d = refl

  pub search_desks : (s : State) (b r : Incumbent) (d : ℕ) → 0 < s.left → d ≤ 3 → 3 ≤ d → r ≡ over_desks (branch J (search_from J (s.left - 1)) s) d b
      → r ≡ search_from J s.left s b
  unfolding search_from
  search_desks s b r d l a z h = h ∙ ap (λ (n : ℕ). over_desks (branch J (search_from J (s.left - 1)) s) n b) three ∙ sym (ap (λ (k : ℕ). search_from J k s b) e)
    where
      three : d ≡ 3
      three = omega arith

      e : s.left ≡ suc (s.left - 1)
      e = omega arith
