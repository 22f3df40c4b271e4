-- The labels at the front of the working table, four to each count vector, and what the functions over them compute. A label is the cost and the desks'
-- free times of a state. The laws are those that the functions' proofs cite.
use Rattle.std.specs.Prelude.{◌≡◌, refl, Bool, true, false, cond, ◌||◌, List, ◌++◌, ◌⊎◌, ltb, length, get_or, drop, replicate}
use Rattle.std.proofs.Common.{sym, ap, ◌∙◌, inl, inr, le_refl, le_trans, add-one, arith, length-append, length-drop, get_or-append-add, get_or-drop}
use Rattle.std.proofs.lemmas.Bool.{false≢true}
use Rattle.std.proofs.Math.Bool.{or-true}
use Prim.Native.Nat.{ℕ, zero, suc, ◌+◌, ◌-◌, ◌≤◌, ◌<◌}
use Rattle.std.proofs.Math.Decide.{ℕ_discrete}
use Rattle.std.proofs.lemmas.List.{length-replicate, get_or-replicate}
use Rattle.std.proofs.Math.ListN.{get_or-append}
use borrow.Author.Tests.{lt-ltb, le-ltb, leb-true}
use Rattle.base.specs.Branch.{both}
use Rattle.interleaving.specs.declared.State.{State}
use Rattle.sorting_bounds.specs.Layout.{count_key}
use Rattle.sorting_labels.specs.Labels.{no_label, label_place, label_dominates, dominated_by, costlier, costliest_of, costliest, store_label, with_label, no_labels_to, LabelDominates, Dominated}

label_under : (M : List ℕ) (a : ℕ) (s : State) → label_dominates M a s ≡ true → LabelDominates M a s
unfolding label_dominates
label_under M a s e =
    let p = both _ _ e in
    let q = both _ _ p.1 in
    let r = both _ _ q.1 in record { cost = leb-true _ _ p.0; one = leb-true _ _ q.0; two = leb-true _ _ r.0; three = leb-true _ _ r.1 }

pub dominated_none : (M : List ℕ) (k : ℕ) (s : State) → dominated_by M k s 0 ≡ false
unfolding dominated_by
dominated_none M k s = refl

pub dominated_not : (M : List ℕ) (k : ℕ) (s : State) (n : ℕ) {q : Bool} → dominated_by M k s n ≡ false → q ≡ label_dominates M (label_place k n) s → q ≡ false
    → dominated_by M k s (n + 1) ≡ false
unfolding dominated_by
dominated_not M k s n e f g = rw (add-one n, e, ← f, g)

dominated_below : (M : List ℕ) (k : ℕ) (s : State) (j n : ℕ) → j < n → label_dominates M (label_place k j) s ≡ true → dominated_by M k s n ≡ true
unfolding dominated_by
dominated_below M k s j zero l e = absurd (omega arith)
dominated_below M k s j (suc n) l e = go (ℕ_discrete j n) (λ p. dominated_below M k s j n p e)
  where
    go : Dec (j ≡ n) → (j < n → dominated_by M k s n ≡ true) → (dominated_by M k s n || label_dominates M (label_place k n) s) ≡ true
    go (yes q) h = rw (← q, e) (or-true (dominated_by M k s j))
    go (no q) h = rw (h (omega arith))

pub dominated_at : (M : List ℕ) (k : ℕ) (s : State) (j : ℕ) {q : Bool} → j < 4 → q ≡ label_dominates M (label_place k j) s → q ≡ true → true ≡ dominated_by M k s 4
dominated_at M k s j l e f = sym (dominated_below M k s j 4 l (sym e ∙ f))

pub dominated_all : (M : List ℕ) (k : ℕ) (s : State) (n : ℕ) → n ≤ 4 → dominated_by M k s n ≡ false → 4 ≤ n → false ≡ dominated_by M k s 4
dominated_all M k s n p e q = sym (ap (dominated_by M k s) four ∙ e)
  where
    four : 4 ≡ n
    four = omega arith

pub either : (x y : Bool) → (x || y) ≡ true → (x ≡ true) ⊎ (y ≡ true)
either true y e = inl refl
either false y e = inr e

pub one_dominates : (M : List ℕ) (k : ℕ) (s : State) (n : ℕ) → n ≤ 4 → k ≡ count_key s → dominated_by M k s n ≡ true → Dominated M s
unfolding dominated_by
one_dominates M k s zero l key e = absurd (false≢true e)
one_dominates M k s (suc n) l key e = go (either _ _ e) (λ f. one_dominates M k s n (omega arith) key f)
  where
    go : (dominated_by M k s n ≡ true) ⊎ (label_dominates M (label_place k n) s ≡ true) → (dominated_by M k s n ≡ true → Dominated M s) → Dominated M s
    go (inl f) h = h f
    go (inr f) h = record { slot = n; few = omega arith; under = label_under M (label_place (count_key s) n) s (rw key at f) }

one_of : (b : Bool) (x y n : ℕ) → x ≤ n → y ≤ n → cond b x y ≤ n
one_of true x y n p q = p
one_of false x y n p q = q

-- costliest_label: the loop over the labels
module _ (M : List ℕ) (k : ℕ) where
  pub costliest_first : 0 ≡ costliest_of M k 1
  unfolding costliest_of costlier
  costliest_first = rw (le-ltb (get_or M (label_place k 0) 0) (get_or M (label_place k 0) 0) (le_refl _))

  pub costliest_next : (w j : ℕ) → w ≡ costliest_of M k j → get_or M (label_place k w) 0 < get_or M (label_place k j) 0 → j ≡ costliest_of M k (j + 1)
  unfolding costliest_of costlier
  costliest_next w j e l = rw (add-one j, ← e, lt-ltb (get_or M (label_place k w) 0) (get_or M (label_place k j) 0) l)

  pub costliest_kept : (w j : ℕ) → w ≡ costliest_of M k j → get_or M (label_place k j) 0 ≤ get_or M (label_place k w) 0 → w ≡ costliest_of M k (j + 1)
  unfolding costliest_of costlier
  costliest_kept w j e l = rw (add-one j, ← e, le-ltb (get_or M (label_place k w) 0) (get_or M (label_place k j) 0) l)

  pub costliest_all : (w j : ℕ) → w ≡ costliest_of M k j → j ≤ 4 → 4 ≤ j → w < 4 → (w ≡ costliest M k) × (w < 4)
  costliest_all w j e p q l = (e ∙ ap (costliest_of M k) four, l)
    where
      four : j ≡ 4
      four = omega arith

  costliest_below : (n : ℕ) → costliest_of M k (suc n) ≤ n
  unfolding costliest_of costlier
  costliest_below zero = one_of (ltb (get_or M (label_place k 0) 0) (get_or M (label_place k 0) 0)) 0 0 0 (le_refl _) (le_refl _)
  costliest_below (suc n) =
      one_of (ltb (get_or M (label_place k (costliest_of M k (suc n))) 0) (get_or M (label_place k (suc n)) 0)) (suc n) (costliest_of M k (suc n)) (suc n) (le_refl _)
      (le_trans (costliest_below n) (omega arith))

  pub costliest_few : costliest M k < 4
  costliest_few = omega (arith, costliest_below 3)

-- store_label
pub stored : (M N : List ℕ) (k j : ℕ) (s : State) → (j ≡ costliest M k) × (j < 4) → N ≡ store_label M (label_place k j) s → N ≡ with_label M k s
unfolding with_label
stored M N k j s e f = f ∙ ap (λ (x : ℕ). store_label M (label_place k x) s) e.0

-- the cleared table, number by number
pub cleared_length : (n : ℕ) (M : List ℕ) → n ≤ length M → length (no_labels_to n M) ≡ length M
unfolding no_labels_to
cleared_length n M l = simp (length-append, length-replicate, length-drop) (omega arith)

pub cleared_label : (n : ℕ) (M : List ℕ) (i : ℕ) → i < n → get_or (no_labels_to n M) i 0 ≡ no_label
unfolding no_labels_to
cleared_label n M i l = get_or-append (replicate n no_label) (drop n M) 0 i (omega (arith, length-replicate n no_label)) ∙ get_or-replicate n i no_label 0 l

pub cleared_rest : (n : ℕ) (M : List ℕ) (i : ℕ) → n ≤ i → get_or (no_labels_to n M) i 0 ≡ get_or M i 0
unfolding no_labels_to
cleared_rest n M i l =
    ap (λ (x : ℕ). get_or (replicate n no_label ++ drop n M) x 0) there
    ∙ get_or-append-add (replicate n no_label) (drop n M) (i - n) 0
    ∙ get_or-drop n M (i - n) 0
    ∙ ap (λ (x : ℕ). get_or M x 0) back
  where
    there : i ≡ length (replicate n no_label) + (i - n)
    there = omega (arith, length-replicate n no_label)

    back : n + (i - n) ≡ i
    back = omega arith
