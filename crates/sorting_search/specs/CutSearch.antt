-- The search with its cuts, by definition: what it finds, and what it leaves in its working table.
use Rattle.std.specs.Prelude.{◌≡◌, Bool, true, false, cond, ◌||◌, List, leb}
use Rattle.std.proofs.Math.Path.{sym, ap}
use Rattle.std.proofs.Common.{◌∙◌}
use Prim.Native.Nat.{ℕ, zero, suc, ◌-◌, ◌≤◌, ◌<◌}
use native.Mathlib.Omega.{arith}
use Rattle.interleaving.specs.declared.State.{State}
use Rattle.interleaving.specs.declared.Incumbent.{Incumbent}
use Rattle.interleaving.specs.Search.{keep, over_desks, branch}
use Rattle.sorting_bounds.specs.Layout.{count_key}
use Rattle.sorting_bounds.specs.DeskBound.{desk_bound}
use Rattle.sorting_bounds.specs.ScannerBound.{scanner_bound}
use Rattle.sorting_labels.specs.Labels.{dominated_by, with_label}

-- whether the scanner's bound, a label or the desks' bound shows that no completion of s is below B
unfoldable pub is_cut : List ℕ → List ℕ → State → ℕ → Bool
is_cut J M s B = leb B (scanner_bound M s) || (dominated_by M (count_key s) s 4 || leb B (desk_bound J s))

-- what the search has: its incumbent and its table
pub record Outcome : Type 0 where
  pub best : Incumbent
  pub table : List ℕ

abbrev pub outcome : Incumbent → List ℕ → Outcome
outcome b M = record { best = b; table = M }

-- the same with the label of s stored
unfoldable pub labelled : State → Outcome → Outcome
labelled s o = outcome o.best (with_label o.table (count_key s) s)

-- a node s: cut, or explored by the search f of its desks and then labelled
unfoldable pub explored : List ℕ → (State → Outcome → Outcome) → State → Outcome → Outcome
explored J f s o = cond (is_cut J o.table s o.best.figure) o (labelled s (over_desks (branch J f s) 3 o))

-- the search with its cuts in desk order, k strips being left
unfoldable pub cut_search : List ℕ → ℕ → State → Outcome → Outcome
cut_search J zero s o = outcome (keep s o.best) o.table
cut_search J (suc k) s o = explored J (cut_search J k) s o

-- a leaf, a cut, a node that is explored
module _ (J M : List ℕ) (s : State) (b : Incumbent) where
  node : 0 < s.left → cut_search J s.left s (outcome b M) ≡ explored J (cut_search J (s.left - 1)) s (outcome b M)
  unfolding cut_search
  node l = ap (λ (n : ℕ). cut_search J n s (outcome b M)) more
    where
      more : s.left ≡ suc (s.left - 1)
      more = omega arith

  pub exact_leaf : (r : Incumbent) → s.left ≡ 0 → r ≡ keep s b → outcome r M ≡ cut_search J s.left s (outcome b M)
  unfolding cut_search
  exact_leaf r e k = ap (λ (x : Incumbent). outcome x M) k ∙ sym (ap (λ (n : ℕ). cut_search J n s (outcome b M)) e)

  pub exact_cut : 0 < s.left → is_cut J M s b.figure ≡ true → outcome b M ≡ cut_search J s.left s (outcome b M)
  unfolding explored
  exact_cut l e = rw (node l, e)

  pub exact_all : (N O : List ℕ) (r : Incumbent) (d k : ℕ) → 0 < s.left → is_cut J M s b.figure ≡ false → d ≤ 3 → 3 ≤ d
      → outcome r N ≡ over_desks (branch J (cut_search J (s.left - 1)) s) d (outcome b M) → k ≡ count_key s → O ≡ with_label N k s
      → outcome r O ≡ cut_search J s.left s (outcome b M)
  unfolding explored labelled
  exact_all N O r d k l e p q h f g =
      rw (node l, e)
      (ap (outcome r) (g ∙ ap (λ (x : ℕ). with_label N x s) f) ∙ ap (labelled s) (h ∙ ap (λ (n : ℕ). over_desks (branch J (cut_search J (s.left - 1)) s) n (outcome b M)) three))
    where
      three : d ≡ 3
      three = omega arith
