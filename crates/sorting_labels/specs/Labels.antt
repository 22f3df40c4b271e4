-- The labels at the front of the working table, four to each count vector, and what the functions over them compute. A label is the cost and the desks'
-- free times of a state. The laws are those that the functions' proofs cite.
use Rattle.std.specs.Prelude.{Bool, false, cond, ◌&&◌, ◌||◌, List, ◌++◌, ltb, leb, get_or, set, drop, replicate}
use Prim.Native.Nat.{ℕ, zero, suc, ◌+◌, ◌*◌, ◌≤◌, ◌<◌}
use Rattle.interleaving.specs.declared.State.{State}
use Rattle.interleaving.specs.Instance.{largest}
use Rattle.sorting_bounds.specs.Layout.{count_key}

-- a number that no label has
abbrev pub no_label : ℕ
no_label = largest

-- where label j of the count vector k stands
abbrev pub label_place : ℕ → ℕ → ℕ
label_place k j = (k * 4 + j) * 4

-- whether the label at a dominates s: neither its cost nor one of its free times is larger
unfoldable pub label_dominates : List ℕ → ℕ → State → Bool
label_dominates M a s =
    leb (get_or M a 0) s.cost
    && (leb (get_or M (a + 1) 0) (get_or s.free 0 0) && (leb (get_or M (a + 2) 0) (get_or s.free 1 0) && leb (get_or M (a + 3) 0) (get_or s.free 2 0)))

-- whether one of the first n labels of the count vector k dominates s
unfoldable pub dominated_by : List ℕ → ℕ → State → ℕ → Bool
dominated_by M k s zero = false
dominated_by M k s (suc n) = dominated_by M k s n || label_dominates M (label_place k n) s

-- of two labels of the count vector k the one of the larger cost, w where they are equal
unfoldable pub costlier : List ℕ → ℕ → ℕ → ℕ → ℕ
costlier M k w j = cond (ltb (get_or M (label_place k w) 0) (get_or M (label_place k j) 0)) j w

-- the first of the first n labels of the count vector k that has the largest cost
unfoldable pub costliest_of : List ℕ → ℕ → ℕ → ℕ
costliest_of M k zero = 0
costliest_of M k (suc n) = costlier M k (costliest_of M k n) n

abbrev pub costliest : List ℕ → ℕ → ℕ
costliest M k = costliest_of M k 4

-- the label of s, stored at a
abbrev pub store_label : List ℕ → ℕ → State → List ℕ
store_label M a s = set (set (set (set M a s.cost) (a + 1) (get_or s.free 0 0)) (a + 2) (get_or s.free 1 0)) (a + 3) (get_or s.free 2 0)

-- the table with the label of s in place of the costliest label of the count vector k
unfoldable pub with_label : List ℕ → ℕ → State → List ℕ
with_label M k s = store_label M (label_place k (costliest M k)) s

-- the table with no label among its first n numbers, the rest as it was
unfoldable pub no_labels_to : ℕ → List ℕ → List ℕ
no_labels_to n M = replicate n no_label ++ drop n M

-- the label at a dominates s
pub record LabelDominates (M : List ℕ) (a : ℕ) (s : State) : Type 0 where
  pub cost : get_or M a 0 ≤ s.cost
  pub one : get_or M (a + 1) 0 ≤ get_or s.free 0 0
  pub two : get_or M (a + 2) 0 ≤ get_or s.free 1 0
  pub three : get_or M (a + 3) 0 ≤ get_or s.free 2 0

-- dominated: one of the four labels of its count vector dominates s
pub record Dominated (M : List ℕ) (s : State) : Type 0 where
  pub slot : ℕ
  pub few : slot < 4
  pub under : LabelDominates M (label_place (count_key s) slot) s
