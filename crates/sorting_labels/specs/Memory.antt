-- The dominance memory. A state that a label dominates has no completion below those of the label's state, and a label is stored once its state is explored:
-- so what a label dominates is bounded by the incumbent. That is the memory's invariant: it is stated by its use.
use Rattle.std.specs.Prelude.{◌≡◌}
use mathlib.Core.List.{List}
use Prim.Native.Nat.{ℕ, ◌≤◌}
use Rattle.std.proofs.Math.ListN.{length, get_or}
use Rattle.interleaving.specs.declared.State.{State}
use Rattle.interleaving.specs.Search.{LowerBound}
use Rattle.interleaving.specs.Consistent.{Consistent}
use Rattle.sorting_labels.specs.Labels.{Dominated}

-- s dominates z: the counts are equal, and neither the cost nor a desk's free time is larger
pub record Dominates (s z : State) : Type 0 where
  pub time : s.time ≡ z.time
  pub taken : s.taken ≡ z.taken
  pub frees : length s.free ≡ 3
  pub frees' : length z.free ≡ 3
  pub free : (d : ℕ) → get_or s.free d 0 ≤ get_or z.free d 0
  pub cost : s.cost ≤ z.cost

-- the memory's invariant: what a label dominates is bounded by B from below
unfoldable pub LabelsHold : List ℕ → List ℕ → ℕ → Type 0
LabelsHold J M B = (s : State) → Consistent J s → Dominated M s → LowerBound J s.left s B
