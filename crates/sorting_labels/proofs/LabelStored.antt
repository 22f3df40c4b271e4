-- A label stored once its state is explored: the labels still hold.
use Rattle.std.specs.Prelude.{◌≡◌}
use Rattle.std.proofs.Common.{sym, ◌∙◌, arith}
use Rattle.std.proofs.Math.Path.{ap, subst}
use mathlib.Core.List.{List}
use Prim.Native.Nat.{ℕ, ◌<◌}
use Rattle.std.proofs.Math.ListN.{length}
use Rattle.sheet.specs.Limits.{table_length}
use Rattle.interleaving.specs.declared.State.{State}
use Rattle.interleaving.specs.declared.Incumbent.{Incumbent}
use Rattle.interleaving.specs.Instance.{Instance}
use Rattle.interleaving.specs.Search.{search_from, LowerBound}
use Rattle.interleaving.proofs.SearchLaws.{search_bound}
use Rattle.interleaving.specs.Consistent.{Consistent}
use Rattle.sorting_bounds.specs.Layout.{count_key}
use Rattle.sorting_labels.specs.Labels.{label_place, store_label, costliest, with_label}
use Rattle.sorting_labels.proofs.Labels.{costliest_few}
use Rattle.sorting_labels.specs.Memory.{LabelsHold}
use Rattle.sorting_labels.proofs.Memory.{labels_store}

-- a label stored once its state is explored
module _ (J M N : List ℕ) (s : State) (b r : Incumbent) (k : ℕ) where
  pub labels_done : Instance J → length M ≡ table_length → (k ≡ count_key s) × (k < 343) → N ≡ with_label M k s → Consistent J s → LabelsHold J M r.figure
      → r ≡ search_from J s.left s b → LabelsHold J N r.figure
  unfolding with_label
  labels_done j size key e g h w =
      subst (λ (x : List ℕ). LabelsHold J x r.figure) (sym (e ∙ ap (λ (x : ℕ). store_label M (label_place x (costliest M k)) s) key.0))
      (labels_store J j M s (costliest M k) r.figure (omega arith) (costliest_few M k) g h (subst (λ (x : Incumbent). LowerBound J s.left s x.figure) (sym w) (search_bound J s.left s b)))
