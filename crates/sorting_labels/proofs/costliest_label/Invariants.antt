-- `sorting_labels::costliest_label`: the first costliest of the labels passed.
use Rattle.sorting_labels.specs.Labels.{costliest_of}
use mathlib.Core.Path.{◌≡◌}
use Prim.Native.Nat.{◌<◌}
use Rattle.sorting_labels.proofs.costliest_label.Given as goal

abbrev pub invariant-loop-j : goal.invariant-loop-j
invariant-loop-j l = (l.costliest < 4) × (l.costliest ≡ costliest_of l.m l.k l.j)
