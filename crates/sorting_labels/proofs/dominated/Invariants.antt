-- `sorting_labels::dominated`: no label passed dominates the state.
use Rattle.sorting_labels.specs.Labels.{dominated_by}
use mathlib.Core.Path.{◌≡◌}
use mathlib.Core.Bool.{false}
use Rattle.sorting_labels.proofs.dominated.Given as goal

abbrev pub invariant-loop-j : goal.invariant-loop-j
invariant-loop-j l = dominated_by l.m l.k l.s l.j ≡ false
