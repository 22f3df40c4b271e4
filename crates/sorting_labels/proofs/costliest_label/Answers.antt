-- `sorting_labels::costliest_label` meets its contract, one label by one law.
use Rattle.sorting_labels.proofs.Labels.{costliest_first, costliest_next, costliest_kept, costliest_all}
use mathlib.Core.Path.{◌∙◌}
use native.Mathlib.Omega.{arith}
use Rattle.sorting_labels.proofs.costliest_label.Goals as goal
use Rattle.sorting_labels.proofs.costliest_label.Goals.{then-m-k, else-m-k}

pub loop-j-init : goal.loop-j-init
loop-j-init c = (omega arith, costliest_first _ _)

pub loop-j-preserved : goal.loop-j-preserved
loop-j-preserved c =
    elim c.if-m-k.branch [
      | then-m-k w ↦ (omega arith, w.costliest-is ∙ search costliest_next)
      | else-m-k w ↦ (omega arith, w.costliest-is ∙ search costliest_kept)
    ]

pub returns : goal.returns
returns c = costliest_all _ _ _ _ c.loop-j.invariant.1 (omega arith) (omega arith) c.loop-j.invariant.0
