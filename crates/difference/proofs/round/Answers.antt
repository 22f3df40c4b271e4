-- `difference::round` meets its contract. The loop's invariant: the values are those after the constraints so far, and `held` is whether these held at entry.
use Rattle.difference.proofs.Steps.{round_start, constraint_held, constraint_broken, wanted_fits, had_fits}
use Rattle.difference.proofs.round.Goals as goal
use Rattle.difference.proofs.round.Goals.{then-values-c, else-values-c}

pub loop-c-init : goal.loop-c-init
loop-c-init c = round_start _ _

pub overflow_add-wanted : goal.overflow_add-wanted
overflow_add-wanted c = record { fits = search wanted_fits }

pub overflow_add-values : goal.overflow_add-values
overflow_add-values c = record { fits = search had_fits }

pub loop-c-preserved : goal.loop-c-preserved
loop-c-preserved c =
    elim c.if-values-c.branch [
      | then-values-c w ↦ rw (w.values-is, w.held-is) (search constraint_broken)
      | else-values-c w ↦ rw (w.values-is, w.held-is) (search constraint_held)
    ]
