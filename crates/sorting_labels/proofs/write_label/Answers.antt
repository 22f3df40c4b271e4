-- `sorting_labels::write_label` meets its contract: four stores, as the definition has them.
use lib.ListN.{length-set}
use native.Mathlib.Omega.{arith}
use Rattle.sorting_labels.proofs.write_label.Goals as goal

pub bounds-m-a-2 : goal.bounds-m-a-2
bounds-m-a-2 c = simp length-set (omega arith)

pub bounds-m-a-3 : goal.bounds-m-a-3
bounds-m-a-3 c = simp length-set (omega arith)
