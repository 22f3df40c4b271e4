-- `sorting_labels::dominated` meets its contract, one label by one law.
use Rattle.sorting_labels.proofs.Labels.{dominated_none, dominated_not, dominated_at, dominated_all}
use Rattle.std.proofs.Common.{◌<◌, arith}
use Rattle.sorting_labels.proofs.dominated.Goals as goal

pub loop-j-init : goal.loop-j-init
loop-j-init c = dominated_none _ _ _

pub returns-then-label_dominates : goal.returns-then-label_dominates
returns-then-label_dominates c = let l : c.loop-j.j < 4 = omega arith in search dominated_at

pub loop-j-preserved : goal.loop-j-preserved
loop-j-preserved c = search dominated_not

pub returns : goal.returns
returns c = search dominated_all
