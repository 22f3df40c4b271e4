-- `sorting_labels::store_label` meets its contract: the label is written in the place of the costliest.
use Rattle.sorting_labels.proofs.Labels.{stored}
use Rattle.sorting_labels.proofs.store_label.Goals as goal

pub returns : goal.returns
returns c = search stored
