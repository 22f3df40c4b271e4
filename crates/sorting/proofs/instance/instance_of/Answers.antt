-- `sorting::instance::instance_of` meets its contract: the counts, and behind them the three rows, one behind the other.
use Rattle.sorting.proofs.InstanceLaws.{copied}
use Rattle.sorting.proofs.instance.instance_of.Goals as goal

pub returns : goal.returns
returns c = copied c.requires c.copy_from_slice-3.ensures.after c.copy_from_slice-2.ensures.after c.copy_from_slice.ensures.after
