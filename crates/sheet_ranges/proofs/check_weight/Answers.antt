-- `check_weight` meets its contract: an absent weight has no value, and one that is written is examined as a count.
use Rattle.sheet_ranges.specs.RangeLaws.{weight_absent, weight_there}
use Rattle.sheet_ranges.proofs.check_weight.Goals as goal

pub returns-then-length-others : goal.returns-then-length-others
returns-then-length-others c = search weight_absent

pub returns : goal.returns
returns c = search weight_there
