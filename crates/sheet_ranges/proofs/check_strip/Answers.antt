-- `check_strip` meets its contract: the values before the weight decide, or the weight does.
use Rattle.sheet_ranges.specs.RangeLaws.{before_decides, weight_decides}
use Rattle.sheet_ranges.proofs.check_strip.Goals as goal

pub returns-in-Ok : goal.returns-in-Ok
returns-in-Ok c = search weight_decides

pub returns-in-Err : goal.returns-in-Err
returns-in-Err c = search before_decides
