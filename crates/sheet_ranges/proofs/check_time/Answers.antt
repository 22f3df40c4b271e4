-- `check_time` meets its contract: each way out is one through the definition.
use Rattle.sheet_ranges.specs.RangeLaws.{time_above, time_below, time_within}
use Rattle.sheet_ranges.proofs.check_time.Goals as goal

pub returns-then-most-time : goal.returns-then-most-time
returns-then-most-time c = search time_above

pub returns-then-time-least : goal.returns-then-time-least
returns-then-time-least c = search time_below

pub returns : goal.returns
returns c = search time_within
