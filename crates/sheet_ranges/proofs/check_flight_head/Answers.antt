-- `check_flight_head` meets its contract: an empty head has no value, one with a turn has one.
use Rattle.sheet_ranges.specs.RangeLaws.{empty_head, turn_head}
use Rattle.sheet_ranges.proofs.check_flight_head.Goals as goal

pub returns-then-length-eq0 : goal.returns-then-length-eq0
returns-then-length-eq0 c = search empty_head

pub returns : goal.returns
returns c = search turn_head
