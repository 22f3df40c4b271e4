-- `check_count` meets its contract: each way out is one through the definition.
use Rattle.sheet_ranges.specs.RangeLaws.{count_below, count_above, count_within}
use Rattle.sheet_ranges.proofs.check_count.Goals as goal

pub returns-then-value-least : goal.returns-then-value-least
returns-then-value-least c = search count_below

pub returns-then-value-most : goal.returns-then-value-most
returns-then-value-most c = search count_within

pub returns : goal.returns
returns c = search count_above
