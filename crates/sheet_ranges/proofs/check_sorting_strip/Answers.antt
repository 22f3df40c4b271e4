-- `check_sorting_strip` meets its contract: the first value that is refused decides, in the order of the field table.
use Rattle.sheet.specs.FieldTable.{sorting_strip, values_of}
use Rattle.sheet.specs.Checks.{value_number}
use Rattle.sheet_ranges.specs.RangeLaws.{values}
use Rattle.sheet_ranges.proofs.check_sorting_strip.Goals as goal

pub returns-in_err-check_count : goal.returns-in_err-check_count
unfolding sorting_strip values_of value_number
returns-in_err-check_count c = search (values, c.in_err-check_count.ensures)

pub returns-in_err-check_time : goal.returns-in_err-check_time
unfolding sorting_strip values_of value_number
returns-in_err-check_time c = search (values, c.in_ok-check_count.ensures, c.in_err-check_time.ensures)

pub returns : goal.returns
unfolding sorting_strip values_of value_number
returns c = search (values, c.in_ok-check_count.ensures, c.in_ok-check_time.ensures)
