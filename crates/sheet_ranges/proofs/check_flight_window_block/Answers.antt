-- `check_flight_window_block` meets its contract: the first value that is refused decides, in the order of the field table.
use Rattle.sheet.specs.FieldTable.{flight_window_block, values_of}
use Rattle.sheet.specs.Checks.{value_number}
use Rattle.sheet_ranges.specs.RangeLaws.{values}
use Rattle.sheet_ranges.proofs.check_flight_window_block.Goals as goal

pub returns-in_err-check_time : goal.returns-in_err-check_time
unfolding flight_window_block values_of value_number
returns-in_err-check_time c = search (values, c.in_err-check_time.ensures)

pub returns-in_err-check_time-2 : goal.returns-in_err-check_time-2
unfolding flight_window_block values_of value_number
returns-in_err-check_time-2 c = search (values, c.in_ok-check_time.ensures, c.in_err-check_time-2.ensures)

pub returns-in_err-check_time-3 : goal.returns-in_err-check_time-3
unfolding flight_window_block values_of value_number
returns-in_err-check_time-3 c = search (values, c.in_ok-check_time.ensures, c.in_ok-check_time-2.ensures, c.in_err-check_time-3.ensures)

pub returns : goal.returns
unfolding flight_window_block values_of value_number
returns c = search (values, c.in_ok-check_time.ensures, c.in_ok-check_time-2.ensures, c.in_ok-check_time-3.ensures)
