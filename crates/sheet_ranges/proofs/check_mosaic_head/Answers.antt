-- `check_mosaic_head` meets its contract: the first value that is refused decides, in the order of the field table.
use Rattle.sheet.specs.FieldTable.{mosaic_head, values_of}
use Rattle.sheet.specs.Checks.{value_number}
use Rattle.sheet_ranges.specs.RangeLaws.{values}
use Rattle.sheet_ranges.proofs.check_mosaic_head.Goals as goal

pub returns-in_err-check_count : goal.returns-in_err-check_count
unfolding mosaic_head values_of value_number
returns-in_err-check_count c = search (values, c.in_err-check_count.ensures)

pub returns : goal.returns
unfolding mosaic_head values_of value_number
returns c = search (values, c.in_ok-check_count.ensures)
