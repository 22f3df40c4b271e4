-- `check_sorting_head` meets its contract: the head has one value.
use Rattle.sheet.specs.FieldTable.{sorting_head, values_of}
use Rattle.sheet.specs.Checks.{value_number}
use Rattle.sheet_ranges.specs.RangeLaws.{value_last}
use Rattle.sheet_ranges.proofs.check_sorting_head.Goals as goal

pub returns : goal.returns
unfolding sorting_head values_of value_number
returns c = search value_last
