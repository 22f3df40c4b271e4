-- `check_ranges` meets its contract: one case a tag: the values tested are those that stand in the content.
use Rattle.sheet_ranges.specs.RangeLaws.{strip_pre, strip_doubled, strip_others, mosaic_weight_pre}
use Rattle.sheet_ranges.specs.RangeLaws.{mosaic_head_read, mosaic_strip_read, sorting_head_read, sorting_strip_read, flight_head_read, flight_block_read, flight_window_block_read, no_values_read}
use borrow.Author.Rules.{rules}
use Rattle.sheet_ranges.proofs.check_ranges.Goals as goal

pub check_mosaic_strip-before-requires : goal.check_mosaic_strip-before-requires
check_mosaic_strip-before-requires c = search (strip_pre, rules)

pub overflow_mul-stations : goal.overflow_mul-stations
overflow_mul-stations c = search strip_doubled

pub overflow_add-stations : goal.overflow_add-stations
overflow_add-stations c = search strip_others

pub check_strip-requires : goal.check_strip-requires
check_strip-requires c = search mosaic_weight_pre

pub returns-in-16 : goal.returns-in-16
returns-in-16 c = search mosaic_head_read

pub returns-in-17 : goal.returns-in-17
returns-in-17 c = search mosaic_strip_read

pub returns-in-32 : goal.returns-in-32
returns-in-32 c = search sorting_head_read

pub returns-in-33 : goal.returns-in-33
returns-in-33 c = search sorting_strip_read

pub returns-in-48 : goal.returns-in-48
returns-in-48 c = search flight_head_read

pub returns-in-49 : goal.returns-in-49
returns-in-49 c = search flight_block_read

pub returns-in-51 : goal.returns-in-51
returns-in-51 c = search flight_window_block_read

pub returns-in_default : goal.returns-in_default
returns-in_default c = search no_values_read
