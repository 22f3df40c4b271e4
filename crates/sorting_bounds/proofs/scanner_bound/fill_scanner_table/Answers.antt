-- `sorting_bounds::scanner_bound::fill_scanner_table` meets its contract, one entry by one law.
use Rattle.sorting_bounds.proofs.ScannerTable.{filling_start, filling_enter, filling_more, filling_end}
use Rattle.sorting_bounds.proofs.scanner_bound.fill_scanner_table.Goals as goal

pub loop-k-init : goal.loop-k-init
loop-k-init c = search filling_start

pub scanner_entry-requires : goal.scanner_entry-requires
scanner_entry-requires c = search filling_enter

pub loop-k-preserved : goal.loop-k-preserved
loop-k-preserved c = search filling_more

pub returns : goal.returns
returns c = search filling_end
