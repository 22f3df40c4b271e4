-- `sorting_bounds::scanner_bound::scan_sum` meets its contract: one strip more is one law.
use Rattle.sorting_bounds.proofs.ScannerTable.{sum_start, sum_more, sum_end}
use Rattle.std.proofs.Common.{arith}
use Rattle.sorting_bounds.proofs.scanner_bound.scan_sum.Goals as goal

pub loop-i-init : goal.loop-i-init
loop-i-init c = search sum_start

pub overflow_add-sum : goal.overflow_add-sum
overflow_add-sum c = let h = sum_more c.requires c.loop-i.invariant (omega arith) c.scan_time-sum.ensures in omega arith

pub loop-i-preserved : goal.loop-i-preserved
loop-i-preserved c = sum_more c.requires c.loop-i.invariant (omega arith) c.scan_time-sum.ensures

pub returns : goal.returns
returns c = search sum_end
