-- `sorting_bounds::scanner_bound::through` meets its contract: the two cases of the definition. The entry behind is at most `entry_cap`, so that no sum wraps.
use Rattle.sorting_bounds.proofs.ScannerTable.{strip_sums, through_none, through_some}
use Rattle.std.proofs.Common.{refl, arith}
use Rattle.sorting_bounds.proofs.scanner_bound.through.Goals as goal

pub returns-then-jobs-d : goal.returns-then-jobs-d
returns-then-jobs-d c = search through_none

pub overflow_add-done : goal.overflow_add-done
overflow_add-done c = let h = strip_sums c.requires c.scan_time.ensures refl refl in omega arith

pub overflow_add-done-2 : goal.overflow_add-done-2
overflow_add-done-2 c = let h = strip_sums c.requires c.scan_time.ensures c.desk_time.ensures refl in omega arith

pub overflow_mul-weight : goal.overflow_mul-weight
overflow_mul-weight c = let h = strip_sums c.requires c.scan_time.ensures c.desk_time.ensures c.weight.ensures in omega arith

pub overflow_add-weight : goal.overflow_add-weight
overflow_add-weight c = let h = strip_sums c.requires c.scan_time.ensures c.desk_time.ensures c.weight.ensures in omega (arith, c.requires.next (omega arith))

pub returns : goal.returns
returns c = through_some c.requires (omega arith) c.scan_time.ensures c.desk_time.ensures c.weight.ensures c.min.ensures
