-- `sorting_bounds::scanner_bound::scanner_bound` meets its contract: the cost and the entry of the state's own count vector.
use Rattle.sorting_bounds.proofs.ScannerTable.{scanner_bound_small, scanner_bound_is}
use native.Mathlib.Omega.{arith}
use Rattle.sorting_bounds.proofs.scanner_bound.scanner_bound.Goals as goal

pub overflow_add-result-2 : goal.overflow_add-result-2
overflow_add-result-2 c = let h = scanner_bound_small c.requires in omega arith

pub returns : goal.returns
returns c = search scanner_bound_is
