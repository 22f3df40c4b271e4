-- `sorting_bounds::scanner_bound::scan_sum`: the sum is that of the strips passed, at most `time_cap` each.
use Rattle.sorting_bounds.specs.ScannerTable.{SumSoFar}
use Rattle.sorting_bounds.proofs.scanner_bound.scan_sum.Given as goal

abbrev pub invariant-loop-i : goal.invariant-loop-i
invariant-loop-i l = SumSoFar l.jobs l.d l.n l.sum l.i
