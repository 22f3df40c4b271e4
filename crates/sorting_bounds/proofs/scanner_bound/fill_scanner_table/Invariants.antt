-- `sorting_bounds::scanner_bound::fill_scanner_table`: the table is the definition's with the entries from k on.
use Rattle.sorting_bounds.specs.ScannerTable.{Filling}
use Rattle.sorting_bounds.proofs.scanner_bound.fill_scanner_table.Given as goal

abbrev pub invariant-loop-k : goal.invariant-loop-k
invariant-loop-k l = Filling l.jobs l.initial.m l.m l.k
