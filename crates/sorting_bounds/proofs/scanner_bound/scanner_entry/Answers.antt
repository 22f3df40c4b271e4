-- `sorting_bounds::scanner_bound::scanner_entry` meets its contract: where no strip is left the entry is 0, else the least of three rests.
use Rattle.sorting_bounds.proofs.ScannerTable.{enter_first, enter_second, enter_third, entry_none, entry_some}
use mathlib.Core.Path.{refl}
use native.Mathlib.Omega.{arith}
use Rattle.sorting_bounds.proofs.scanner_bound.scanner_entry.Goals as goal

pub returns-then-jobs-a : goal.returns-then-jobs-a
returns-then-jobs-a c = search entry_none

pub through-first-requires : goal.through-first-requires
through-first-requires c = search enter_first

pub through-second-requires : goal.through-second-requires
through-second-requires c = search enter_second

pub through-third-requires : goal.through-third-requires
through-third-requires c = search enter_third

pub returns : goal.returns
returns c = entry_some c.requires
    c.min-2.ensures c.min.ensures c.through-first.ensures
    c.through-second.ensures c.through-third.ensures
    c.scan_sum.ensures
    c.scan_sum-2.ensures
    c.scan_sum-3.ensures refl (omega arith)
