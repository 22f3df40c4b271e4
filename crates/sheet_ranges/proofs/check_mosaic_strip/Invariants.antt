-- `check_mosaic_strip` meets its contract. Invariant: the first k station times pass, and the values from k on decide.
use Rattle.sheet_ranges.specs.RangeLaws.{TimesPassed}
use Rattle.sheet_ranges.proofs.check_mosaic_strip.Given as goal

abbrev pub invariant-loop-k : goal.invariant-loop-k
invariant-loop-k l = TimesPassed l.s l.c l.stations l.k
