-- `check_mosaic_strip` meets its contract. Invariant: the first k station times pass, and the values from k on decide.
use Rattle.sheet_ranges.specs.RangeLaws.{times_none, times_refused, times_more, times_bench}
use Rattle.sheet_ranges.proofs.check_mosaic_strip.Goals as goal

pub loop-k-init : goal.loop-k-init
loop-k-init c = search times_none

pub returns-in_err-check_time : goal.returns-in_err-check_time
returns-in_err-check_time c = search (times_refused, c.in_err-check_time.ensures)

pub loop-k-preserved : goal.loop-k-preserved
loop-k-preserved c = search (times_more, c.in_ok-check_time.ensures)

pub returns : goal.returns
returns c = search times_bench
