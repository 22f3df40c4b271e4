-- `block_follows` meets its contract: a block past the last is refused first; else its earliest and latest starts are small enough to be added up.
use native.Mathlib.Omega.{arith}
use Rattle.judge_rules.specs.Laws.{block_past, block_due, flown_fits, earliest_fits, latest_fits, end_fits}
use Rattle.judge_rules.proofs.block_follows.Goals as goal

pub returns-then-f-i : goal.returns-then-f-i
returns-then-f-i c = block_past _ _ _ (omega arith)

pub overflow_add-flown : goal.overflow_add-flown
overflow_add-flown c = search flown_fits

pub overflow_add-earliest : goal.overflow_add-earliest
overflow_add-earliest c = search (earliest_fits, latest_fits)

pub overflow_add-latest : goal.overflow_add-latest
overflow_add-latest c = search (earliest_fits, latest_fits)

pub overflow_add-end : goal.overflow_add-end
overflow_add-end c = search end_fits

pub returns : goal.returns
returns c = search block_due
