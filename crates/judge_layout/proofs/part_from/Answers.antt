-- `part_from` meets its contract. Invariant: so many members stand behind the head, and `end` is the offset behind them.
use Rattle.judge_layout.specs.Laws.{counted_fits}
use mathlib.Core.Path.{refl}
use Rattle.judge_layout.specs.Laws.{counted_none, counted_within, counted_more, counted_all, counted_less}
use Rattle.judge_layout.proofs.part_from.Goals as goal

pub loop-member-init : goal.loop-member-init
loop-member-init c = search counted_none

pub overflow_add-end-in-loop-member-2 : goal.overflow_add-end-in-loop-member-2
overflow_add-end-in-loop-member-2 c = search counted_fits

pub loop-member-smaller : goal.loop-member-smaller
loop-member-smaller c = search (counted_less, counted_within)

pub loop-member-preserved : goal.loop-member-preserved
loop-member-preserved c = search counted_more

pub returns : goal.returns
returns c = counted_all _ _ _ _ _ _ c.loop-member.invariant _ c.is_field.ensures c.loop-member-test.false _ _ refl
