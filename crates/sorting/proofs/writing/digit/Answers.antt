-- `sorting::writing::digit` meets its contract. The loop's invariant: the rest is the number without its last i digits.
use Rattle.sorting.proofs.WritingLaws.{digit_start, digit_more}
use Rattle.sorting.proofs.writing.digit.Goals as goal

pub loop-i-init : goal.loop-i-init
loop-i-init c = digit_start _

pub loop-i-preserved : goal.loop-i-preserved
loop-i-preserved c = digit_more _ _ _ c.loop-i.invariant
