-- `order::proper` meets its contract. The loop's invariant: every beginning below k passes was tried. The measure is what is left of the passes.
-- A refusal contradicts a field of `Proper`; that nothing was refused is `Proper`, by a law on plain numbers.
use mathlib.Core.Path.{sym}
use native.Mathlib.Omega.{arith}
use Rattle.order.specs.Decided.{false_proper}
use Rattle.order.specs.Word.{proper_blocks, proper_count}
use Rattle.order.proofs.Beginnings.{tried_none, tried_more, tried_all}
use Rattle.order.proofs.proper.Goals as goal

pub returns-then-n-gt-BLOCKS : goal.returns-then-n-gt-BLOCKS
returns-then-n-gt-BLOCKS c = sym (false_proper _ _ (λ p. omega (arith, proper_blocks p c.ranges.x.fits)))

pub returns-then-seconds_before-n : goal.returns-then-seconds_before-n
returns-then-seconds_before-n c = sym (false_proper _ _ (λ p. omega (arith, proper_count p (omega arith))))

pub returns-then-seconds_before-n-2 : goal.returns-then-seconds_before-n-2
returns-then-seconds_before-n-2 c = sym (false_proper _ _ (λ p. omega (arith, p.exactly)))

pub loop-k-init : goal.loop-k-init
loop-k-init c = search tried_none

pub returns-then-firsts_before-seconds_before : goal.returns-then-firsts_before-seconds_before
returns-then-firsts_before-seconds_before c = sym (false_proper _ _ (λ p. omega (arith, p.beginnings c.loop-k.k (omega arith))))

pub loop-k-preserved : goal.loop-k-preserved
loop-k-preserved c = tried_more
    _
    _
    _
    _
    c.loop-k.invariant
    c.firsts_before.ensures
    c.seconds_before-in-loop-k.ensures
    c.if-firsts_before-seconds_before.false

pub returns : goal.returns
returns c = search (tried_all, arith)
