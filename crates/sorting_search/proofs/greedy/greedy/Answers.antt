-- `sorting_search::greedy::greedy` meets its contract. The loop's invariant: the greedy list of the present state is the rest of that of the first.
use Rattle.sorting_search.specs.Greedy.{leads_start, leads_going, leads_serves, leads_step, leads_less, leads_end}
use native.Mathlib.Omega.{arith}
use Rattle.sorting_search.proofs.greedy.greedy.Goals as goal

pub loop-s-init : goal.loop-s-init
loop-s-init c = search leads_start

pub greedy_desk-requires : goal.greedy_desk-requires
greedy_desk-requires c = search leads_going

pub step-s-requires : goal.step-s-requires
step-s-requires c = search leads_serves

pub loop-s-smaller : goal.loop-s-smaller
loop-s-smaller c = search leads_less

pub loop-s-preserved : goal.loop-s-preserved
loop-s-preserved c = search leads_step

pub returns : goal.returns
returns c = leads_end c.loop-s.invariant (omega arith)
