-- `sorting::writing::plan_of` meets its contract. The loop's invariant: the jobs written are those of the chosen list, and the state is the one that it has
-- reached.
use Rattle.sorting.proofs.WritingLaws.{begun_start, loop_digit, loop_next_job_pre, loop_room, loop_serves, loop_falls, loop_more, begun_end}
use native.Mathlib.Omega.{arith}
use Rattle.sorting.proofs.writing.plan_of.Goals as goal

pub loop-s-init : goal.loop-s-init
loop-s-init c = search begun_start

pub overflow_sub-d : goal.overflow_sub-d
overflow_sub-d c = search loop_digit

pub next_job-requires : goal.next_job-requires
next_job-requires c = search loop_next_job_pre

pub bounds-plan-plan : goal.bounds-plan-plan
bounds-plan-plan c = search loop_room

pub offset_bounds-plan-plan : goal.offset_bounds-plan-plan
offset_bounds-plan-plan c = record { fits = omega (arith, loop_room c.loop-s.invariant c.loop-s-test.true) }

pub overflow_add-plan : goal.overflow_add-plan
overflow_add-plan c = record { fits = omega (arith, loop_room c.loop-s.invariant c.loop-s-test.true) }

pub step-s-requires : goal.step-s-requires
step-s-requires c = search loop_serves

pub loop-s-smaller : goal.loop-s-smaller
loop-s-smaller c = search loop_falls

pub loop-s-preserved : goal.loop-s-preserved
loop-s-preserved c = search loop_more

pub returns : goal.returns
returns c = search begun_end
