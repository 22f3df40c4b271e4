-- `sorting_bounds::desk_bound::desk_rest` meets its contract: what one strip adds is one law, and so is the end.
use Rattle.sorting_bounds.proofs.DeskBound.{rest_more, rest_all, product_fits, sum_fits}
use Rattle.std.proofs.Common.{refl, arith}
use Rattle.sorting_bounds.proofs.desk_bound.desk_rest.Goals as goal

pub overflow_add-free : goal.overflow_add-free
overflow_add-free c = let h = rest_more c.requires.0 c.loop-i.invariant (omega arith) c.scan_time-time.ensures c.max.ensures c.desk_time.ensures refl in omega arith

pub overflow_mul-sum-in-loop-i : goal.overflow_mul-sum-in-loop-i
overflow_mul-sum-in-loop-i c = record { fits = product_fits c.requires.0 c.loop-i.invariant (omega arith) (omega arith) c.scan_time-time.ensures c.max.ensures c.desk_time.ensures }

pub overflow_add-sum-in-loop-i-3 : goal.overflow_add-sum-in-loop-i-3
overflow_add-sum-in-loop-i-3 c = record { fits = sum_fits c.requires.0 c.loop-i.invariant (omega arith) (omega arith) c.scan_time-time.ensures c.max.ensures c.desk_time.ensures }

pub loop-i-preserved : goal.loop-i-preserved
loop-i-preserved c = rest_more c.requires.0 c.loop-i.invariant (omega arith) c.scan_time-time.ensures c.max.ensures c.desk_time.ensures refl

pub returns : goal.returns
returns c = rest_all c.loop-i.invariant (omega arith)
