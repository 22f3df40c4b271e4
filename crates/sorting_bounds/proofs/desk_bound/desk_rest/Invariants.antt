-- `sorting_bounds::desk_bound::desk_rest`: what is summed and what is left are together the whole rest, and each strip adds at most `rest_span`.
use Rattle.sorting_bounds.specs.DeskBound.{desk_rest, RestSoFar}
use Rattle.sorting_bounds.proofs.desk_bound.desk_rest.Given as goal

abbrev pub invariant-loop-i : goal.invariant-loop-i
invariant-loop-i l = RestSoFar l.jobs (desk_rest l.fn.jobs l.fn.s l.d) l.d l.i l.time l.free l.sum
