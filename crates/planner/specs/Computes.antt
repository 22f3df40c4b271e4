-- For proofs that compute: to unfold `planner_computes` is to unfold every definition that the planning of a read sheet runs through, beside those of the rules.
use Prim.{Unit, tt}
use Rattle.base.specs.Listed.{listed}
use Rattle.batching.specs.Least.{bench_start, finish_of, least_open, least_from}
use Rattle.batching.specs.Chosen.{batch_of, chosen_open, chosen_from}
use Rattle.running.specs.Running.{batch_weight}
use Rattle.mosaic.specs.Least.{instance_of}
use Rattle.mosaic.specs.Chosen.{chosen_batches}
use Rattle.interleaving.specs.Search.{step_of, keep, over_desks, branch, search_from, start_state, first_best}
use Rattle.sorting.specs.Plan.{instance_of as sorting_instance, listed_desk, reached, job_of, jobs_of_list, chosen_jobs}
use Rattle.difference.specs.System.{relax, relaxed, rounds, holds, least_values, solvable}
use Rattle.flight_order.specs.Constraints.{constraint_of, least_starts, possible_in, order_figure}
use Rattle.flight_order.specs.Timetable.{passes_with_starts, least_passes}
use Rattle.flight_search.specs.Search.{improves, tried, searched}
use Rattle.flight_search.specs.Orders.{orders_of}
use Rattle.flight.specs.Choice.{delays_fit, one_by_one, free_order, chosen_order, is_possible, chosen_passes}
use Rattle.planner.specs.Call.{chosen_plan, answer_of, planned_bytes, sheet_answer, sheet_plan}
use Rattle.planner.specs.Theorems.{figure_of_mosaic, figure_of_sorting, figure_of_flight}

unfoldable pub planner_computes : Unit {0}
unfolding
    bench_start finish_of least_open least_from batch_of chosen_open chosen_from batch_weight instance_of chosen_batches
    step_of keep over_desks branch search_from start_state first_best sorting_instance listed_desk reached job_of listed jobs_of_list chosen_jobs
    relax relaxed rounds holds least_values solvable constraint_of least_starts possible_in order_figure passes_with_starts least_passes
    improves tried searched orders_of delays_fit one_by_one free_order chosen_order is_possible chosen_passes
    chosen_plan sheet_answer sheet_plan answer_of planned_bytes figure_of_mosaic figure_of_sorting figure_of_flight
planner_computes = tt
