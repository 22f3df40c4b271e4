-- For proofs that compute: to unfold `rules_compute` is to unfold every definition of the rules, of their tests and of a plan's bytes.
use Prim.{Unit, tt}
use Rattle.base.specs.Sums.{sum_over, sum_after, greatest_over}
use Rattle.order.specs.Order.{seconds, firsts, never_more_seconds, is_proper}
use Rattle.order.specs.Passes.{pass_at, time_of}
use Rattle.plan_format.specs.Format.{numbers_bytes, form_bytes}
use Rattle.rules.specs.Mosaic.{station_sum, ready, bench_sum, no_batch, batch_at, batch_before, setup_time, bench_work_start, finish_due}
use Rattle.rules.specs.Mosaic.{completion, strip_weight, mosaic_figure}
use Rattle.rules.specs.Sorting.{strips_of, slot, scan_time, desk_time, job_weight, scan_end, desk_finish, no_job, job_at, jobs_of, sorting_figure}
use Rattle.rules.specs.Flight.{no_passes, passes_at, pass_start, pass_time, pass_end, second_due, clear_at, flight_figure}
use Rattle.rules.specs.Plan.{plan_bytes, members_bytes, batch_bytes, mosaic_bytes, job_bytes, sorting_bytes, passes_bytes, flight_bytes, if_present}
use Rattle.rules.proofs.Tests.{all_below, batch_test, batches_test, is_mosaic, job_test, turn_test, jobs_test, is_sorting}
use Rattle.rules.proofs.Tests.{block_test, clear_test, apart_test, is_flight, start_test, keeps_order, may_have_order}

unfoldable pub rules_compute : Unit {0}
unfolding
    sum_over sum_after greatest_over seconds firsts never_more_seconds is_proper pass_at time_of
    station_sum ready bench_sum no_batch batch_at batch_before setup_time bench_work_start finish_due completion strip_weight mosaic_figure
    strips_of slot scan_time desk_time job_weight scan_end desk_finish no_job job_at jobs_of sorting_figure
    no_passes passes_at pass_start pass_time pass_end second_due clear_at flight_figure
    numbers_bytes form_bytes members_bytes batch_bytes mosaic_bytes job_bytes sorting_bytes passes_bytes flight_bytes if_present plan_bytes
    all_below batch_test batches_test is_mosaic job_test turn_test jobs_test is_sorting block_test clear_test apart_test is_flight start_test keeps_order may_have_order
rules_compute = tt
