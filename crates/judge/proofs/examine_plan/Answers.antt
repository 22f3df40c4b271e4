-- `examine_plan` meets its contract: the sections are found one behind the other, and the plan is judged by them.
use Rattle.judge.specs.Loops.{sorting_at_lem, flight_at_lem}
use Rattle.judge.proofs.examine_plan.Goals as goal

pub sorting_part-sorting-requires : goal.sorting_part-sorting-requires
sorting_part-sorting-requires c = sorting_at_lem _ _ _ c.requires c.mosaic_part-mosaic.ensures

pub flight_part-flight-requires : goal.flight_part-flight-requires
flight_part-flight-requires c = search flight_at_lem
