-- `plan_writer::write_plan` meets its contract: there is room behind each section, and the joined sections are the plan.
use Rattle.plan_writer.specs.PlanLaws.{sorting_room, flight_room, plan_written}
use Rattle.plan_writer.proofs.write_plan.Goals as goal

pub write_sorting-flight_at-requires : goal.write_sorting-flight_at-requires
write_sorting-flight_at-requires c = search sorting_room

pub write_flight-requires : goal.write_flight-requires
write_flight-requires c = search flight_room

pub returns : goal.returns
returns c = search plan_written
