-- `plan_writer::write_flight` meets its contract: an absent section stores nothing, a present one its head and its blocks.
use Rattle.plan_writer.specs.SectionLaws.{flight_absent, flight_stored}
use Rattle.std.proofs.Common.{arith, ◌≤◌, length}
use Rattle.plan_writer.proofs.write_flight.Goals as goal

pub returns-then-n-lt1 : goal.returns-then-n-lt1
returns-then-n-lt1 c = search flight_absent

pub returns : goal.returns
returns c =
    let within : c.args.n ≤ length c.args.p.blocks = omega arith in
    search flight_stored
