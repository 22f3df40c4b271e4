-- `plan_writer::write_sorting` meets its contract: an absent section stores nothing, a present one its head and its jobs.
use Rattle.plan_writer.specs.SectionLaws.{sorting_absent, sorting_stored}
use Rattle.std.proofs.Common.{arith, ◌≤◌, length}
use Rattle.plan_writer.proofs.write_sorting.Goals as goal

pub returns-then-strips-lt1 : goal.returns-then-strips-lt1
returns-then-strips-lt1 c = search sorting_absent

pub returns : goal.returns
returns c =
    let within : c.args.p.count ≤ length c.args.p.jobs = omega arith in
    search sorting_stored
