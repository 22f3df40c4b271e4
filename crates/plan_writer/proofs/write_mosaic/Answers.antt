-- `plan_writer::write_mosaic` meets its contract: an absent section stores nothing, a present one its head and its batches.
use Rattle.plan_writer.specs.SectionLaws.{mosaic_absent, mosaic_stored}
use Rattle.std.proofs.Common.{arith, ◌≤◌, length}
use Rattle.plan_writer.proofs.write_mosaic.Goals as goal

pub returns-then-strips-lt1 : goal.returns-then-strips-lt1
returns-then-strips-lt1 c = search mosaic_absent

pub returns : goal.returns
returns c =
    let within : c.args.p.count ≤ length c.args.p.batches = omega arith in
    search mosaic_stored
