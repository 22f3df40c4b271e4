-- `write_output` meets its contract: what each write takes stands behind what was written before.
use Rattle.std.proofs.Common.{rules}
use Rattle.files.proofs.Reading.{appends_more}
use Rattle.files.proofs.write_output.Goals as goal

pub loop-written-preserved : goal.loop-written-preserved
loop-written-preserved g c = record {
  within = search rules;
  appended = appends_more _ _ _ _ _ _ c.loop-written.invariant.appended c.in-Ok.ensures.bytes;
}
