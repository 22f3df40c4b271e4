-- `read_whole` meets its contract: what each read adds stands behind what was read before.
use Rattle.std.proofs.Common.{rules}
use Rattle.files.proofs.Reading.{consumes_more}
use Rattle.files.proofs.read_whole.Goals as goal

pub loop-length-preserved : goal.loop-length-preserved
loop-length-preserved g c = record {
  within = search rules;
  long = search rules;
  consumed = consumes_more _ _ _ _ _ _ _ c.in-Ok.ensures.piece.kept c.loop-length.invariant.consumed c.in-Ok.ensures.bytes.0;
}
