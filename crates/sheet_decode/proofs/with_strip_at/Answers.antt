-- `with_strip_at` meets its contract: the numbers read are stored at the strip's place.
use Rattle.sheet_decode.specs.DecodeLaws.{strip_at_is}
use Rattle.sheet_decode.proofs.with_strip_at.Goals as goal

pub returns : goal.returns
returns c = search strip_at_is
