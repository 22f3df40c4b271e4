-- `with_mosaic_strip` meets its contract: the station times, the bench time and the weight are stored at the strip's place.
use Rattle.sheet_decode.specs.DecodeLaws.{mosaic_strip_is}
use Rattle.sheet_decode.proofs.with_mosaic_strip.Goals as goal

pub returns : goal.returns
returns c = search mosaic_strip_is
