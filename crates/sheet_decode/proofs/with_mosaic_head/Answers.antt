-- `with_mosaic_head` meets its contract: the numbers read are those of the definition.
use Rattle.sheet_decode.specs.DecodeLaws.{mosaic_head_on}
use Rattle.sheet_decode.proofs.with_mosaic_head.Goals as goal

pub returns : goal.returns
returns c = mosaic_head_on _ _ _ _ c.no_mosaic.result c.no_mosaic.ensures c.byte.ensures c.number.ensures
