-- `next_mosaic` meets its contract: one case a tag; there is room for another strip.
use Rattle.base.specs.Branch.{branches}
use Rattle.sheet.specs.Decode.{next_mosaic}
use Rattle.sheet_decode.specs.Pre.{strip_pre}
use Rattle.sheet_decode.proofs.next_mosaic.Goals as goal

pub returns-in-16 : goal.returns-in-16
unfolding next_mosaic
returns-in-16 c = rw c.in-16.is c.with_mosaic_head.ensures

pub with_mosaic_strip-requires : goal.with_mosaic_strip-requires
with_mosaic_strip-requires c = search strip_pre

pub returns-in-17 : goal.returns-in-17
unfolding next_mosaic
returns-in-17 c = rw c.in-17.is c.with_mosaic_strip.ensures

pub returns-in_default : goal.returns-in_default
unfolding next_mosaic
returns-in_default c = search branches depth 14
