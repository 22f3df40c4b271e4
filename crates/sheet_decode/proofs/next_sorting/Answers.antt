-- `next_sorting` meets its contract: one case a tag; there is room for another strip at its desk.
use Rattle.base.specs.Branch.{branches}
use Rattle.sheet.specs.Decode.{next_sorting}
use Rattle.sheet_decode.specs.Pre.{desk_pre}
use Rattle.sheet_decode.specs.DecodeLaws.{sorting_strip_is}
use Rattle.sheet_decode.proofs.next_sorting.Goals as goal

pub returns-in-32 : goal.returns-in-32
unfolding next_sorting
returns-in-32 c = rw c.in-32.is c.with_sorting_head.ensures

pub with_strip_at-requires : goal.with_strip_at-requires
with_strip_at-requires c = search desk_pre

pub returns-in-33 : goal.returns-in-33
returns-in-33 c = search sorting_strip_is

pub returns-in_default : goal.returns-in_default
unfolding next_sorting
returns-in_default c = search branches depth 14
