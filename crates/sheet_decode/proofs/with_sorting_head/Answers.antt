-- `with_sorting_head` meets its contract: the number read is that of the definition.
use Rattle.sheet_decode.specs.DecodeLaws.{sorting_head_on}
use Rattle.sheet_decode.proofs.with_sorting_head.Goals as goal

pub returns : goal.returns
returns c = sorting_head_on _ _ _ c.no_sorting.result c.no_sorting.ensures c.byte.ensures
