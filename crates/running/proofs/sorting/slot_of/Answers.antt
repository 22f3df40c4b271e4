-- `slot_of` meets its contract: a strip that a section may have has its slot.
use Rattle.running.specs.FunctionLaws.{slot_told}
use Rattle.running.proofs.sorting.slot_of.Goals as goal

pub returns : goal.returns
returns c = search slot_told
