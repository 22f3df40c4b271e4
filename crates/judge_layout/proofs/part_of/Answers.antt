-- `part_of` meets its contract: the members are looked for only where the head that is due stands.
use Rattle.judge_layout.specs.Laws.{part_asked}
use Rattle.judge_layout.proofs.part_of.Goals as goal

pub part_from-requires : goal.part_from-requires
part_from-requires c = search part_asked
