-- `examine` meets its contract: a sheet that is not turned back is sound.
use Rattle.judge.specs.Loops.{sheet_sound}
use Rattle.judge.proofs.examine.Goals as goal

pub examine_plan-requires : goal.examine_plan-requires
examine_plan-requires c = search sheet_sound
