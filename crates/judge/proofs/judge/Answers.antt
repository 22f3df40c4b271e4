-- `judge` meets its contract: it answers what examining the plan finds.
use Rattle.judge.specs.Examined.{judged_by}
use Rattle.judge.proofs.judge.Goals as goal

pub returns : goal.returns
returns c = search judged_by
