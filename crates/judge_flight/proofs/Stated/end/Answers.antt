-- `end` meets its contract: start and time of a pass are small enough to be added.
use Rattle.judge_flight.specs.Laws.{end_told}
use Rattle.judge_flight.proofs.Stated.end.Goals as goal

pub returns : goal.returns
returns c = search end_told
