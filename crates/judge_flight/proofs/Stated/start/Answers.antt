-- `start` meets its contract: a first pass and a second pass are the starts of their block.
use Rattle.judge_flight.specs.Laws.{first_start, second_start}
use Rattle.judge_flight.proofs.Stated.start.Goals as goal

pub returns-then-p-n : goal.returns-then-p-n
returns-then-p-n c = search first_start

pub returns-else-p-n : goal.returns-else-p-n
returns-else-p-n c = search second_start
