-- `clear` meets its contract: the end and the turn.
use native.Mathlib.Omega.{arith}
use Rattle.judge_flight.specs.Laws.{clear_told}
use Rattle.judge_flight.proofs.Stated.clear.Goals as goal

pub overflow_add-result : goal.overflow_add-result
overflow_add-result c = omega (arith, c.end.ensures.fits, c.requires.sound.most_turn_holds)

pub returns : goal.returns
returns c = search clear_told
