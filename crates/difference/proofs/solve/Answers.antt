-- `difference::solve` meets its contract. The loop's invariant: the values are those after r rounds, none of which began at a solution.
-- A round that began at a solution ends all; after as many rounds as variables there is none.
use Rattle.difference.proofs.Steps.{rounds_start, round_ready, go_on, stop, give_up}
use Rattle.difference.proofs.solve.Goals as goal

pub loop-r-init : goal.loop-r-init
loop-r-init c = rounds_start (c.fill.ensures.after (λ y e. e))

pub round-requires : goal.round-requires
round-requires c = search round_ready

pub returns-then-round : goal.returns-then-round
returns-then-round c = search stop

pub loop-r-preserved : goal.loop-r-preserved
loop-r-preserved c = search go_on

pub returns : goal.returns
returns c = search give_up
