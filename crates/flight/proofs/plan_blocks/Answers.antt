-- `flight::plan_blocks` meets its contract: the parts that are lent have the lengths that are asked.
use Rattle.flight.proofs.Planning.{plan_chosen_pre}
use Rattle.flight.proofs.plan_blocks.Goals as goal

pub plan_chosen-requires : goal.plan_chosen-requires
plan_chosen-requires c = plan_chosen_pre _ _ _ c.requires
