-- `flight_head` meets its contract: members, order number and passes are tested in the order of the definition.
use Rattle.judge_flight.specs.Laws.{members_wrong, proper_wrong, order_asked, given_wrong, head_right}
use Rattle.judge_flight.proofs.flight_head.Goals as goal

pub returns-then-members-f : goal.returns-then-members-f
returns-then-members-f c = search members_wrong

pub returns-then-not-proper : goal.returns-then-not-proper
returns-then-not-proper c = search proper_wrong

pub returns-then-order-f : goal.returns-then-order-f
returns-then-order-f c = search given_wrong

pub passes_in_order-requires : goal.passes_in_order-requires
passes_in_order-requires c = search order_asked

pub returns : goal.returns
returns c = search head_right
