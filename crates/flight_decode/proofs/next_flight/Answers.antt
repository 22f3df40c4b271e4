-- `next_flight` meets its contract: one case a tag; there is room for another block.
use Rattle.base.specs.Branch.{branches}
use Rattle.sheet.specs.Decode.{next_flight}
use Rattle.flight_decode.specs.FlightLaws.{exact_block_next, window_block_next}
use Rattle.flight_decode.proofs.next_flight.Goals as goal

pub returns-in-48 : goal.returns-in-48
unfolding next_flight
returns-in-48 c = rw c.in-48.is c.with_flight_head.ensures

pub returns-in-49 : goal.returns-in-49
returns-in-49 c = search exact_block_next

pub returns-in-51 : goal.returns-in-51
returns-in-51 c = search window_block_next

pub returns-in-50 : goal.returns-in-50
unfolding next_flight
returns-in-50 c = rw c.in-50.is c.with_order.ensures

pub returns-in_default : goal.returns-in_default
unfolding next_flight
returns-in_default c = search branches depth 14
