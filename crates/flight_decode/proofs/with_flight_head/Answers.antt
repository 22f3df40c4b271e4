-- `with_flight_head` meets its contract: the definition, with the turn read.
use Rattle.flight_decode.specs.FlightLaws.{flight_head_on}
use Rattle.flight_decode.proofs.with_flight_head.Goals as goal

pub returns : goal.returns
returns c = flight_head_on _ _ _ _ _ c.no_flight.result c.no_flight.ensures c.turn_of.ensures
