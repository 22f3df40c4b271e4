-- `least_starts` meets its contract: the rows that were written are the flight's constraints, and solving them gives its least starts.
use Rattle.flight_order.proofs.Writing.{rows_fit, rows_least}
use Rattle.flight_order.proofs.Blocks.least_starts.Goals as goal

pub solve-requires : goal.solve-requires
solve-requires c = search rows_fit

pub returns : goal.returns
returns c = search rows_least
