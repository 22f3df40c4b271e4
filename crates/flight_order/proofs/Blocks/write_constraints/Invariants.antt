-- `write_constraints` meets its contract. The loop's invariant: the first k rows are the first k constraints.
use Rattle.flight_order.specs.Constraints.{section_of, flight_in}
use Rattle.flight_order.specs.Clauses.{Rows}
use Rattle.flight_order.proofs.Blocks.write_constraints.Given as goal

abbrev pub invariant-loop-k : goal.invariant-loop-k
invariant-loop-k l = Rows (flight_in (section_of l.self) l.order) l.rows l.k
