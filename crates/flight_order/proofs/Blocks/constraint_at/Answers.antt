-- `constraint_at` meets its contract: one law for each of the three kinds of constraint; the times are low, so no sum wraps.
use borrow.Author.Rules.{rules}
use Rattle.flight_order.specs.Constraints.{section_of, flight_in}
use Rattle.flight_order.proofs.Passes.{pass_below, up_fits, made_shortest, made_longest, made_order}
use Rattle.flight_order.proofs.Blocks.constraint_at.Goals as goal

pub returns-then-k-n : goal.returns-then-k-n
returns-then-k-n c = search (made_shortest (flight_in (section_of c.args.self) c.args.order))

pub returns-then-k-n-2 : goal.returns-then-k-n-2
returns-then-k-n-2 c = search (made_longest (flight_in (section_of c.args.self) c.args.order))

pub time_of-time-requires : goal.time_of-time-requires
time_of-time-requires c = (search rules, search rules, search (pass_below c.requires.good))

pub overflow_add-result-2 : goal.overflow_add-result-2
overflow_add-result-2 c = record { fits = search (rules, up_fits c.requires.good) }

pub returns : goal.returns
returns c = search (made_order (flight_in (section_of c.args.self) c.args.order))
