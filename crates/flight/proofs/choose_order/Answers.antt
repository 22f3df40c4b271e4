-- `flight::choose_order` meets its contract: the given order, or the one that the search takes; where no order is possible, none is searched for.
use Rattle.std.proofs.Common.{sym, ap, ◌∙◌}
use Rattle.flight_search.specs.Search.{order_of}
use Rattle.flight.proofs.Planning.{given_order, order_unsearched, searched_order}
use Rattle.flight.proofs.choose_order.Goals as goal

pub returns-then-section : goal.returns-then-section
returns-then-section c = search given_order

pub returns-then-not-delays_fit : goal.returns-then-not-delays_fit
returns-then-not-delays_fit c = search order_unsearched

pub returns-in-Some : goal.returns-in-Some
returns-in-Some c = ap order_of (sym c.in-Some.is) ∙ search searched_order

pub returns-in-None : goal.returns-in-None
returns-in-None c = ap order_of (sym c.in-None.is) ∙ search searched_order
