-- `flight_search::try_order` meets its contract: the order is not possible, or is no better than the incumbent, or replaces it.
use Rattle.flight_search.proofs.Trying.{least_starts_pre, figure_fits, try_impossible, try_first, try_stays, try_replaces}
use Rattle.flight_search.proofs.try_order.Goals as goal

pub least_starts-requires : goal.least_starts-requires
least_starts-requires c = least_starts_pre c.requires

pub returns-then-not-least_starts : goal.returns-then-not-least_starts
returns-then-not-least_starts c = search (try_impossible c.requires.room.times c.requires.proper c.least_starts.ensures)

pub overflow_add-figure : goal.overflow_add-figure
overflow_add-figure c = record { fits = figure_fits c.requires.room.times c.requires.proper c.least_starts.ensures }

pub returns-in_default : goal.returns-in_default
returns-in_default c = search (try_first c.requires.room.times c.requires.proper c.least_starts.ensures)

pub returns-then-b-figure : goal.returns-then-b-figure
returns-then-b-figure c = search (try_stays c.requires.room.times c.requires.proper c.least_starts.ensures)

pub returns-else-b-figure : goal.returns-else-b-figure
returns-else-b-figure c = search (try_replaces c.requires.room.times c.requires.proper c.least_starts.ensures)
