-- The orders of a flight: which are possible, and the figure of each.
use Rattle.sheet.specs.declared.FlightSection.{FlightSection}
use Rattle.flight_order.specs.Constraints.{possible_in, order_figure}
use Rattle.flight_search.specs.Search.{Orders}

unfoldable pub orders_of : FlightSection → Orders
orders_of f = record { blocks = f.blocks; possible = possible_in f; figure = order_figure f }
