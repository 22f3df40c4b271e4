-- `flight_search::search` meets its contract: the measure is the number of passes left.
use Rattle.flight_search.proofs.+search.Given as goal

abbrev pub decreases-search : goal.decreases-search
decreases-search l = l.left
