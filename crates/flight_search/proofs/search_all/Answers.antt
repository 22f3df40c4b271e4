-- `flight_search::search_all` meets its contract: the parts that are lent have the lengths that are asked, and the search starts at the empty beginning.
use Rattle.flight_search.proofs.Rooms.{root_search_pre}
use Rattle.flight_search.proofs.search_all.Goals as goal

pub search-requires : goal.search-requires
search-requires c = root_search_pre c.requires
