-- `page::print_sections` meets its contract: the sections are stored one behind the other.
use Rattle.page.specs.PageLaws.{sorting_asked, flight_asked, sections_stored}
use Rattle.page.proofs.print_sections.Goals as goal

pub print_sorting-flight_at-requires : goal.print_sorting-flight_at-requires
print_sorting-flight_at-requires c = sorting_asked _ _ _ c.requires _ _ c.print_mosaic-sorting_at.ensures

pub print_flight-requires : goal.print_flight-requires
print_flight-requires c = flight_asked _ _ _ c.requires _ _
    c.print_mosaic-sorting_at.ensures _ _
    c.print_sorting-flight_at.ensures

pub returns : goal.returns
returns c = sections_stored _ _ _ c.requires _ _
    c.print_mosaic-sorting_at.ensures _ _
    c.print_sorting-flight_at.ensures _ _
    c.print_flight.ensures
