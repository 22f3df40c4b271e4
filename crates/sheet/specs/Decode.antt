-- What a field that passes its checks adds to the sheet. A field's content begins at offset c of the sheet s.
use Rattle.std.specs.Prelude.{ℕ, zero, suc, ◌+◌, ◌-◌, ◌*◌, true, false, cond, List, set, replicate, eqb}
use Rattle.field.specs.Bytes.{number_at}
use Rattle.sheet.specs.Tags.{mosaic_head_tag, mosaic_strip_tag, sorting_head_tag, sorting_strip_tag, flight_head_tag, flight_block_tag, flight_order_tag}
use Rattle.sheet.specs.Tags.{flight_window_block_tag}
use Rattle.sheet.specs.Sections.{no_section, in_mosaic, in_sorting, in_flight, after_order, strips_of_desk}
use Rattle.sheet.specs.Checks.{ends_section}
use Rattle.sheet.specs.declared.MosaicSection.{MosaicSection}
use Rattle.sheet.specs.declared.SortingSection.{SortingSection}
use Rattle.sheet.specs.declared.Block.{Block}
use Rattle.sheet.specs.declared.FlightSection.{FlightSection}
use Rattle.sheet.specs.declared.Reading.{Reading}

unfoldable pub zeros : ℕ → List ℕ
zeros n = replicate n 0

-- a mosaic without a strip, a sorting without one, and a flight without a block
abbrev pub begun_mosaic : ℕ → ℕ → MosaicSection
begun_mosaic stations mount = record { stations = stations; mount = mount; strips = 0; station = zeros 160; bench = zeros 40; weight = zeros 40 }

abbrev pub begun_sorting : ℕ → SortingSection
begun_sorting desks = record { desks = desks; counts = zeros 3; scan = zeros 18; desk = zeros 18; weight = zeros 18 }

abbrev pub begun_flight : ℕ → ℕ → FlightSection
begun_flight turn place =
    record {
      blocks = 0;
      turn = turn;
      first = zeros 32;
      shortest = zeros 32;
      longest = zeros 32;
      second = zeros 32;
      ordered = false;
      order = 0;
      place = place;
    }

-- absent sections
unfoldable pub no_mosaic : MosaicSection
no_mosaic = begun_mosaic 0 0

unfoldable pub no_sorting : SortingSection
no_sorting = begun_sorting 0

unfoldable pub no_flight : FlightSection
no_flight = begun_flight 0 0

-- a mosaic of a head alone, and with one strip more
unfoldable pub with_mosaic_head : List ℕ → ℕ → MosaicSection
with_mosaic_head s c = begun_mosaic (number_at s c 1) (number_at s (c + 1) 2)

-- 02, Req 09: a strip's weight is its "one last byte", behind so many others; "absent means 1"
unfoldable pub weight_of : List ℕ → ℕ → ℕ → ℕ → ℕ
weight_of s c len others = cond (eqb len others) 1 (number_at s (c + others) 1)

unfoldable pub with_station_times : List ℕ → ℕ → ℕ → ℕ → List ℕ → List ℕ
with_station_times s c base zero times = times
with_station_times s c base (suc k) times = set (with_station_times s c base k times) (base + k) (number_at s (c + 2 * k) 2)

unfoldable pub with_mosaic_strip : List ℕ → ℕ → ℕ → MosaicSection → MosaicSection
with_mosaic_strip s c len m =
    record {
      stations = m.stations;
      mount = m.mount;
      strips = m.strips + 1;
      station = with_station_times s c (4 * m.strips) m.stations m.station;
      bench = set m.bench m.strips (number_at s (c + 2 * m.stations) 2);
      weight = set m.weight m.strips (weight_of s c len (2 * m.stations + 2));
    }

-- a sorting of a head alone, and with one strip more
unfoldable pub with_sorting_head : List ℕ → ℕ → SortingSection
with_sorting_head s c = begun_sorting (number_at s c 1)

-- strip k of desk d, both from 0
unfoldable pub with_strip_at : List ℕ → ℕ → ℕ → SortingSection → ℕ → ℕ → SortingSection
with_strip_at s c len t d k =
    record {
      desks = t.desks;
      counts = set t.counts d (k + 1);
      scan = set t.scan (6 * d + k) (number_at s (c + 1) 2);
      desk = set t.desk (6 * d + k) (number_at s (c + 3) 2);
      weight = set t.weight (6 * d + k) (weight_of s c len 5);
    }

unfoldable pub with_sorting_strip : List ℕ → ℕ → ℕ → SortingSection → SortingSection
with_sorting_strip s c len t = with_strip_at s c len t (number_at s c 1 - 1) (strips_of_desk t.counts (number_at s c 1))

-- 02, Req 06: "The flight head may carry two bytes, the turn g ..; an empty head means 0."
unfoldable pub turn_of : List ℕ → ℕ → ℕ → ℕ
turn_of s c len = cond (eqb len 0) 0 (number_at s c 2)

-- a flight of a head alone, with one block more, and with its order. The head stands at an offset, and so does the order field: 11 is given at the order
-- field or, where there is none, at the head.
unfoldable pub with_flight_head : List ℕ → ℕ → ℕ → ℕ → FlightSection
with_flight_head s c len at = begun_flight (turn_of s c len) at

-- 31, "first pass a, delay l, second pass b": the exact delay is a window of one value
unfoldable pub exact_block : List ℕ → ℕ → Block
exact_block s c = record { first = number_at s c 2; shortest = number_at s (c + 2) 2; longest = number_at s (c + 2) 2; second = number_at s (c + 4) 2 }

-- 33 (02, Req 07), "a, shortest delay, longest delay, b"
unfoldable pub window_block : List ℕ → ℕ → Block
window_block s c = record { first = number_at s c 2; shortest = number_at s (c + 2) 2; longest = number_at s (c + 4) 2; second = number_at s (c + 6) 2 }

unfoldable pub with_block : Block → FlightSection → FlightSection
with_block b f =
    record {
      blocks = f.blocks + 1;
      turn = f.turn;
      first = set f.first f.blocks b.first;
      shortest = set f.shortest f.blocks b.shortest;
      longest = set f.longest f.blocks b.longest;
      second = set f.second f.blocks b.second;
      ordered = f.ordered;
      order = f.order;
      place = f.place;
    }

unfoldable pub with_order : List ℕ → ℕ → ℕ → FlightSection → FlightSection
with_order s c at f =
    record {
      blocks = f.blocks;
      turn = f.turn;
      first = f.first;
      shortest = f.shortest;
      longest = f.longest;
      second = f.second;
      ordered = true;
      order = number_at s c 8;
      place = at;
    }

-- each section after a field; it begins anew with its head
unfoldable pub next_mosaic : List ℕ → ℕ → ℕ → ℕ → MosaicSection → MosaicSection
next_mosaic s c tag len m = cond (eqb tag mosaic_head_tag) (with_mosaic_head s c) (cond (eqb tag mosaic_strip_tag) (with_mosaic_strip s c len m) m)

unfoldable pub next_sorting : List ℕ → ℕ → ℕ → ℕ → SortingSection → SortingSection
next_sorting s c tag len t = cond (eqb tag sorting_head_tag) (with_sorting_head s c) (cond (eqb tag sorting_strip_tag) (with_sorting_strip s c len t) t)

unfoldable pub next_flight : List ℕ → ℕ → ℕ → ℕ → ℕ → FlightSection → FlightSection
next_flight s c tag len at f =
    cond (eqb tag flight_head_tag) (with_flight_head s c len at)
    (cond (eqb tag flight_block_tag) (with_block (exact_block s c) f)
    (cond (eqb tag flight_window_block_tag) (with_block (window_block s c) f)
    (cond (eqb tag flight_order_tag) (with_order s c at f)
    f)))

-- the section that a permitted tag leads to
unfoldable pub next_section : ℕ → ℕ → ℕ
next_section tag section =
    cond (eqb tag mosaic_head_tag) in_mosaic
    (cond (eqb tag sorting_head_tag) in_sorting
    (cond (eqb tag flight_head_tag) in_flight
    (cond (eqb tag flight_order_tag) after_order
    section)))

-- the members of the section after a field: a head begins anew, the order field is none
unfoldable pub next_members : ℕ → ℕ → ℕ
next_members tag members = cond (ends_section tag) 0 (cond (eqb tag flight_order_tag) members (members + 1))

-- the place of the section's head
unfoldable pub next_head : ℕ → ℕ → ℕ → ℕ
next_head tag head at = cond (ends_section tag) at head

-- the reading after a whole field of a tag and a content length
unfoldable pub next_reading : List ℕ → Reading → ℕ → ℕ → Reading
next_reading s st tag len =
    record {
      at = st.at + 3 + len;
      section = next_section tag st.section;
      head = next_head tag st.head st.at;
      members = next_members tag st.members;
      mosaic = next_mosaic s (st.at + 3) tag len st.mosaic;
      sorting = next_sorting s (st.at + 3) tag len st.sorting;
      flight = next_flight s (st.at + 3) tag len st.at st.flight;
    }

-- before the first field
unfoldable pub start_reading : Reading
start_reading = record { at = 0; section = no_section; head = 0; members = 0; mosaic = no_mosaic; sorting = no_sorting; flight = no_flight }
