-- What holds of each section of a sheet that was read with number 0 (01, the table of "The sheet"; weights: 02, Req 09). An absent section has no member.
use Rattle.std.specs.Prelude.{ℕ, ◌+◌, ◌*◌, ◌≤◌, ◌<◌, ◌≡◌, true, false, length, get_or}
use Rattle.sheet.specs.Limits.{most_stations, most_desks, most_time, most_turn, most_weight, most_strips, most_strips_of_desk, most_blocks, most_blocks_without_order}
use Rattle.order.specs.Order.{Proper}
use Rattle.sheet.specs.declared.MosaicSection.{MosaicSection}
use Rattle.sheet.specs.declared.SortingSection.{SortingSection}
use Rattle.sheet.specs.declared.FlightSection.{FlightSection}
use Rattle.sheet.specs.declared.Sheet.{Sheet}

pub record MosaicSound (m : MosaicSection) : Type 0 where
  pub most_stations_holds : m.stations ≤ most_stations
  pub most_mount : m.mount ≤ most_time
  pub most_strips_holds : m.strips ≤ most_strips
  pub station_length : length m.station ≡ 160
  pub bench_length : length m.bench ≡ 40
  pub weight_length : length m.weight ≡ 40
  -- "0 means camera off"
  pub most_station : (i : ℕ) → get_or m.station i 0 ≤ most_time
  pub most_bench : (j : ℕ) → get_or m.bench j 0 ≤ most_time
  pub least_bench : (j : ℕ) → j < m.strips → 1 ≤ get_or m.bench j 0
  pub most_weight_holds : (j : ℕ) → get_or m.weight j 0 ≤ most_weight
  pub least_weight : (j : ℕ) → j < m.strips → 1 ≤ get_or m.weight j 0

pub record SortingSound (s : SortingSection) : Type 0 where
  pub most_desks_holds : s.desks ≤ most_desks
  pub counts_length : length s.counts ≡ 3
  pub scan_length : length s.scan ≡ 18
  pub desk_length : length s.desk ≡ 18
  pub weight_length : length s.weight ≡ 18
  -- "up to 6 per desk; a desk may have none"
  pub most_strips_holds : (d : ℕ) → get_or s.counts d 0 ≤ most_strips_of_desk
  pub no_desk : (d : ℕ) → s.desks ≤ d → get_or s.counts d 0 ≡ 0
  pub most_scan : (i : ℕ) → get_or s.scan i 0 ≤ most_time
  pub most_desk : (i : ℕ) → get_or s.desk i 0 ≤ most_time
  pub least_scan : (d k : ℕ) → k < get_or s.counts d 0 → 1 ≤ get_or s.scan (6 * d + k) 0
  pub least_desk : (d k : ℕ) → k < get_or s.counts d 0 → 1 ≤ get_or s.desk (6 * d + k) 0
  pub most_weight_holds : (i : ℕ) → get_or s.weight i 0 ≤ most_weight
  pub least_weight : (d k : ℕ) → k < get_or s.counts d 0 → 1 ≤ get_or s.weight (6 * d + k) 0

-- a flight section that has at most so many blocks where no order is given
pub record FlightWithin (most_free : ℕ) (f : FlightSection) : Type 0 where
  pub most_blocks_holds : f.blocks ≤ most_blocks
  pub most_turn_holds : f.turn ≤ most_turn
  pub first_length : length f.first ≡ 32
  pub shortest_length : length f.shortest ≡ 32
  pub longest_length : length f.longest ≡ 32
  pub second_length : length f.second ≡ 32
  pub most_first : (i : ℕ) → get_or f.first i 0 ≤ most_time
  pub most_delay : (i : ℕ) → get_or f.longest i 0 ≤ most_time
  pub most_second : (i : ℕ) → get_or f.second i 0 ≤ most_time
  pub least_first : (i : ℕ) → i < f.blocks → 1 ≤ get_or f.first i 0
  pub least_second : (i : ℕ) → i < f.blocks → 1 ≤ get_or f.second i 0
  -- 17, "longest below shortest", of no block
  pub window : (i : ℕ) → get_or f.shortest i 0 ≤ get_or f.longest i 0
  pub given : f.ordered ≡ true → Proper f.blocks f.order
  pub free : f.ordered ≡ false → f.blocks ≤ most_free

-- "Without it there may be at most 8 blocks."
abbrev pub FlightSound : FlightSection → Type 0
FlightSound f = FlightWithin most_blocks_without_order f

-- the strips of all desks
unfoldable pub strips_in_all : SortingSection → ℕ
strips_in_all t = get_or t.counts 0 0 + get_or t.counts 1 0 + get_or t.counts 2 0

-- "One to three sections stand .., each with one member or more": a sound sheet has a member, and its sections are sound
pub record SheetSound (s : Sheet) : Type 0 where
  pub mosaic : MosaicSound s.mosaic
  pub sorting : SortingSound s.sorting
  pub flight : FlightSound s.flight
  pub some_member : 1 ≤ s.mosaic.strips + strips_in_all s.sorting + s.flight.blocks
