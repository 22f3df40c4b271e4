-- Room for what a field adds to the sheet.
use Rattle.std.specs.Prelude.{ℕ, ◌+◌, ◌-◌, ◌≤◌, ◌<◌, ◌^◌, ◌≡◌, List, length}
use Rattle.std.proofs.Common.{arith}
use Rattle.field.specs.Bytes.{number_at, NumberRead}
use Rattle.sheet.specs.Limits.{most_stations, most_strips, most_desks, most_strips_of_desk}
use Rattle.sheet.specs.Tags.{mosaic_strip_tag, sorting_strip_tag}
use Rattle.sheet.specs.Sections.{strips_of_desk}
use Rattle.sheet.specs.declared.Reading.{Reading}
use Rattle.flight_decode.specs.Pre.{NextFlightPre}

-- room in the arrays for one member more, whose content begins at c
pub record StationTimesPre (c base count : ℕ) : Type 0 where
  pub content : c + 8 < 2 ^ 64
  pub count_fits : count ≤ most_stations
  pub times_fit : base + most_stations ≤ 160

pub record MosaicStripPre (c strips stations : ℕ) : Type 0 where
  pub content : c + 10 < 2 ^ 64
  pub strip_fits : strips < most_strips
  pub stations_fit : stations ≤ most_stations

pub record StripAtPre (c d k : ℕ) : Type 0 where
  pub content : c + 8 < 2 ^ 64
  pub desk_fits : d < most_desks
  pub strip_fits : k < most_strips_of_desk

-- room for what a field of a tag adds
pub record NextMosaicPre (c tag strips stations : ℕ) : Type 0 where
  pub content : c + 10 < 2 ^ 64
  pub stations_fit : stations ≤ most_stations
  pub strip_fits : tag ≡ mosaic_strip_tag → strips < most_strips

pub record NextSortingPre (c tag desk of_desk : ℕ) : Type 0 where
  pub content : c + 8 < 2 ^ 64
  pub desk_fits : tag ≡ sorting_strip_tag → desk ≤ most_desks
  pub strip_fits : tag ≡ sorting_strip_tag → of_desk < most_strips_of_desk

pub record NextReadingPre (s : List ℕ) (st : Reading) (tag len : ℕ) : Type 0 where
  pub within : st.at + 3 + len ≤ length s
  pub few_members : st.members ≤ st.at
  pub mosaic : NextMosaicPre (st.at + 3) tag st.mosaic.strips st.mosaic.stations
  pub sorting : NextSortingPre (st.at + 3) tag (number_at s (st.at + 3) 1) (strips_of_desk st.sorting.counts (number_at s (st.at + 3) 1))
  pub flight : NextFlightPre (st.at + 3) tag st.flight.blocks

pub strip_pre : (c tag strips stations : ℕ) → NextMosaicPre c tag strips stations → tag ≡ mosaic_strip_tag → MosaicStripPre c strips stations
strip_pre c tag strips stations r e = record { content = r.content; strip_fits = r.strip_fits e; stations_fit = r.stations_fit }

-- for a desk, numbered from 1, and its strips so far, as the code reads them
pub desk_pre : (s : List ℕ) (c tag : ℕ) (counts : List ℕ) (desk d k : ℕ) → NextSortingPre c tag (number_at s c 1) (strips_of_desk counts (number_at s c 1))
    → tag ≡ sorting_strip_tag → NumberRead s c 1 desk → d ≡ desk - 1 → k ≡ strips_of_desk counts desk → StripAtPre c d k
desk_pre s c tag counts desk d k r e n ed ek =
    record { content = r.content; desk_fits = omega (arith, r.desk_fits e, n.is); strip_fits = rw (ek, n.is) (r.strip_fits e) }
