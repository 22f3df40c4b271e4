-- Laws of decoding: what the code builds from the values it read is what the definitions say.
use Rattle.std.specs.Prelude.{ℕ, suc, ◌+◌, ◌-◌, ◌*◌, ◌≤◌, ◌<◌, ◌≡◌, List, length, set}
use Rattle.std.proofs.Math.Path.{refl}
use Rattle.std.proofs.Common.{sym, ap, ◌∙◌, add-one, arith, length-set, eq-eqb, ne_eqb}
use Rattle.field.specs.Bytes.{number_at, NumberRead}
use Rattle.sheet.specs.Decode.{begun_mosaic, begun_sorting, no_mosaic, no_sorting, no_flight, start_reading, with_mosaic_head, weight_of, with_station_times, with_mosaic_strip, with_sorting_head}
use Rattle.sheet.specs.Decode.{with_strip_at, with_sorting_strip, next_mosaic, next_sorting, next_flight, next_section, next_head, next_members, next_reading}
use Rattle.sheet.specs.Sections.{strips_of_desk}
use Rattle.sheet.specs.Tags.{sorting_strip_tag}
use Rattle.sheet.specs.Read.{refused}
use Rattle.sheet.specs.declared.MosaicSection.{MosaicSection}
use Rattle.sheet.specs.declared.SortingSection.{SortingSection}
use Rattle.sheet.specs.declared.FlightSection.{FlightSection}
use Rattle.sheet.specs.declared.Reading.{Reading}
use Rattle.sheet.specs.declared.Sheet.{Sheet}

module _ (m : MosaicSection) (t : SortingSection) (f : FlightSection) (em : m ≡ no_mosaic) (et : t ≡ no_sorting) (ef : f ≡ no_flight) where
  pub start_is : ◌≡◌ {A = Reading} (record { at = 0; section = 0; head = 0; members = 0; mosaic = m; sorting = t; flight = f }) start_reading
  unfolding start_reading
  start_is = rw (em, et, ef)

  pub refused_is : (number place : ℕ) → ◌≡◌ {A = Sheet} (record { number = number; place = place; mosaic = m; sorting = t; flight = f }) (refused number place)
  unfolding refused
  refused_is number place = rw (em, et, ef)

pub mosaic_head_is : (s : List ℕ) (c m mount : ℕ) → NumberRead s c 1 m → NumberRead s (c + 1) 2 mount
    → begun_mosaic m mount ≡ with_mosaic_head s c
unfolding with_mosaic_head
mosaic_head_is s c m mount n₁ n₂ = rw (n₁.is, n₂.is)

-- the same built on a mosaic without a strip
pub mosaic_head_on : (s : List ℕ) (c stations mount : ℕ) (none : MosaicSection) → none ≡ no_mosaic → NumberRead s c 1 stations → NumberRead s (c + 1) 2 mount
    → ◌≡◌ {A = MosaicSection}
    (record { stations = stations; mount = mount; strips = none.strips; station = none.station; bench = none.bench; weight = none.weight })
    (with_mosaic_head s c)
unfolding no_mosaic with_mosaic_head
mosaic_head_on s c stations mount none e n₁ n₂ = rw (e, n₁.is, n₂.is)

pub sorting_head_is : (s : List ℕ) (c m : ℕ) → NumberRead s c 1 m
    → begun_sorting m ≡ with_sorting_head s c
unfolding with_sorting_head
sorting_head_is s c m n = rw n.is

-- the same built on a sorting without a strip
pub sorting_head_on : (s : List ℕ) (c desks : ℕ) (none : SortingSection) → none ≡ no_sorting → NumberRead s c 1 desks
    → ◌≡◌ {A = SortingSection}
    (record { desks = desks; counts = none.counts; scan = none.scan; desk = none.desk; weight = none.weight })
    (with_sorting_head s c)
unfolding no_sorting with_sorting_head
sorting_head_on s c desks none e n = rw (e, n.is)

-- the times of the first k stations of a strip are stored
pub record TimesStored (s : List ℕ) (c base count : ℕ) (times : List ℕ) (k : ℕ) (out : List ℕ) : Type 0 where
  pub within : k ≤ count
  pub long : length out ≡ length times
  pub same : out ≡ with_station_times s c base k times

times_suc : (s : List ℕ) (c base k : ℕ) (times : List ℕ)
    → with_station_times s c base (suc k) times ≡ set (with_station_times s c base k times) (base + k) (number_at s (c + 2 * k) 2)
unfolding with_station_times
times_suc s c base k times = refl

module _ (s : List ℕ) (c base count : ℕ) (times : List ℕ) where
  pub stored_none : TimesStored s c base count times 0 times
  unfolding with_station_times
  stored_none = record { within = omega arith; long = refl; same = refl }

  pub stored_more : (k value : ℕ) (out : List ℕ) → TimesStored s c base count times k out → k < count → NumberRead s (c + 2 * k) 2 value
      → TimesStored s c base count times (k + 1) (set out (base + k) value)
  stored_more k value out t h n =
      record { within = omega arith; long = length-set out (base + k) value ∙ t.long; same = same }
    where
      same : set out (base + k) value ≡ with_station_times s c base (k + 1) times
      same = rw (t.same, n.is) (sym (ap (λ j. with_station_times s c base j times) (add-one k) ∙ times_suc s c base k times))

  pub stored_all : (k : ℕ) (out : List ℕ) → TimesStored s c base count times k out → count ≤ k → out ≡ with_station_times s c base count times
  stored_all k out t h = t.same ∙ ap (λ j. with_station_times s c base j times) all
    where
      all : k ≡ count
      all = let w = t.within in omega arith

-- a weight: absent, or the last byte
module _ (s : List ℕ) (c len others : ℕ) where
  pub weight_absent : len ≡ others → 1 ≡ weight_of s c len others
  unfolding weight_of
  weight_absent e = rw (eq-eqb len others e)

  pub weight_there : (w : ℕ) → (len ≡ others → ⊥) → NumberRead s (c + others) 1 w → w ≡ weight_of s c len others
  unfolding weight_of
  weight_there w n read = rw (ne_eqb len others n) read.is

pub mosaic_strip_is : (s : List ℕ) (c len : ℕ) (m : MosaicSection) (station : List ℕ) (value weight : ℕ)
    → station ≡ with_station_times s c (4 * m.strips) m.stations m.station → NumberRead s (c + 2 * m.stations) 2 value
    → weight ≡ weight_of s c len (2 * m.stations + 2)
    → ◌≡◌ {A = MosaicSection}
    (record {
      stations = m.stations;
      mount = m.mount;
      strips = m.strips + 1;
      station = station;
      bench = set m.bench m.strips value;
      weight = set m.weight m.strips weight;
    })
    (with_mosaic_strip s c len m)
unfolding with_mosaic_strip
mosaic_strip_is s c len m station value weight e n w = rw (e, n.is, w)

pub strip_at_is : (s : List ℕ) (c len : ℕ) (t : SortingSection) (d k scan desk weight : ℕ) → NumberRead s (c + 1) 2 scan → NumberRead s (c + 3) 2 desk
    → weight ≡ weight_of s c len 5
    → ◌≡◌ {A = SortingSection}
    (record {
      desks = t.desks;
      counts = set t.counts d (k + 1);
      scan = set t.scan (6 * d + k) scan;
      desk = set t.desk (6 * d + k) desk;
      weight = set t.weight (6 * d + k) weight;
    })
    (with_strip_at s c len t d k)
unfolding with_strip_at
strip_at_is s c len t d k scan desk weight n₁ n₂ w = rw (n₁.is, n₂.is, w)

pub sorting_strip_is : (s : List ℕ) (c tag len : ℕ) (t r : SortingSection) (desk d k : ℕ) → tag ≡ sorting_strip_tag → NumberRead s c 1 desk → d ≡ desk - 1
    → k ≡ strips_of_desk t.counts desk → r ≡ with_strip_at s c len t d k → r ≡ next_sorting s c tag len t
unfolding next_sorting with_sorting_strip
sorting_strip_is s c tag len t r desk d k e n ed ek h = rw (e, ← n.is, ← ed, ← ek) h

pub reading_is : (s : List ℕ) (st : Reading) (tag len section head members : ℕ) (m : MosaicSection) (t : SortingSection) (f : FlightSection)
    → section ≡ next_section tag st.section → head ≡ next_head tag st.head st.at → members ≡ next_members tag st.members
    → m ≡ next_mosaic s (st.at + 3) tag len st.mosaic → t ≡ next_sorting s (st.at + 3) tag len st.sorting
    → f ≡ next_flight s (st.at + 3) tag len st.at st.flight
    → ◌≡◌ {A = Reading} (record { at = st.at + 3 + len; section = section; head = head; members = members; mosaic = m; sorting = t; flight = f })
    (next_reading s st tag len)
unfolding next_reading
reading_is s st tag len section head members m t f e₁ e₂ e₃ e₄ e₅ e₆ = rw (e₁, e₂, e₃, e₄, e₅, e₆)
