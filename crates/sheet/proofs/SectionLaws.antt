-- Each section stays sound as a field that passes its checks is added.
use Prim.Native.Nat.{ℕ, zero, suc, ◌+◌, ◌-◌, ◌*◌, ◌≤◌, ◌<◌}
use Rattle.std.specs.Prelude.{◌≡◌, Bool, true, false, cond, List, [], ◌∷◌, ◌++◌, eqb, length, get_or, set}
use Rattle.std.proofs.Math.Path.{refl, subst}
use Rattle.std.proofs.Common.{sym, ◌∙◌, true≢false}
use Rattle.std.proofs.Math.Decide.{ℕ_discrete}
use native.Mathlib.Omega.{arith}
use Rattle.std.proofs.Math.ListN.{length-set}
use Rattle.field.specs.Bytes.{number_at}
use Rattle.order.specs.Order.{Proper}
use Rattle.sheet.specs.Limits.{most_stations, most_desks, most_time, most_turn, most_weight, most_strips, most_strips_of_desk, most_blocks}
use Rattle.sheet.specs.Sections.{strips_of_desk}
use Rattle.sheet.specs.FieldTable.{mosaic_head, mosaic_strip, sorting_head, sorting_strip, turn_flight_head, flight_block, flight_window_block, values_of, content_values}
use Rattle.sheet.specs.FieldTable.{Between, Within, InRange}
use Rattle.sheet.specs.FieldTable.Range.{count, time}
use Rattle.sheet.specs.FieldTable.Value.{value}
use Rattle.sheet.specs.Contents.{weight_values, strip_from}
use Rattle.sheet.proofs.Contents.{strip_from_start, strip_bench_left, strip_time_left}
use Rattle.sheet.specs.Decode.{zeros, begun_mosaic, begun_sorting, no_mosaic, no_sorting, no_flight, with_mosaic_head, weight_of, with_station_times, with_mosaic_strip, with_sorting_head, with_strip_at}
use Rattle.sheet.specs.Decode.{with_sorting_strip, begun_flight, turn_of, with_flight_head, exact_block, window_block, with_block, with_order}
use Rattle.sheet.specs.Sound.{MosaicSound, SortingSound, FlightWithin, strips_in_all}
use Rattle.sheet.proofs.Stores.{length_zeros, zeros_at, set_here, set_there, set_most, set_least, set_ordered}
use Rattle.sheet.proofs.Passed.{first_within, others_within, before_within, behind_within}
use Rattle.sheet.specs.declared.MosaicSection.{MosaicSection}
use Rattle.sheet.specs.declared.SortingSection.{SortingSection}
use Rattle.sheet.specs.declared.Block.{Block}
use Rattle.sheet.specs.declared.FlightSection.{FlightSection}
use Rattle.sheet.specs.SectionLaws.{BlockSound}

zero_most : (n i most : ℕ) → get_or (zeros n) i 0 ≤ most
zero_most n i most = omega (arith, zeros_at n i)

-- the mosaic

mosaic_begun : (stations mount : ℕ) → stations ≤ most_stations → mount ≤ most_time
    → MosaicSound (begun_mosaic stations mount)
mosaic_begun stations mount h₁ h₂ =
    record {
      most_stations_holds = h₁;
      most_mount = h₂;
      most_strips_holds = omega arith;
      station_length = length_zeros 160;
      bench_length = length_zeros 40;
      weight_length = length_zeros 40;
      most_station = λ i. zero_most 160 i most_time;
      most_bench = λ i. zero_most 40 i most_time;
      least_bench = λ j h. absurd (omega arith);
      most_weight_holds = λ i. zero_most 40 i most_weight;
      least_weight = λ j h. absurd (omega arith);
    }

pub no_mosaic_sound : MosaicSound no_mosaic
unfolding no_mosaic
no_mosaic_sound = mosaic_begun 0 0 (omega arith) (omega arith)

pub mosaic_head_sound : (s : List ℕ) (c : ℕ) → InRange (values_of mosaic_head (number_at s c 1 ∷ number_at s (c + 1) 2 ∷ [])) → MosaicSound (with_mosaic_head s c)
unfolding mosaic_head values_of with_mosaic_head Within
mosaic_head_sound s c r = mosaic_begun _ _ (first_within _ _ r).at_most (first_within _ _ (others_within _ _ r)).at_most

module _ (s : List ℕ) (c base : ℕ) (times : List ℕ) where
  pub length_times : (k : ℕ) → length (with_station_times s c base k times) ≡ length times
  unfolding with_station_times
  length_times zero = refl
  length_times (suc k) = simp length-set (length_times k)

  pub times_most : ((i : ℕ) → get_or times i 0 ≤ most_time) → (k : ℕ) → ((j : ℕ) → j < k → number_at s (c + 2 * j) 2 ≤ most_time)
      → (i : ℕ) → get_or (with_station_times s c base k times) i 0 ≤ most_time
  unfolding with_station_times
  times_most all zero h = all
  times_most all (suc k) h =
      set_most (with_station_times s c base k times) most_time (base + k) (number_at s (c + 2 * k) 2) (times_most all k (λ j l. h j (omega arith)))
      (h k (omega arith))

-- of a strip whose values are within their ranges: each station time, and the bench time
module _ (s : List ℕ) (c : ℕ) where
  strip_time : (n k : ℕ) → InRange (strip_from s c k n) → (j : ℕ) → k ≤ j → j < k + n → number_at s (c + 2 * j) 2 ≤ most_time
  unfolding Within
  strip_time zero k q j h l = absurd (omega arith)
  strip_time (suc n) k q j h l =
      let r = subst InRange (strip_time_left s c k n) q in
      here r (strip_time n (k + 1) (others_within _ _ r) j) (ℕ_discrete j k)
    where
      here : InRange (value (time most_time) (number_at s (c + 2 * k) 2) ∷ strip_from s c (k + 1) n)
          → (k + 1 ≤ j → j < k + 1 + n → number_at s (c + 2 * j) 2 ≤ most_time) → Dec (j ≡ k) → number_at s (c + 2 * j) 2 ≤ most_time
      here r later (yes e) = rw e (first_within _ _ r).at_most
      here r later (no e) = later (omega arith) (omega arith)

  strip_bench : (n k b : ℕ) → k + n ≡ b → InRange (strip_from s c k n) → Between 1 (number_at s (c + 2 * b) 2) most_time
  unfolding Within
  strip_bench zero k b e r = rw (bench_at e) (first_within _ _ (subst InRange (strip_bench_left s c k) r))
    where
      bench_at : k + 0 ≡ b → b ≡ k
      bench_at e = omega arith
  strip_bench (suc n) k b e r = strip_bench n (k + 1) b (omega arith) (others_within _ _ (subst InRange (strip_time_left s c k n) r))

-- a weight that is written is within its range, and an absent one is 1
weight_within : (s : List ℕ) (c len others : ℕ) → InRange (weight_values s c len others) → Between 1 (weight_of s c len others) most_weight
unfolding weight_values weight_of Within
weight_within s c len others r = go (eqb len others) r
  where
    go : (b : Bool) → InRange (cond b [] (value (count 1 most_weight) (number_at s (c + others) 1) ∷ []))
        → Between 1 (cond b 1 (number_at s (c + others) 1)) most_weight
    go true r = record { at_least = omega arith; at_most = omega arith }
    go false r = first_within _ _ r

pub mosaic_strip_sound : (s : List ℕ) (c len : ℕ) (m : MosaicSection) → MosaicSound m → m.strips < most_strips
    → InRange (content_values s c (mosaic_strip m.stations) ++ weight_values s c len (2 * m.stations + 2)) → MosaicSound (with_mosaic_strip s c len m)
unfolding with_mosaic_strip
mosaic_strip_sound s c len m h room q =
    let r = subst InRange (strip_from_start s c m.stations) (before_within (content_values s c (mosaic_strip m.stations)) _ q) in
    let b = strip_bench s c m.stations 0 m.stations (omega arith) r in
    let w = weight_within s c len (2 * m.stations + 2) (behind_within (content_values s c (mosaic_strip m.stations)) _ q) in
    let long = h.bench_length in
    let wide = h.weight_length in
    record {
      most_stations_holds = h.most_stations_holds;
      most_mount = h.most_mount;
      most_strips_holds = omega arith;
      station_length = length_times s c (4 * m.strips) m.station m.stations ∙ h.station_length;
      bench_length = simp length-set h.bench_length;
      weight_length = simp length-set h.weight_length;
      most_station =
          times_most s c (4 * m.strips) m.station h.most_station m.stations (λ j l. strip_time s c m.stations 0 r j (omega arith) (omega arith));
      most_bench = set_most m.bench most_time m.strips _ h.most_bench b.at_most;
      least_bench = set_least m.bench m.strips _ h.least_bench b.at_least (omega arith);
      most_weight_holds = set_most m.weight most_weight m.strips _ h.most_weight_holds w.at_most;
      least_weight = set_least m.weight m.strips _ h.least_weight w.at_least (omega arith);
    }

-- the sorting

sorting_begun : (desks : ℕ) → desks ≤ most_desks → SortingSound (begun_sorting desks)
sorting_begun desks h =
    record {
      most_desks_holds = h;
      counts_length = length_zeros 3;
      scan_length = length_zeros 18;
      desk_length = length_zeros 18;
      weight_length = length_zeros 18;
      most_strips_holds = λ d. zero_most 3 d most_strips_of_desk;
      no_desk = λ d l. zeros_at 3 d;
      most_scan = λ i. zero_most 18 i most_time;
      most_desk = λ i. zero_most 18 i most_time;
      least_scan = λ d k l. absurd (omega (arith, zeros_at 3 d));
      least_desk = λ d k l. absurd (omega (arith, zeros_at 3 d));
      most_weight_holds = λ i. zero_most 18 i most_weight;
      least_weight = λ d k l. absurd (omega (arith, zeros_at 3 d));
    }

pub no_sorting_sound : SortingSound no_sorting
unfolding no_sorting
no_sorting_sound = sorting_begun 0 (omega arith)

pub sorting_head_sound : (s : List ℕ) (c : ℕ) → InRange (values_of sorting_head (number_at s c 1 ∷ [])) → SortingSound (with_sorting_head s c)
unfolding sorting_head values_of with_sorting_head Within
sorting_head_sound s c r = sorting_begun _ (first_within _ _ r).at_most

-- strip k of desk d is stored with a value at 6 d + k: every strip of every desk has a value of 1 or more
module _ (counts times : List ℕ) (d k v : ℕ) (here : get_or counts d 0 ≡ k) (within : d < length counts)
    (few : (d' : ℕ) → get_or counts d' 0 ≤ most_strips_of_desk) (room : k < most_strips_of_desk) (slot : 6 * d + k < length times)
    (least : (d' k' : ℕ) → k' < get_or counts d' 0 → 1 ≤ get_or times (6 * d' + k') 0) (fits : 1 ≤ v) where
  least_same : (k' : ℕ) → k' < k + 1 → Dec (k' ≡ k) → 1 ≤ get_or (set times (6 * d + k) v) (6 * d + k') 0
  least_same k' h (yes e) = rw (set_here times (6 * d + k) (6 * d + k') v slot (omega arith)) fits
  least_same k' h (no e) = rw (set_there times (6 * d + k) (6 * d + k') v (λ q. e (omega arith))) (least d k' (omega arith))

  least_strip : (d' k' : ℕ) → k' < get_or (set counts d (k + 1)) d' 0 → Dec (d' ≡ d) → 1 ≤ get_or (set times (6 * d + k) v) (6 * d' + k') 0
  least_strip d' k' h (yes e) =
      let l : k' < k + 1 = rw (set_here counts d d' (k + 1) within e) at h in
      ap_desk e (least_same k' l (ℕ_discrete k' k))
    where
      ap_desk : d' ≡ d → 1 ≤ get_or (set times (6 * d + k) v) (6 * d + k') 0 → 1 ≤ get_or (set times (6 * d + k) v) (6 * d' + k') 0
      ap_desk e q = rw e q
  least_strip d' k' h (no e) =
      let l : k' < get_or counts d' 0 = rw (set_there counts d d' (k + 1) e) at h in
      let f = few d' in
      rw (set_there times (6 * d + k) (6 * d' + k') v (λ q. e (omega arith))) (least d' k' l)

pub strip_at_sound : (s : List ℕ) (c len : ℕ) (t : SortingSection) (d k : ℕ) → SortingSound t → d < t.desks → get_or t.counts d 0 ≡ k
    → k < most_strips_of_desk → Between 1 (number_at s (c + 1) 2) most_time → Between 1 (number_at s (c + 3) 2) most_time → Between 1 (weight_of s c len 5) most_weight
    → SortingSound (with_strip_at s c len t d k)
unfolding with_strip_at
strip_at_sound s c len t d k h hd here room b₁ b₂ b₃ =
    let md = h.most_desks_holds in
    let lc = h.counts_length in
    let ls = h.scan_length in
    let ld = h.desk_length in
    let lw = h.weight_length in
    record {
      most_desks_holds = h.most_desks_holds;
      counts_length = simp length-set h.counts_length;
      scan_length = simp length-set h.scan_length;
      desk_length = simp length-set h.desk_length;
      weight_length = simp length-set h.weight_length;
      most_strips_holds = set_most t.counts most_strips_of_desk d (k + 1) h.most_strips_holds (omega arith);
      no_desk = λ d' l. set_there t.counts d d' (k + 1) (λ q. absurd (omega arith)) ∙ h.no_desk d' l;
      most_scan = set_most t.scan most_time (6 * d + k) _ h.most_scan b₁.at_most;
      most_desk = set_most t.desk most_time (6 * d + k) _ h.most_desk b₂.at_most;
      least_scan =
          λ d' k' l. least_strip t.counts t.scan d k _ here (omega arith) h.most_strips_holds room (omega arith) h.least_scan b₁.at_least d' k' l (ℕ_discrete d' d);
      least_desk =
          λ d' k' l. least_strip t.counts t.desk d k _ here (omega arith) h.most_strips_holds room (omega arith) h.least_desk b₂.at_least d' k' l (ℕ_discrete d' d);
      most_weight_holds = set_most t.weight most_weight (6 * d + k) _ h.most_weight_holds b₃.at_most;
      least_weight =
          λ d' k' l. least_strip t.counts t.weight d k _ here (omega arith) h.most_strips_holds room (omega arith) h.least_weight b₃.at_least d' k' l
          (ℕ_discrete d' d);
    }

pub sorting_strip_sound : (s : List ℕ) (c len : ℕ) (t : SortingSection) → SortingSound t
    → InRange (values_of (sorting_strip t.desks) (number_at s c 1 ∷ number_at s (c + 1) 2 ∷ number_at s (c + 3) 2 ∷ []) ++ weight_values s c len 5)
    → strips_of_desk t.counts (number_at s c 1) < most_strips_of_desk → SortingSound (with_sorting_strip s c len t)
unfolding sorting_strip values_of with_sorting_strip strips_of_desk Within
sorting_strip_sound s c len t h r room =
    let b = first_within _ _ r in
    let times = others_within _ _ r in
    let lo : 1 ≤ number_at s c 1 = b.at_least in
    let hi : number_at s c 1 ≤ t.desks = b.at_most in
    let desk_on = others_within _ _ times in
    strip_at_sound s c len t (number_at s c 1 - 1) _ h (omega arith) refl room (first_within _ _ times) (first_within _ _ desk_on)
    (weight_within s c len 5 (others_within _ _ desk_on))

-- and there is one strip more in all
desk_cases : (l : List ℕ) (d k : ℕ) → length l ≡ 3 → d < 3 → get_or l d 0 ≡ k
    → get_or (set l d (k + 1)) 0 0 + get_or (set l d (k + 1)) 1 0 + get_or (set l d (k + 1)) 2 0 ≡ get_or l 0 0 + get_or l 1 0 + get_or l 2 0 + 1
desk_cases l zero k long h e =
    omega (arith, set_here l 0 0 (k + 1) (omega arith) refl, set_there l 0 1 (k + 1) (λ q. omega arith), set_there l 0 2 (k + 1) (λ q. omega arith))
desk_cases l (suc zero) k long h e =
    omega (arith, set_there l 1 0 (k + 1) (λ q. omega arith), set_here l 1 1 (k + 1) (omega arith) refl, set_there l 1 2 (k + 1) (λ q. omega arith))
desk_cases l (suc (suc zero)) k long h e =
    omega (arith, set_there l 2 0 (k + 1) (λ q. omega arith), set_there l 2 1 (k + 1) (λ q. omega arith), set_here l 2 2 (k + 1) (omega arith) refl)
desk_cases l (suc (suc (suc d))) k long h e = absurd (omega arith)

pub sorting_strip_more : (s : List ℕ) (c len : ℕ) (t : SortingSection) → SortingSound t
    → InRange (values_of (sorting_strip t.desks) (number_at s c 1 ∷ number_at s (c + 1) 2 ∷ number_at s (c + 3) 2 ∷ []) ++ weight_values s c len 5)
    → strips_in_all (with_sorting_strip s c len t) ≡ strips_in_all t + 1
unfolding sorting_strip values_of with_sorting_strip with_strip_at strips_of_desk strips_in_all Within
sorting_strip_more s c len t h r =
    let b = first_within _ _ r in
    let lo : 1 ≤ number_at s c 1 = b.at_least in
    let hi : number_at s c 1 ≤ t.desks = b.at_most in
    let d = h.most_desks_holds in
    desk_cases t.counts (number_at s c 1 - 1) _ h.counts_length (omega arith) refl

-- the flight

flight_begun : (turn place : ℕ) → turn ≤ most_turn → FlightWithin most_blocks (begun_flight turn place)
flight_begun turn place h =
    record {
      most_blocks_holds = omega arith;
      most_turn_holds = h;
      first_length = length_zeros 32;
      shortest_length = length_zeros 32;
      longest_length = length_zeros 32;
      second_length = length_zeros 32;
      most_first = λ i. zero_most 32 i most_time;
      most_delay = λ i. zero_most 32 i most_time;
      most_second = λ i. zero_most 32 i most_time;
      least_first = λ i h. absurd (omega arith);
      least_second = λ i h. absurd (omega arith);
      window = λ i. zero_most 32 i _;
      given = λ e. absurd (true≢false (sym e));
      free = λ e. omega arith;
    }

pub no_flight_sound : FlightWithin most_blocks no_flight
unfolding no_flight
no_flight_sound = flight_begun 0 0 (omega arith)

-- the turn of a head whose values are within their ranges
turn_within : (s : List ℕ) (c len : ℕ) → InRange (cond (eqb len 0) [] (values_of turn_flight_head (number_at s c 2 ∷ []))) → turn_of s c len ≤ most_turn
unfolding turn_of turn_flight_head values_of Within
turn_within s c len r = go (eqb len 0) refl r
  where
    go : (b : Bool) → eqb len 0 ≡ b → InRange (cond b [] (value (time most_turn) (number_at s c 2) ∷ [])) → turn_of s c len ≤ most_turn
    go true e q = rw e (omega arith)
    go false e q = rw e (first_within _ _ q).at_most

pub flight_head_sound : (s : List ℕ) (c len at : ℕ) → InRange (cond (eqb len 0) [] (values_of turn_flight_head (number_at s c 2 ∷ [])))
    → FlightWithin most_blocks (with_flight_head s c len at)
unfolding with_flight_head
flight_head_sound s c len at r = flight_begun (turn_of s c len) _ (turn_within s c len r)

pub exact_block_sound : (s : List ℕ) (c : ℕ) → InRange (values_of flight_block (number_at s c 2 ∷ number_at s (c + 2) 2 ∷ number_at s (c + 4) 2 ∷ []))
    → BlockSound (exact_block s c)
unfolding flight_block values_of exact_block Within
exact_block_sound s c r =
    let l = others_within _ _ r in
    record {
      first = first_within _ _ r;
      most_delay = (first_within _ _ l).at_most;
      window = omega arith;
      second = first_within _ _ (others_within _ _ l);
    }

pub window_block_sound : (s : List ℕ) (c : ℕ)
    → InRange (values_of flight_window_block (number_at s c 2 ∷ number_at s (c + 2) 2 ∷ number_at s (c + 4) 2 ∷ number_at s (c + 6) 2 ∷ []))
    → number_at s (c + 2) 2 ≤ number_at s (c + 4) 2 → BlockSound (window_block s c)
unfolding flight_window_block values_of window_block Within
window_block_sound s c r h =
    let l = others_within _ _ (others_within _ _ r) in
    record {
      first = first_within _ _ r;
      most_delay = (first_within _ _ l).at_most;
      window = h;
      second = first_within _ _ (others_within _ _ l);
    }

pub block_sound : (b : Block) (f : FlightSection) → FlightWithin most_blocks f → f.ordered ≡ false → f.blocks < most_blocks → BlockSound b
    → FlightWithin most_blocks (with_block b f)
unfolding with_block
block_sound b f h plain room r =
    let la = h.first_length in
    let lb = h.second_length in
    let ll = h.longest_length in
    record {
      most_blocks_holds = omega arith;
      most_turn_holds = h.most_turn_holds;
      first_length = simp length-set h.first_length;
      shortest_length = simp length-set h.shortest_length;
      longest_length = simp length-set h.longest_length;
      second_length = simp length-set h.second_length;
      most_first = set_most f.first most_time f.blocks _ h.most_first r.first.at_most;
      most_delay = set_most f.longest most_time f.blocks _ h.most_delay r.most_delay;
      most_second = set_most f.second most_time f.blocks _ h.most_second r.second.at_most;
      least_first = set_least f.first f.blocks _ h.least_first r.first.at_least (omega arith);
      least_second = set_least f.second f.blocks _ h.least_second r.second.at_least (omega arith);
      window = set_ordered f.shortest f.longest f.blocks _ _ h.window r.window (omega arith);
      given = λ e. absurd (true≢false (sym e ∙ plain));
      free = λ e. omega arith;
    }

pub order_sound : (s : List ℕ) (c at : ℕ) (f : FlightSection) → FlightWithin most_blocks f → Proper f.blocks (number_at s c 8)
    → FlightWithin most_blocks (with_order s c at f)
unfolding with_order
order_sound s c at f h e =
    record {
      most_blocks_holds = h.most_blocks_holds;
      most_turn_holds = h.most_turn_holds;
      first_length = h.first_length;
      shortest_length = h.shortest_length;
      longest_length = h.longest_length;
      second_length = h.second_length;
      most_first = h.most_first;
      most_delay = h.most_delay;
      most_second = h.most_second;
      least_first = h.least_first;
      least_second = h.least_second;
      window = h.window;
      given = λ _. e;
      free = λ _. h.most_blocks_holds;
    }
