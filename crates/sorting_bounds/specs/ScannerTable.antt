-- How the scanner's table is filled: an entry from those behind it, from the last count vector down.
use Rattle.std.specs.Prelude.{◌≡◌, List, ℕ, ◌+◌, ◌-◌, ◌*◌, ◌≤◌, ◌<◌, length, get_or}
use Rattle.sheet.specs.Limits.{table_length}
use Rattle.interleaving.specs.declared.State.{State}
use Rattle.interleaving.specs.Instance.{Instance, time_cap, desk_strips_cap, scanner_cap}
use Rattle.interleaving.specs.Consistent.{Consistent, scan_sum}
use Rattle.sorting_bounds.specs.Layout.{count_key, labels_length, search_length}
use Rattle.sorting_bounds.specs.ScannerBound.{entry_cap, filled_from}
use Rattle.sorting_bounds.specs.ScannerBound.{share_cap, EntriesFrom}

-- scan_sum
pub record ScanSum (J : List ℕ) (d n r : ℕ) : Type 0 where
  pub is : r ≡ scan_sum J d n
  pub small : r ≤ desk_strips_cap * time_cap

-- the loop of scan_sum
pub record SumSoFar (J : List ℕ) (d n sum i : ℕ) : Type 0 where
  pub size : length J ≡ 57
  pub desk : d < 3
  pub most : n ≤ 6
  pub within : i ≤ n
  pub is : sum ≡ scan_sum J d i
  pub small : sum ≤ i * time_cap

-- through: strip i of desk d, scanned from a time on, with the rest behind it
pub record ThroughPre (J : List ℕ) (t d i rest : ℕ) : Type 0 where
  pub jobs : Instance J
  pub desk : d < 3
  pub most : i ≤ 6
  pub time : t ≤ scanner_cap
  pub next : i < get_or J d 0 → rest ≤ entry_cap

-- the sums of a strip of scan time x, desk time y and weight w
pub record StripSums (time x y w : ℕ) : Type 0 where
  pub scan : x ≤ time_cap
  pub desk : y ≤ time_cap
  pub weighted : w * (time + x + y) ≤ share_cap

-- scanner_entry
pub record ScannerEntryPre (J M : List ℕ) (k : ℕ) : Type 0 where
  pub jobs : Instance J
  pub key : k < 343
  pub size : length M ≡ table_length
  pub behind : EntriesFrom J M (k + 1)
  pub first_few : get_or J 0 0 ≤ 6
  pub second_few : get_or J 1 0 ≤ 6
  pub third_few : get_or J 2 0 ≤ 6

-- fill_scanner_table: the entries from k on are there, and the numbers before and behind all entries are as they were
pub record Filled (J M₀ M : List ℕ) (k : ℕ) : Type 0 where
  pub within : k ≤ 343
  pub size : length M ≡ table_length
  pub entries : EntriesFrom J M k
  pub labels : (i : ℕ) → i < labels_length → get_or M i 0 ≡ get_or M₀ i 0
  pub rest : (i : ℕ) → search_length ≤ i → get_or M i 0 ≡ get_or M₀ i 0

-- the loop of fill_scanner_table
pub record Filling (J M₀ M : List ℕ) (k : ℕ) : Type 0 where
  pub start : length M₀ ≡ table_length
  pub size : length M ≡ table_length
  pub within : k ≤ 343
  pub is : M ≡ filled_from J M₀ (343 - k)

-- scanner_bound
pub record ScannerBoundPre (J : List ℕ) (s : State) (k : ℕ) (M : List ℕ) : Type 0 where
  pub state : Consistent J s
  pub key : k ≡ count_key s
  pub small : k < 343
  pub size : length M ≡ table_length
  pub entries : EntriesFrom J M 0
