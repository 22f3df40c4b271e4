-- The second lower bound: the cost so far, and the rest as if every desk were always free. What the scanner has done is known from the counts alone,
-- so that rest is a table over count vectors. An entry is no more than a strip's share and the entry behind that strip, which is all the bound needs.
use Rattle.std.specs.Prelude.{cond, List, leb, get_or, set}
use Prim.Native.Nat.{ℕ, zero, suc, ◌+◌, ◌-◌, ◌*◌, ◌/◌, ◌%◌, ◌≤◌, ◌<◌, min}
use Rattle.interleaving.specs.declared.State.{State}
use Rattle.interleaving.specs.Instance.{scan_of, desk_of, weight_of, weight_cap, scanner_cap, strip_span, cost_cap}
use Rattle.interleaving.specs.Consistent.{scan_sum}
use Rattle.sorting_bounds.specs.Layout.{count_key, labels_length}

-- an entry, at most: what a whole list costs at most
abbrev pub entry_cap : ℕ
entry_cap = cost_cap

-- the share of one strip in an entry, at most
abbrev pub share_cap : ℕ
share_cap = weight_cap * (scanner_cap + strip_span)

-- the counts of the three desks in the number of a count vector
abbrev pub first_count : ℕ → ℕ
first_count k = k / 49

abbrev pub second_count : ℕ → ℕ
second_count k = k / 7 % 7

abbrev pub third_count : ℕ → ℕ
third_count k = k % 7

-- the time of the scanner at a count vector
unfoldable pub time_at : List ℕ → ℕ → ℕ
time_at J k = scan_sum J 0 (first_count k) + scan_sum J 1 (second_count k) + scan_sum J 2 (third_count k)

-- the share of strip i of desk d that is scanned from t on and done at once
unfoldable pub share : List ℕ → ℕ → ℕ → ℕ → ℕ
share J t d i = weight_of J d i * (t + scan_of J d i + desk_of J d i)

abbrev pub entry_at : List ℕ → ℕ → ℕ
entry_at M k = get_or M (labels_length + k) 0

-- the rest that starts with strip i of desk d, and goes on with the rest behind it; the cap where there is no such strip
unfoldable pub through_of : List ℕ → ℕ → ℕ → ℕ → ℕ → ℕ
through_of J t d i rest = cond (leb (get_or J d 0) i) entry_cap (min (share J t d i + rest) entry_cap)

-- the least rest at the count vector k, from the entries behind it
unfoldable pub entry_of : List ℕ → List ℕ → ℕ → ℕ
entry_of J M k =
    cond (leb (get_or J 0 0 + get_or J 1 0 + get_or J 2 0) (first_count k + second_count k + third_count k)) 0
    (min (min (through_of J (time_at J k) 0 (first_count k) (entry_at M (k + 49))) (through_of J (time_at J k) 1 (second_count k) (entry_at M (k + 7)))) (through_of J (time_at J k) 2 (third_count k) (entry_at M (k + 1))))

-- the table with its last n entries written, from the last count vector, 342, down
unfoldable pub filled_from : List ℕ → List ℕ → ℕ → List ℕ
filled_from J M zero = M
filled_from J M (suc n) = set (filled_from J M n) (labels_length + (342 - n)) (entry_of J (filled_from J M n) (342 - n))

-- what holds of a number v as the entry at the count vector k
pub record Entry (J M : List ℕ) (k v : ℕ) : Type 0 where
  pub capped : v ≤ entry_cap
  pub first : first_count k < get_or J 0 0 → v ≤ share J (time_at J k) 0 (first_count k) + entry_at M (k + 49)
  pub second : second_count k < get_or J 1 0 → v ≤ share J (time_at J k) 1 (second_count k) + entry_at M (k + 7)
  pub third : third_count k < get_or J 2 0 → v ≤ share J (time_at J k) 2 (third_count k) + entry_at M (k + 1)
  pub full : get_or J 0 0 ≤ first_count k → get_or J 1 0 ≤ second_count k → get_or J 2 0 ≤ third_count k → v ≤ 0

-- the entries from k on
unfoldable pub EntriesFrom : List ℕ → List ℕ → ℕ → Type 0
EntriesFrom J M k = (x : ℕ) → k ≤ x → x < 343 → Entry J M x (entry_at M x)

abbrev pub scanner_bound : List ℕ → State → ℕ
scanner_bound M s = s.cost + entry_at M (count_key s)
