-- The sorting section as one list of numbers, which the search reads: strips of each desk, then scan times, desk times and weights, six to a desk. Desks and
-- strips are counted from 0.
use Rattle.std.specs.Prelude.{ℕ, ◌+◌, ◌*◌, ◌^◌, ◌≤◌, ◌<◌, ◌≡◌, List, length, get_or}
use Rattle.std.proofs.Common.{subst, arith}

-- the scan time, the desk time and the weight of strip i of desk d; the number of strips of desk d stands at d
abbrev pub scan_of : List ℕ → ℕ → ℕ → ℕ
scan_of J d i = get_or J (3 + (d * 6 + i)) 0

abbrev pub desk_of : List ℕ → ℕ → ℕ → ℕ
desk_of J d i = get_or J (3 + (d * 6 + i) + 18) 0

abbrev pub weight_of : List ℕ → ℕ → ℕ → ℕ
weight_of J d i = get_or J (3 + (d * 6 + i) + 36) 0

abbrev pub instance_length : ℕ
instance_length = 57

-- the largest number of 64 bits
abbrev pub largest : ℕ
largest = 18_446_744_073_709_551_615

-- What keeps every sum of the search within 64 bits: no time above `time_cap`, no weight above `weight_cap`, at most 6 strips to each of 3 desks. The other caps
-- follow from these four. src/caps.rt states for the code those that it uses.
abbrev pub time_cap : ℕ
time_cap = 2 ^ 20

abbrev pub weight_cap : ℕ
weight_cap = 2 ^ 10

abbrev pub desks_cap : ℕ
desks_cap = 3

abbrev pub desk_strips_cap : ℕ
desk_strips_cap = 6

-- the strips of all desks
abbrev pub strips_cap : ℕ
strips_cap = desks_cap * desk_strips_cap

-- the scanner's time: all scan times
abbrev pub scanner_cap : ℕ
scanner_cap = strips_cap * time_cap

-- what one strip adds to a desk's free time: its scan time and its desk time
abbrev pub strip_span : ℕ
strip_span = 2 * time_cap

-- a desk's free time
abbrev pub free_cap : ℕ
free_cap = strips_cap * strip_span

-- what one strip adds to the cost
abbrev pub strip_cost : ℕ
strip_cost = weight_cap * free_cap

-- the cost
abbrev pub cost_cap : ℕ
cost_cap = strips_cap * strip_cost

-- the number of a scanner list: a digit in base 4 for each strip
abbrev pub path_cap : ℕ
path_cap = 4 ^ strips_cap

-- what the search asks of such a list
pub record Instance (J : List ℕ) : Type 0 where
  pub size : length J ≡ instance_length
  pub few : (d : ℕ) → d < desks_cap → get_or J d 0 ≤ desk_strips_cap
  pub small : (k : ℕ) → get_or J (3 + k) 0 ≤ time_cap
  pub light : (k : ℕ) → get_or J (3 + k + 36) 0 ≤ weight_cap

pub desk_capped : {J : List ℕ} → Instance J → (d i : ℕ) → desk_of J d i ≤ time_cap
desk_capped {J} j d i = subst (λ (k : ℕ). get_or J k 0 ≤ time_cap) there (j.small (18 + (d * 6 + i)))
  where
    there : 3 + (18 + (d * 6 + i)) ≡ 3 + (d * 6 + i) + 18
    there = omega arith
