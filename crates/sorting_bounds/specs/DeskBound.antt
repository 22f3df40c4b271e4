-- The first lower bound: the cost so far, and the rest of each desk as if the scanner served that desk alone. A step never lowers it.
use Rattle.std.specs.Prelude.{◌≡◌, List, length}
use Prim.Native.Nat.{ℕ, zero, suc, ◌+◌, ◌-◌, ◌*◌, ◌≤◌, max}
use Rattle.std.proofs.Math.ListN.{get_or}
use Rattle.interleaving.specs.declared.State.{State}
use Rattle.interleaving.specs.Instance.{scan_of, desk_of, weight_of, instance_length, time_cap, weight_cap, scanner_cap, strip_span}
use Rattle.interleaving.specs.Instance.{desks_cap, desk_strips_cap, free_cap, cost_cap}

-- what one strip adds to a desk's rest, at most: up to 6 strips of the desk come after those of the state
abbrev pub rest_span : ℕ
rest_span = weight_cap * (free_cap + desk_strips_cap * strip_span)

-- a desk's rest, at most
abbrev pub rest_cap : ℕ
rest_cap = desk_strips_cap * rest_span

-- any lower bound, at most: the cost so far and the rests of 3 desks, which are more than an entry of the scanner's table
abbrev pub bound_cap : ℕ
bound_cap = cost_cap + desks_cap * rest_cap

-- when strip i of desk d is done, scanned from t on, the desk being free from f on
abbrev pub finish_alone : List ℕ → ℕ → ℕ → ℕ → ℕ → ℕ
finish_alone J d i t f = max f (t + scan_of J d i) + desk_of J d i

-- the weighted sum of the finishing times of k strips of desk d from i on
unfoldable pub alone_sum : List ℕ → ℕ → ℕ → ℕ → ℕ → ℕ → ℕ
alone_sum J d zero i t f = 0
alone_sum J d (suc k) i t f = weight_of J d i * finish_alone J d i t f + alone_sum J d k (i + 1) (t + scan_of J d i) (finish_alone J d i t f)

unfoldable pub desk_rest : List ℕ → State → ℕ → ℕ
desk_rest J s d = alone_sum J d (get_or J d 0 - get_or s.taken d 0) (get_or s.taken d 0) s.time (get_or s.free d 0)

unfoldable pub desk_bound : List ℕ → State → ℕ
desk_bound J s = s.cost + desk_rest J s 0 + desk_rest J s 1 + desk_rest J s 2

-- the loop over a desk's strips
pub record RestSoFar (J : List ℕ) (w d i t f sum : ℕ) : Type 0 where
  pub within : i ≤ get_or J d 0
  pub six : get_or J d 0 ≤ 6
  pub size : length J ≡ instance_length
  pub time : t ≤ scanner_cap + i * time_cap
  pub free : f ≤ free_cap + i * strip_span
  pub sums : sum ≤ i * rest_span
  pub is : sum + alone_sum J d (get_or J d 0 - i) i t f ≡ w
