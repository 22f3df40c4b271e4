-- What keeps the sums of a state and of a step within 64 bits, and that a step keeps it.
use Rattle.std.specs.Prelude.{◌≡◌, List, ℕ, ◌+◌, ◌-◌, ◌*◌, ◌^◌, ◌≤◌, ◌<◌, length}
use Rattle.std.proofs.Math.ListN.{get_or}
use Rattle.interleaving.specs.declared.State.{State}
use Rattle.interleaving.specs.Instance.{Instance, scan_of, desk_of, weight_of, instance_length, time_cap, weight_cap, scanner_cap, strip_span}
use Rattle.interleaving.specs.Instance.{strips_cap, free_cap, strip_cost, cost_cap, path_cap}
use Rattle.interleaving.specs.Search.{StripLeft, scanned, finish}

-- what keeps the sums small
pub record Capped (s : State) : Type 0 where
  pub left : s.left ≤ strips_cap
  pub frees : length s.free ≡ 3
  pub takens : length s.taken ≡ 3
  pub time : s.time + s.left * time_cap ≤ scanner_cap
  pub free : (d : ℕ) → get_or s.free d 0 + s.left * strip_span ≤ free_cap
  pub cost : s.cost + s.left * strip_cost ≤ cost_cap
  pub path : s.path < 4 ^ (strips_cap - s.left)

-- what the sums of a step come to
pub record StepCapped (J : List ℕ) (s : State) (d : ℕ) : Type 0 where
  pub index : d * 6 + get_or s.taken d 0 ≤ 17
  pub scan : scan_of J d (get_or s.taken d 0) ≤ time_cap
  pub desk : desk_of J d (get_or s.taken d 0) ≤ time_cap
  pub weight : weight_of J d (get_or s.taken d 0) ≤ weight_cap
  pub free : get_or s.free d 0 ≤ free_cap
  pub before : s.cost ≤ cost_cap
  pub time : scanned J s d + (s.left - 1) * time_cap ≤ scanner_cap
  pub done : finish J s d + (s.left - 1) * strip_span ≤ free_cap
  pub cost : s.cost + weight_of J d (get_or s.taken d 0) * finish J s d + (s.left - 1) * strip_cost ≤ cost_cap
  pub weighted : weight_of J d (get_or s.taken d 0) * finish J s d ≤ strip_cost
  pub path : s.path * 4 + d + 1 < 4 ^ (strips_cap - (s.left - 1))
  pub small : s.path * 4 + d + 1 < path_cap
  pub size : length J ≡ instance_length

-- what a step asks: desk d has a strip left
pub record StepPre (J : List ℕ) (s : State) (d : ℕ) : Type 0 where
  pub jobs : Instance J
  pub capped : Capped s
  pub desk : d < 3
  pub strip : StripLeft J s d
  pub left : 0 < s.left
