-- The search over the interleavings of the desks' strips, without any cut: its states, its incumbent, and what bounds all completions of a state from below.
-- In the literature the section is a differentiation flowshop: two stages, one common machine (the scanner), then dedicated machines (the desks).
use Rattle.std.specs.Prelude.{◌≡◌, cond, List, ℕ, zero, suc, ◌+◌, ◌-◌, ◌*◌, ◌≤◌, ◌<◌, max, ltb, get_or, set, replicate}
use Rattle.interleaving.specs.declared.State.{State}
use Rattle.interleaving.specs.declared.Incumbent.{Incumbent}
use Rattle.interleaving.specs.Instance.{largest, scan_of, desk_of, weight_of}

-- desk d has a strip left
abbrev pub StripLeft : List ℕ → State → ℕ → Type 0
StripLeft J s d = get_or s.taken d 0 < get_or J d 0

-- when the scan of the next strip of desk d ends, and when the strip is done, each as early as it can be
abbrev pub scanned : List ℕ → State → ℕ → ℕ
scanned J s d = s.time + scan_of J d (get_or s.taken d 0)

abbrev pub finish : List ℕ → State → ℕ → ℕ
finish J s d = max (get_or s.free d 0) (scanned J s d) + desk_of J d (get_or s.taken d 0)

-- the state after the next strip of desk d; the desk's number, from 1, is one more digit of the list's number
unfoldable pub step_of : List ℕ → State → ℕ → State
step_of J s d = record {
  left = s.left - 1;
  time = scanned J s d;
  cost = s.cost + weight_of J d (get_or s.taken d 0) * finish J s d;
  path = s.path * 4 + d + 1;
  free = set s.free d (finish J s d);
  taken = set s.taken d (get_or s.taken d 0 + 1);
}

-- the better of an incumbent and a complete state: the incumbent where they are equal
unfoldable pub keep : State → Incumbent → Incumbent
keep s b = cond (ltb s.cost b.figure) (record { figure = s.cost; path = s.path }) b

-- g 0, then g 1, .. then g (n - 1)
unfoldable pub over_desks : {A : Type 0} → (ℕ → A → A) → ℕ → A → A
over_desks g zero b = b
over_desks g (suc d) b = g d (over_desks g d b)

-- the search f of what s becomes by desk d, where that desk has a strip left
unfoldable pub branch : {A : Type 0} → List ℕ → (State → A → A) → State → ℕ → A → A
branch J f s d r = cond (ltb (get_or s.taken d 0) (get_or J d 0)) (f (step_of J s d) r) r

-- the search in desk order, k strips being left
unfoldable pub search_from : List ℕ → ℕ → State → Incumbent → Incumbent
search_from J zero s b = keep s b
search_from J (suc k) s b = over_desks (branch J (search_from J k) s) 3 b

-- no completion of s, k strips being left, costs less than B
unfoldable pub LowerBound : List ℕ → ℕ → State → ℕ → Type 0
LowerBound J zero s B = B ≤ s.cost
LowerBound J (suc k) s B = (d : ℕ) → d < 3 → StripLeft J s d → LowerBound J k (step_of J s d) B

-- no strip is taken, and all is at time 0
unfoldable pub start_state : List ℕ → State
start_state J = record { left = get_or J 0 0 + get_or J 1 0 + get_or J 2 0; time = 0; cost = 0; path = 0; free = replicate 3 0; taken = replicate 3 0 }

-- no list yet: every figure is below this one
abbrev pub no_incumbent : Incumbent
no_incumbent = record { figure = largest; path = 0 }

-- the first best interleaving of all, in desk order
unfoldable pub first_best : List ℕ → Incumbent
first_best J = search_from J (start_state J).left (start_state J) no_incumbent

-- e is a completion of s by k strips, in some order
unfoldable pub Completes : List ℕ → ℕ → State → State → Type 0
Completes J zero s e = e ≡ s
Completes J (suc k) s e = (d : ℕ) × (d < 3) × StripLeft J s d × Completes J k (step_of J s d) e
