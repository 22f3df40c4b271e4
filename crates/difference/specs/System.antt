-- A numbered family of difference constraints, its solutions, and rounds of raising values from 0 (in the literature: Bellman-Ford rounds, for longest paths).
use Rattle.std.specs.Prelude.{Bool, true, ◌&&◌, List, ℕ, zero, suc, ◌+◌, ◌-◌, ◌≤◌, ◌<◌, max, leb, get_or, set, replicate}

-- `variables` unknowns and `count` constraints. Constraint k says: value (from k) + up k ≤ value (to k) + down k.
pub record System : Type 0 where
  pub variables : ℕ
  pub count : ℕ
  pub from : ℕ → ℕ
  pub to : ℕ → ℕ
  pub up : ℕ → ℕ
  pub down : ℕ → ℕ

abbrev pub Solves : System → (ℕ → ℕ) → Type 0
Solves S y = (k : ℕ) → k < S.count → y (S.from k) + S.up k ≤ y (S.to k) + S.down k

-- Every constraint is about two of the variables.
pub record Inside (S : System) : Type 0 where
  pub some : 0 < S.variables
  pub from_in : (k : ℕ) → k < S.count → S.from k < S.variables
  pub to_in : (k : ℕ) → k < S.count → S.to k < S.variables

-- The value of variable j.
abbrev pub value : List ℕ → ℕ → ℕ
value t j = get_or t j 0

-- The least value of `to k` that is no smaller than it was and meets constraint k.
abbrev pub raised : System → ℕ → List ℕ → ℕ
raised S k t = max (value t (S.to k)) (value t (S.from k) + S.up k - S.down k)

unfoldable pub relax : System → ℕ → List ℕ → List ℕ
relax S k t = set t (S.to k) (raised S k t)

-- The first k constraints, each once and in order.
unfoldable pub relaxed : System → ℕ → List ℕ → List ℕ
relaxed S zero t = t
relaxed S (suc k) t = relax S k (relaxed S k t)

-- r rounds, each over all constraints, from zeros: Bellman-Ford rounds.
unfoldable pub rounds : System → ℕ → List ℕ
rounds S zero = replicate S.variables 0
rounds S (suc r) = relaxed S S.count (rounds S r)

-- Whether the first k constraints hold.
unfoldable pub holds : System → ℕ → List ℕ → Bool
holds S zero t = true
holds S (suc k) t = holds S k t && leb (value t (S.from k) + S.up k) (value t (S.to k) + S.down k)

-- The result: the values after as many rounds as there are variables, and whether these are a solution.
unfoldable pub least_values : System → List ℕ
least_values S = rounds S S.variables

unfoldable pub solvable : System → Bool
solvable S = holds S S.count (least_values S)
