-- What the search returns is a completion, and the first of the best: its list's number is the least among those of its figure.
use Rattle.std.specs.Prelude.{◌≡◌, List}
use Prim.Native.Nat.{ℕ, ◌≤◌}
use Rattle.interleaving.specs.declared.State.{State}
use Rattle.interleaving.specs.declared.Incumbent.{Incumbent}
use Rattle.interleaving.specs.Search.{Completes}

-- r has the figure and the number of a completion of s
pub record Attained (J : List ℕ) (k : ℕ) (s : State) (r : Incumbent) : Type 0 where
  pub end : State
  pub ends : Completes J k s end
  pub figure : r.figure ≡ end.cost
  pub path : r.path ≡ end.path

-- among the completions of s of the same figure none has a smaller number
abbrev pub First : List ℕ → ℕ → State → Incumbent → Type 0
First J k s r = (e : State) → Completes J k s e → r.figure ≡ e.cost → r.path ≤ e.path
