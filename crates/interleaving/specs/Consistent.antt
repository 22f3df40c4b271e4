-- A state whose scanner time and number of strips left are those of its counts, as every state that the search reaches is.
use Rattle.std.specs.Prelude.{◌≡◌, List, ℕ, zero, suc, ◌+◌, ◌-◌, ◌≤◌, ◌<◌}
use Rattle.std.proofs.Math.ListN.{get_or}
use Rattle.interleaving.specs.declared.State.{State}
use Rattle.interleaving.specs.Instance.{scan_of}
use Rattle.interleaving.specs.Caps.{Capped}

-- a sum over the desks
abbrev pub sum3 : (ℕ → ℕ → ℕ) → List ℕ → ℕ
sum3 g T = g 0 (get_or T 0 0) + g 1 (get_or T 1 0) + g 2 (get_or T 2 0)

-- how long the scanner takes for the first i strips of desk d
unfoldable pub scan_sum : List ℕ → ℕ → ℕ → ℕ
scan_sum J d zero = 0
scan_sum J d (suc i) = scan_sum J d i + scan_of J d i

-- a state whose time and rest are those of its counts
pub record Consistent (J : List ℕ) (s : State) : Type 0 where
  pub fits : Capped s
  pub within : (d : ℕ) → d < 3 → get_or s.taken d 0 ≤ get_or J d 0
  pub time : s.time ≡ sum3 (scan_sum J) s.taken
  pub left : s.left ≡ sum3 (λ d i. get_or J d 0 - i) s.taken
