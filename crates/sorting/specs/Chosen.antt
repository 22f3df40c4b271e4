-- The list that the search chose leads through states in which each desk it names has a strip left, and ends at the least figure.
use Rattle.std.specs.Prelude.{◌≡◌, List}
use Prim.Native.Nat.{ℕ, ◌+◌, ◌-◌, ◌<◌}
use Rattle.interleaving.specs.declared.State.{State}
use Rattle.interleaving.specs.Search.{start_state, first_best}
use Rattle.sorting.specs.Plan.{reached, listed_desk}
use Rattle.sorting.specs.Route.{Serves}

-- the desk, from 0, at place i of the chosen list
abbrev pub chosen_desk : List ℕ → ℕ → ℕ
chosen_desk J i = listed_desk (first_best J).path (start_state J).left i - 1

abbrev pub chosen_state : List ℕ → ℕ → State
chosen_state J i = reached J (start_state J) (chosen_desk J) i

pub record Chosen (J : List ℕ) : Type 0 where
  pub serves : Serves J (start_state J) (chosen_desk J) (start_state J).left
  pub digit : (i : ℕ) → i < (start_state J).left → listed_desk (first_best J).path (start_state J).left i ≡ chosen_desk J i + 1
  pub cost : (chosen_state J (start_state J).left).cost ≡ (first_best J).figure
  pub path : (chosen_state J (start_state J).left).path ≡ (first_best J).path
