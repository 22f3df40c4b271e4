-- Constraints as the code has them, in a list: constraint k is its item k.
use Rattle.std.specs.Prelude.{◌≡◌, Bool, false, List, ℕ, ◌≤◌, ◌<◌, length, get_or}
use Rattle.difference.specs.System.{System, value, relaxed, rounds, holds, least_values, solvable}
use Rattle.difference.specs.Caps.{most_variables, most_constraints, most_number, value_cap}
use Rattle.difference.specs.declared.Constraint.{Constraint}

-- Item k of a list of constraints, and past its end one of zeros.
abbrev pub item : List Constraint → ℕ → Constraint
item rows k = get_or rows k (record { from = 0; to = 0; up = 0; down = 0 })

abbrev pub system_of : ℕ → List Constraint → System
system_of n rows = record {
  variables = n;
  count = length rows;
  from = λ k. (item rows k).from;
  to = λ k. (item rows k).to;
  up = λ k. (item rows k).up;
  down = λ k. (item rows k).down;
}

-- What the code asks: few variables and constraints and small numbers, so that no sum passes 64 bits.
pub record SolvePre (n : ℕ) (rows : List Constraint) : Type 0 where
  pub some : 0 < n
  pub few : n ≤ most_variables
  pub short : length rows ≤ most_constraints
  pub from_in : (k : ℕ) → k < length rows → (item rows k).from < n
  pub to_in : (k : ℕ) → k < length rows → (item rows k).to < n
  pub up_low : (k : ℕ) → k < length rows → (item rows k).up ≤ most_number
  pub down_low : (k : ℕ) → k < length rows → (item rows k).down ≤ most_number

pub record RoundPre (t : List ℕ) (rows : List Constraint) : Type 0 where
  pub fit : SolvePre (length t) rows
  pub low : (j : ℕ) → value t j ≤ value_cap

-- One round: the values after it, and whether they were a solution before it.
pub record RoundDone (S : System) (t t' : List ℕ) (held : Bool) : Type 0 where
  pub values : t' ≡ relaxed S S.count t
  pub result : held ≡ holds S S.count t

-- All rounds.
pub record SolveDone (S : System) (t : List ℕ) (found : Bool) : Type 0 where
  pub values : t ≡ least_values S
  pub result : found ≡ solvable S

-- k constraints of a round are done.
pub record InRound (S : System) (t₀ t : List ℕ) (held : Bool) (k : ℕ) : Type 0 where
  pub within : k ≤ S.count
  pub same_length : length t ≡ length t₀
  pub values : t ≡ relaxed S k t₀
  pub result : held ≡ holds S k t₀

-- r rounds are done, and none of them began at a solution.
pub record InRounds (S : System) (t : List ℕ) (r : ℕ) : Type 0 where
  pub within : r ≤ S.variables
  pub values : t ≡ rounds S r
  pub unsolved : (q : ℕ) → q < r → holds S S.count (rounds S q) ≡ false
