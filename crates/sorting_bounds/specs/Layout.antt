-- The working table during the search: the labels of each count vector at the front, then the scanner's entry of each.
use Rattle.std.specs.Prelude.{List, ℕ, ◌+◌, ◌*◌, ◌≤◌, ◌<◌, get_or}
use Rattle.std.proofs.Common.{le_trans, arith}
use Rattle.interleaving.specs.declared.State.{State}
use Rattle.interleaving.specs.Instance.{Instance}
use Rattle.interleaving.specs.Consistent.{Consistent}

-- the number of a state's count vector: the strips taken of each desk, at most 6, as digits
abbrev pub count_key : State → ℕ
count_key s = (get_or s.taken 0 0 * 7 + get_or s.taken 1 0) * 7 + get_or s.taken 2 0

-- the numbers that the labels take: four labels of four numbers to a count vector
abbrev pub labels_length : ℕ
labels_length = 5_488

-- and those that the search uses: behind the labels the scanner's entry of each of the 343 count vectors
abbrev pub search_length : ℕ
search_length = 5_831

pub key_digits : (J : List ℕ) → Instance J → (s : State) → Consistent J s → (get_or s.taken 0 0 ≤ 6) × (get_or s.taken 1 0 ≤ 6) × (get_or s.taken 2 0 ≤ 6)
key_digits J j s g = (few 0 (omega arith), few 1 (omega arith), few 2 (omega arith))
  where
    few : (d : ℕ) → d < 3 → get_or s.taken d 0 ≤ 6
    few d p = le_trans (g.within d p) (j.few d p)
