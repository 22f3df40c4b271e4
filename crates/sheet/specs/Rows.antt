-- Checks as rows. A row of the table "Turned back" is a number, the place that is returned with it, and its cause. Rows stand in the order of the checks,
-- and the first whose cause lies there decides.
use Rattle.std.specs.Prelude.{ℕ, zero, suc, ◌<◌, ◌≡◌, List, [], ◌∷◌}

pub record Row : Type 1 where
  pub number : ℕ
  pub place : ℕ
  pub cause : Type 0

abbrev pub row : ℕ → ℕ → Type 0 → Row
row number place cause = record { number = number; place = place; cause = cause }

-- row k, from 0; past the last row no cause lies
unfoldable pub row_at : List Row → ℕ → Row
row_at [] k = row 0 0 ⊥
row_at (r ∷ rows) zero = r
row_at (r ∷ rows) (suc k) = row_at rows k

-- the cause of row k lies there, and that of no row before it: number and place are those of row k
pub record Fails (rows : List Row) (number place : ℕ) : Type 0 where
  pub k : ℕ
  pub number_is : number ≡ (row_at rows k).number
  pub place_is : place ≡ (row_at rows k).place
  pub cause : (row_at rows k).cause
  pub before : (i : ℕ) → i < k → (row_at rows i).cause → ⊥

-- no row's cause lies there
unfoldable pub NoCause : List Row → Type 0
NoCause rows = (k : ℕ) → (row_at rows k).cause → ⊥

-- The same as numbers: each check gives the number of its row, or of one of its rows, where the cause lies and else 0, and the first number that is not 0 is the
-- answer.
unfoldable pub first_failure : List ℕ → ℕ
first_failure [] = 0
first_failure (zero ∷ checks) = first_failure checks
first_failure (suc n ∷ checks) = suc n
