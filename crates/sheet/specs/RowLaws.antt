-- One theorem for all rows: where each check gives its row's number exactly where the row's cause lies, the first number that is not 0 is that of the first
-- row whose cause lies there, with its place, and it is 0 exactly where no cause lies. The idea: one row after another, each judged where those before pass.
use Prim.Native.Nat.{ℕ, zero, suc, ◌<◌}
use Rattle.std.specs.Prelude.{◌≡◌, List, [], ◌∷◌, ◌++◌}
use Rattle.std.proofs.Common.{◌∙◌, true≢false, lit<}
use Rattle.sheet.specs.Rows.{Row, Fails, NoCause}

-- what a check gives: the number where the cause lies, 0 where it does not
pub data Gives (given number : ℕ) (cause : Type 0) : Type 0 where
  fails : given ≡ number → cause → Gives given number cause
  passes : given ≡ 0 → (cause → ⊥) → Gives given number cause

-- what the checks of rows answer together, with the place of each number
pub data Answers (rows : List Row) (place : ℕ → ℕ) (answer : ℕ) : Type 0 where
  first : 0 < answer → Fails rows answer (place answer) → Answers rows place answer
  none : answer ≡ 0 → NoCause rows → Answers rows place answer

-- The numbers of the rows; a number that is not among them is never given.
unfoldable pub numbers_of : List Row → List ℕ
numbers_of [] = []
numbers_of (r ∷ rows) = r.number ∷ numbers_of rows

-- A number that stands in one row alone is given for the cause of that row.
unfoldable pub without_row : ℕ → List Row → List Row
without_row k [] = []
without_row zero (r ∷ rows) = rows
without_row (suc k) (r ∷ rows) = r ∷ without_row k rows
