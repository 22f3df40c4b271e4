-- Scanner lists (rules, ScannerList.antt). Two rows of numbers agree below a length or part at a first place; of two lists at most one comes before the other;
-- two timetables with the same list have the same strip at each place.
use Rattle.std.specs.Prelude.{ℕ, ◌+◌, ◌<◌, ◌≡◌, [], ◌∷◌, ◌⊎◌}
use Rattle.std.proofs.Common.{◌∙◌}

-- two rows of numbers, given by place, part at a first place below n, or they agree below n
pub record FirstParting (f g : ℕ → ℕ) (n : ℕ) : Type 0 where
  pub place : ℕ
  pub within : place < n
  pub same : (i : ℕ) → i < place → f i ≡ g i
  pub other : f place ≡ g place → ⊥
