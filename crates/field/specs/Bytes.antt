-- Numbers in bytes. 01: "numbers stand low byte first".
use Rattle.std.specs.Prelude.{ℕ, zero, suc, ◌+◌, ◌*◌, ◌/◌, ◌%◌, ◌^◌, ◌<◌, ◌≡◌, List, [], ◌∷◌, get_or}

-- the number in so many bytes from an offset on; a byte past the end counts as 0
unfoldable pub number_at : List ℕ → ℕ → ℕ → ℕ
number_at s at zero = 0
number_at s at (suc width) = get_or s at 0 + 256 * number_at s (at + 1) width

-- the bytes of a number, so many of them
unfoldable pub bytes_of : ℕ → ℕ → List ℕ
bytes_of zero value = []
bytes_of (suc width) value = value % 256 ∷ bytes_of width (value / 256)

-- what reading a number answers: its value, which fits its bytes
pub record NumberRead (s : List ℕ) (at width value : ℕ) : Type 0 where
  pub is : value ≡ number_at s at width
  pub fits : value < 2 ^ (8 * width)
