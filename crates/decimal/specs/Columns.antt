-- A number in decimal columns: right-aligned, its digits from the highest place to the units, and a filler left of its first digit.
-- A filler of a space gives the columns of a page; a filler of the digit 0 gives leading zeros. Below the definitions, some samples.
use Rattle.std.specs.Prelude.{ℕ, zero, suc, ◌+◌, ◌-◌, ◌*◌, ◌/◌, ◌%◌, ◌^◌, ◌≡◌, cond, List, [], ◌∷◌, length, ltb}

-- the digits 0 to 9 are the bytes 48 to 57
abbrev pub zero_digit : ℕ
zero_digit = 48

abbrev pub space : ℕ
space = 32

-- the column of what is left of a number without its lower digits: the last digit of it, or the filler where nothing is left
unfoldable pub column_of : ℕ → ℕ → ℕ
column_of filler rest = cond (ltb 0 rest) (zero_digit + rest % 10) filler

-- the column of a number so many places left of its units: its digit there; left of its first digit, the filler.
-- The units always have a digit, so that 0 is written 0.
unfoldable pub column_at : ℕ → ℕ → ℕ → ℕ
column_at filler value zero = zero_digit + value % 10
column_at filler value (suc k) = column_of filler (value / 10 ^ suc k)

-- a number in so many columns, right-aligned: the column of the highest place first
unfoldable pub columns : ℕ → ℕ → ℕ → List ℕ
columns filler zero value = []
columns filler (suc k) value = column_at filler value k ∷ columns filler k value

-- the number that columns say: a digit counts, a filler does not (a byte up to the digit 0 counts as 0)
unfoldable pub columns_value : List ℕ → ℕ
columns_value [] = 0
columns_value (c ∷ cs) = (c - zero_digit) * 10 ^ length cs + columns_value cs
