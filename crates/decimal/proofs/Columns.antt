-- A number in decimal columns: right-aligned, its digits from the highest place to the units, and a filler left of its first digit.
-- A filler of a space gives the columns of a page; a filler of the digit 0 gives leading zeros. Below the definitions, some samples.
use Rattle.std.specs.Prelude.{◌≡◌, refl, [], ◌∷◌}
use Rattle.decimal.specs.Columns.{zero_digit, space, column_of, column_at, columns}

-- "  0"
pub zero_in_three : columns space 3 0 ≡ 32 ∷ 32 ∷ 48 ∷ []
unfolding column_of column_at columns
zero_in_three = refl

-- "  40"
pub forty_in_four : columns space 4 40 ≡ 32 ∷ 32 ∷ 52 ∷ 48 ∷ []
unfolding column_of column_at columns
forty_in_four = refl

-- "1987", a number of exactly the width
pub whole_width : columns space 4 1987 ≡ 49 ∷ 57 ∷ 56 ∷ 55 ∷ []
unfolding column_of column_at columns
whole_width = refl

-- "    10000000"
pub ten_million_in_twelve : columns space 12 10000000 ≡ 32 ∷ 32 ∷ 32 ∷ 32 ∷ 49 ∷ 48 ∷ 48 ∷ 48 ∷ 48 ∷ 48 ∷ 48 ∷ 48 ∷ []
unfolding column_of column_at columns
ten_million_in_twelve = refl

-- "0040": a filler of the digit 0
pub leading_zeros : columns zero_digit 4 40 ≡ 48 ∷ 48 ∷ 52 ∷ 48 ∷ []
unfolding column_of column_at columns
leading_zeros = refl
