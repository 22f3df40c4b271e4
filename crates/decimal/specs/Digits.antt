-- The decimal digits of a number, as many as it has and no more. A number that fits its columns stands in them right-aligned:
-- the filler so often that the digits end in the last column, then the digits, of which the first is 0 for the number 0 alone.
use Prim.Native.Nat.{ℕ, zero, suc, ◌+◌, ◌/◌, ◌%◌}
use Rattle.std.proofs.Math.Bool.{true, false}
use mathlib.Core.List.{List, [], ◌∷◌, ◌++◌}
use Rattle.std.proofs.Math.Dec.{ltb}
use Rattle.decimal.specs.Columns.{zero_digit}

-- the digits of a number, by dividing by 10 at most `steps` times: those of the number without its last digit, and the last digit
unfoldable pub digits_within : ℕ → ℕ → List ℕ
digits_within zero value = []
digits_within (suc steps) value =
    elim (ltb value 10) [ true ↦ (zero_digit + value) ∷ [] | false ↦ digits_within steps (value / 10) ++ (zero_digit + value % 10) ∷ [] ]

-- a number has at most value + 1 digits
unfoldable pub digits_of : ℕ → List ℕ
digits_of value = digits_within (suc value) value
