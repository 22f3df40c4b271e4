-- Every line has 32 columns: those of its fields, one behind another. With the line feed it takes 33 bytes.
use Rattle.std.specs.Prelude.{ℕ, ◌≡◌, List, length}

-- a line has 32 columns
abbrev pub HasColumns : List ℕ → Type 0
HasColumns line = length line ≡ 32
