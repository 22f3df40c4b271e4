-- Laws for a loop that stores the columns of a number from the units to the left: what holds before each column,
-- how one column more is stored, and that in the end all are stored.
use Rattle.std.specs.Prelude.{ℕ, ◌+◌, ◌-◌, ◌/◌, ◌^◌, ◌≤◌, ◌≡◌, List, length}
use Rattle.field.specs.Put.{put}
use Rattle.decimal.specs.Columns.{column_at, columns}

-- the columns from `left` on are stored, `rest` is the number without their digits, and `next` is the column left of them
pub record Stored (d₀ d : List ℕ) (at width filler value left rest next : ℕ) : Type 0 where
  pub within : left ≤ width
  pub long : length d ≡ length d₀
  pub same : d ≡ put d₀ (at + left) (columns filler (width - left) value)
  pub over : rest ≡ value / 10 ^ (width - left)
  pub is_next : next ≡ column_at filler value (width - left)
