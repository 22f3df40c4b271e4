-- The lines as they are stored: stores one behind the other are one store of the joined columns, with the line feed behind them.
use Rattle.std.specs.Prelude.{ℕ, List, [], ◌∷◌, ◌++◌}
use Rattle.decimal.specs.Columns.{space, columns}
use Rattle.page_lines.specs.Line.{line_feed}

-- the third and the fourth field of a member line, and the line feed
unfoldable pub last_fields : ℕ → ℕ → List ℕ
last_fields third fourth = columns space 12 third ++ columns space 12 fourth ++ (line_feed ∷ [])
