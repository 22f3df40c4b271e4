-- Where a field lies that is checked.
use Rattle.std.specs.Prelude.{ℕ, ◌+◌, ◌≤◌, List, length}
use Rattle.sheet.specs.declared.Reading.{Reading}

-- a whole field of a content length stands where the reading is
pub record FieldPre (s : List ℕ) (st : Reading) (len : ℕ) : Type 0 where
  pub within : st.at + 3 + len ≤ length s
