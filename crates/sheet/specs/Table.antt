-- A sheet is refused where a reading has passed every field before, the cause of a row lies there, and that of no row before it. The rows are those of
-- Causes.antt. Refused.antt shows that `read_sheet` refuses exactly there, and that a sheet is sound exactly where `RefusedFor` holds of no number and place;
-- Values.antt, that `RefusedForValue` is what 6, 15 and 16 say, and `RefusedForLongestBelowShortest` what 17 says.
use Rattle.std.specs.Prelude.{ℕ, ◌+◌, ◌≡◌, List}
use Rattle.field.specs.Bytes.{number_at}
use Rattle.field.specs.Field.{field_at}
use Rattle.field.specs.declared.Field.TheVariants.{End, Whole}
use Rattle.sheet.specs.Rows.{Fails, NoCause}
use Rattle.sheet.specs.Among.{Among}
use Rattle.sheet.specs.FieldTable.{table_of, lengths_due, Value, field_values, InRange}
use Rattle.sheet.specs.Causes.{NoMembers, OrderMissing, Permitted, FirstOut, LongestBelowShortest, field_rows, end_rows, rows_at}
use Rattle.sheet.specs.Decode.{next_reading, start_reading}
use Rattle.sheet.specs.declared.Reading.{Reading}

-- a reading that has passed every field before where it stands
pub data Reached (s : List ℕ) : Reading → Type 0 where
  at_start : Reached s start_reading
  past_field : {st : Reading} (tag len : ℕ) → Reached s st → field_at s st.at ≡ Whole tag len → NoCause (field_rows s st tag len)
      → Reached s (next_reading s st tag len)

-- why a sheet is refused where a reading stands: the first row whose cause lies there
abbrev pub Cause : List ℕ → Reading → ℕ → ℕ → Type 0
Cause s st number place = Fails (rows_at s st (field_at s st.at)) number place

-- a sheet is refused for a cause, at the first field that has one
pub record RefusedFor (s : List ℕ) (number place : ℕ) : Type 0 where
  pub reading : Reading
  pub reached : Reached s reading
  pub cause : Cause s reading number place

-- What a sheet is refused for in the content of a field, row by row: a whole field is reached, the section before it ends well if its tag ends it, its tag is
-- permitted there and its length is due (else it has no values), and its content has this fault. The place is the field's.
pub record RefusedForContent (s : List ℕ) (Fault : Reading → ℕ → ℕ → Type 0) (place : ℕ) : Type 0 where
  pub reading : Reading
  pub reached : Reached s reading
  pub tag : ℕ
  pub len : ℕ
  pub whole : field_at s reading.at ≡ Whole tag len
  pub some_members : NoMembers tag reading.section reading.members → ⊥
  pub order_given_lem : OrderMissing tag reading.section reading.members → ⊥
  pub tag_permitted : Permitted tag reading.section reading.members
  pub length_due : Among len (lengths_due tag (table_of reading))
  pub fault : Fault reading tag len
  pub place_is : place ≡ reading.at

-- 6, 15 and 16 (02, Req 04): of its values, from left to right, the first that is not within its range is out of it in this way
abbrev pub ValueOut : List ℕ → (Value → Type 0) → Reading → ℕ → ℕ → Type 0
ValueOut s Out st tag len = FirstOut Out (field_values s (st.at + 3) tag len (table_of st))

abbrev pub RefusedForValue : List ℕ → (Value → Type 0) → ℕ → Type 0
RefusedForValue s Out place = RefusedForContent s (ValueOut s Out) place

-- 17 (02, Req 07), "right after the ranges of the same field": all its values are within their ranges, and it is a window whose longest delay is below the
-- shortest
pub record LongestBelowInRange (s : List ℕ) (st : Reading) (tag len : ℕ) : Type 0 where
  pub in_range : InRange (field_values s (st.at + 3) tag len (table_of st))
  pub below : LongestBelowShortest tag (number_at s (st.at + 3 + 2) 2) (number_at s (st.at + 3 + 4) 2)

abbrev pub RefusedForLongestBelowShortest : List ℕ → ℕ → Type 0
RefusedForLongestBelowShortest s place = RefusedForContent s (LongestBelowInRange s) place

-- a sheet is read to its end
pub record Complete (s : List ℕ) (st : Reading) : Type 0 where
  pub at_end_lem : field_at s st.at ≡ End
  pub passed : NoCause (end_rows st)
