-- A field that passes every row: what the rows' causes shut out, stated of the field.
use Rattle.std.specs.Prelude.{ℕ, ◌+◌, ◌≤◌, ◌<◌, ◌≡◌, List, [], ◌∷◌, ◌++◌}
use Rattle.field.specs.Bytes.{number_at}
use Rattle.order.specs.Order.{Proper}
use Rattle.sheet.specs.Tags.{flight_order_tag, flight_window_block_tag}
use Rattle.sheet.specs.Sections.{strips_of_desk}
use Rattle.sheet.specs.FieldTable.{table_of, lengths_due, field_values, InRange}
use Rattle.sheet.specs.Among.{Among}
use Rattle.sheet.specs.Causes.{Permitted, TooMany}
use Rattle.sheet.specs.declared.Reading.{Reading}

pub record Passed (s : List ℕ) (st : Reading) (tag len : ℕ) : Type 0 where
  pub tag_ok : Permitted tag st.section st.members
  pub length_ok : Among len (lengths_due tag (table_of st))
  pub range_ok : InRange (field_values s (st.at + 3) tag len (table_of st))
  pub window_ok : tag ≡ flight_window_block_tag → number_at s (st.at + 3 + 2) 2 ≤ number_at s (st.at + 3 + 4) 2
  pub room_ok : TooMany tag st.members (strips_of_desk st.sorting.counts (number_at s (st.at + 3) 1)) → ⊥
  pub order_ok : tag ≡ flight_order_tag → Proper st.members (number_at s (st.at + 3) 8)
