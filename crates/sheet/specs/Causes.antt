-- The causes of the table "Turned back", rows 3 to 10, and of 15 to 17 of 02 (Req 04, Req 07), in their words, where a reading stands; and the rows that the
-- sheet is checked for there. The tests by which the reader finds them are in Checks.antt; Decided.antt and Ranges.antt show that these tests decide the
-- causes.
use Rattle.std.specs.Prelude.{ℕ, ◌+◌, ◌≤◌, ◌<◌, ◌≡◌, List, [], ◌∷◌, ◌⊎◌, length}
use Rattle.field.specs.Bytes.{number_at}
use Rattle.field.specs.declared.Field.{Field}
use Rattle.field.specs.declared.Field.TheVariants.{End, Cut, Whole}
use Rattle.order.specs.Order.{Proper}
use Rattle.sheet.specs.Limits.{most_strips, most_strips_of_desk, most_blocks, most_blocks_without_order}
use Rattle.sheet.specs.Tags.{mosaic_head_tag, mosaic_strip_tag, sorting_head_tag, sorting_strip_tag, flight_head_tag, flight_block_tag, flight_order_tag}
use Rattle.sheet.specs.Tags.{flight_window_block_tag}
use Rattle.sheet.specs.Refusals.{field_cut, tag_not_permitted, length_wrong, out_of_range, too_many, no_members, order_not_proper, order_missing}
use Rattle.sheet.specs.Refusals.{time_too_large, time_of_zero, longest_below_shortest}
use Rattle.sheet.specs.Sections.{no_section, in_mosaic, in_sorting, in_flight, strips_of_desk}
use Rattle.sheet.specs.Among.{Among}
use Rattle.sheet.specs.FieldTable.{TableRow, table_of, lengths_due, field_values, Value, Within}
use Rattle.sheet.specs.FieldTable.Range.{count, time, positive_time, no_range}
use Rattle.sheet.specs.FieldTable.Value.{value}
use Rattle.sheet.specs.Rows.{Row, row}
use Rattle.sheet.specs.declared.Reading.{Reading}

-- 3, of a field that stands there: "under three bytes left, or content runs past the end"
pub data FieldCut (s : List ℕ) (at : ℕ) : Type 0 where
  under_three : length s < at + 3 → FieldCut s at
  past_end : length s < at + 3 + number_at s (at + 1) 2 → FieldCut s at

-- "Only tags 10, 20, 30 and the end of the sheet end a section."
pub data EndsSection (tag : ℕ) : Type 0 where
  mosaic_head_lem : tag ≡ mosaic_head_tag → EndsSection tag
  sorting_head_lem : tag ≡ sorting_head_tag → EndsSection tag
  flight_head_lem : tag ≡ flight_head_tag → EndsSection tag

-- 8: "section without members", which the tag ends
pub record NoMembers (tag section members : ℕ) : Type 0 where
  pub ends : EndsSection tag
  pub some_section : section ≡ no_section → ⊥
  pub none : members < 1

-- 10: "over 8 blocks and no order": the section is a flight in which no order field stands
pub record ManyBlocks (section members : ℕ) : Type 0 where
  pub flight : section ≡ in_flight
  pub many : most_blocks_without_order < members

pub record OrderMissing (tag section members : ℕ) : Type 0 where
  pub ends : EndsSection tag
  pub blocks : ManyBlocks section members

-- 4: "tag not permitted next; order field with no block before it". Permitted are the eight ways to go on: "One to three sections stand in the order
-- 10, 20, 30, each at most once"; in a section its members, in a flight "31 and 33 may be mixed" (02, Req 07); behind a block
-- "optionally one order field, which ends the sheet".
pub data Permitted (tag section members : ℕ) : Type 0 where
  mosaic_head_lem : tag ≡ mosaic_head_tag → section ≡ no_section → Permitted tag section members
  mosaic_strip_lem : tag ≡ mosaic_strip_tag → section ≡ in_mosaic → Permitted tag section members
  sorting_head_lem : tag ≡ sorting_head_tag → section < in_sorting → Permitted tag section members
  sorting_strip_holds : tag ≡ sorting_strip_tag → section ≡ in_sorting → Permitted tag section members
  flight_head_lem : tag ≡ flight_head_tag → section < in_flight → Permitted tag section members
  flight_block_holds : tag ≡ flight_block_tag → section ≡ in_flight → Permitted tag section members
  flight_window_block_holds : tag ≡ flight_window_block_tag → section ≡ in_flight → Permitted tag section members
  flight_order_holds : tag ≡ flight_order_tag → section ≡ in_flight → 1 ≤ members → Permitted tag section members

-- 5: "length wrong for the tag": not among those that the field table has for it
abbrev pub LengthWrong : ℕ → ℕ → List TableRow → Type 0
LengthWrong len tag table = Among len (lengths_due tag table) → ⊥

-- 6: "value out of its range", of a count: "Keep 6 for station, desk and other counts" (02, Req 04)
unfoldable pub CountOutOfRange : Value → Type 0
CountOutOfRange (value (count least most) number) = (number < least) ⊎ (most < number)
CountOutOfRange (value (time most) number) = ⊥
CountOutOfRange (value (positive_time most) number) = ⊥
CountOutOfRange (value no_range number) = ⊥

-- 15: "a time above its upper end"
unfoldable pub TimeTooLarge : Value → Type 0
TimeTooLarge (value (count least most) number) = ⊥
TimeTooLarge (value (time most) number) = most < number
TimeTooLarge (value (positive_time most) number) = most < number
TimeTooLarge (value no_range number) = ⊥

-- 16: "a time of zero where at least 1 is due"
unfoldable pub TimeOfZero : Value → Type 0
TimeOfZero (value (count least most) number) = ⊥
TimeOfZero (value (time most) number) = ⊥
TimeOfZero (value (positive_time most) number) = number ≡ 0
TimeOfZero (value no_range number) = ⊥

-- "Within a field values are examined from left to right": the first value that is not within its range is out of it in this way (`Out`, one of
-- the three above; none of them holds of a value within its range)
unfoldable pub FirstOut : (Value → Type 0) → List Value → Type 0
FirstOut Out [] = ⊥
FirstOut Out (v ∷ values) = Out v ⊎ (Within v × FirstOut Out values)

-- 17: "longest below shortest", of a window
pub record LongestBelowShortest (tag shortest longest : ℕ) : Type 0 where
  pub is_window : tag ≡ flight_window_block_tag
  pub below : longest < shortest

-- 7: "41st mosaic strip, 7th for one desk, 33rd block"; blocks of both tags are counted together
pub data TooMany (tag members of_desk : ℕ) : Type 0 where
  strip : tag ≡ mosaic_strip_tag → most_strips ≤ members → TooMany tag members of_desk
  strip_of_desk_lem : tag ≡ sorting_strip_tag → most_strips_of_desk ≤ of_desk → TooMany tag members of_desk
  block : tag ≡ flight_block_tag → most_blocks ≤ members → TooMany tag members of_desk
  window_block_holds : tag ≡ flight_window_block_tag → most_blocks ≤ members → TooMany tag members of_desk

-- 9: "order number not proper"
pub record OrderNotProper (tag blocks order : ℕ) : Type 0 where
  pub is_order : tag ≡ flight_order_tag
  pub improper : Proper blocks order → ⊥

-- The rows that a field of a tag and a content length is checked for, in the order of the checks: "each field for 3, then 8 or 10 if its tag ends the
-- section before, then 4, 5, 6, 7, 9"; 15 and 16 "both in the place of 6". At most one of the causes of 5, 6, 15 and 16 lies in a field (one whose length is
-- wrong has no values), so the order of these four rows among themselves decides nothing. 17 stands "right after the ranges of the same field and before 7".
-- "Place is the offset of the tag of the field named": the head of the section for 8 and 10, else the field.
abbrev pub cut_row : List ℕ → Reading → Row
cut_row s st = row field_cut st.at (FieldCut s st.at)

unfoldable pub field_rows : List ℕ → Reading → ℕ → ℕ → List Row
field_rows s st tag len =
    let values : List Value = field_values s (st.at + 3) tag len (table_of st) in
    cut_row s st
    ∷ row no_members st.head (NoMembers tag st.section st.members)
    ∷ row order_missing st.head (OrderMissing tag st.section st.members)
    ∷ row tag_not_permitted st.at (Permitted tag st.section st.members → ⊥)
    ∷ row length_wrong st.at (LengthWrong len tag (table_of st))
    ∷ row out_of_range st.at (FirstOut CountOutOfRange values)
    ∷ row time_too_large st.at (FirstOut TimeTooLarge values)
    ∷ row time_of_zero st.at (FirstOut TimeOfZero values)
    ∷ row longest_below_shortest st.at (LongestBelowShortest tag (number_at s (st.at + 3 + 2) 2) (number_at s (st.at + 3 + 4) 2))
    ∷ row too_many st.at (TooMany tag st.members (strips_of_desk st.sorting.counts (number_at s (st.at + 3) 1)))
    ∷ row order_not_proper st.at (OrderNotProper tag st.members (number_at s (st.at + 3) 8))
    ∷ []

-- the end of the sheet ends a section too; 8, "empty sheet": it has none, and its place is 0
unfoldable pub end_rows : Reading → List Row
end_rows st =
    row no_members st.head (st.members < 1)
    ∷ row order_missing st.head (ManyBlocks st.section st.members)
    ∷ []

-- the rows by what stands where a reading is; a cut field has no tag and length to be checked
unfoldable pub rows_at : List ℕ → Reading → Field → List Row
rows_at s st End = end_rows st
rows_at s st Cut = cut_row s st ∷ []
rows_at s st (Whole tag len) = field_rows s st tag len
