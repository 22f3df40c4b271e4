-- What reading a sheet gives, for every row of bytes: the number and place of its refusal, or 0, 0 and its sections.
-- 01: "The planner checks 1, 2, then each field for 3, then 8 or 10 if its tag ends the section before, then 4, 5, 6, 7, 9." 02 adds 15 and 16 "in the place of
-- 6", and 17 "right after the ranges of the same field and before 7".
use Rattle.std.specs.Prelude.{ℕ, zero, suc, ◌+◌, true, false, cond, List, [], ◌∷◌, length, leb, eqb}
use Rattle.base.specs.Branch.{check}
use Rattle.field.specs.Field.{field_at}
use Rattle.field.specs.declared.Field.TheVariants.{End, Cut, Whole}
use Rattle.sheet.specs.Refusals.{field_cut, tag_not_permitted, length_wrong, too_many, no_members, order_not_proper, order_missing, longest_below_shortest}
use Rattle.sheet.specs.Checks.{section_filled, order_given, few_blocks, permitted, range_number, window_ordered, has_room, order_proper}
use Rattle.sheet.specs.Sections.{strips_of_desk}
use Rattle.sheet.specs.Among.{is_among}
use Rattle.sheet.specs.FieldTable.{table_of, lengths_due, field_values}
use Rattle.sheet.specs.Rows.{first_failure}
use Rattle.field.specs.Bytes.{number_at}
use Rattle.sheet.specs.Decode.{no_mosaic, no_sorting, no_flight, next_reading, start_reading}
use Rattle.sheet.specs.declared.Reading.{Reading}
use Rattle.sheet.specs.declared.Sheet.{Sheet}

-- the checks of a field of a permitted tag for its content: "5, 6, 7, 9", 15 and 16 "in the place of 6", 17 before 7
unfoldable pub content_checks : List ℕ → Reading → ℕ → ℕ → List ℕ
content_checks s st tag len =
    check (is_among len (lengths_due tag (table_of st))) length_wrong 0
    ∷ range_number (field_values s (st.at + 3) tag len (table_of st))
    ∷ check (window_ordered tag (number_at s (st.at + 3 + 2) 2) (number_at s (st.at + 3 + 4) 2)) longest_below_shortest 0
    ∷ check (has_room tag st.members (strips_of_desk st.sorting.counts (number_at s (st.at + 3) 1))) too_many 0
    ∷ check (order_proper tag st.members (number_at s (st.at + 3) 8)) order_not_proper 0
    ∷ []

-- the checks of a whole field, each the number that it gives, 0 where the field passes it
unfoldable pub field_checks : List ℕ → Reading → ℕ → ℕ → List ℕ
field_checks s st tag len =
    check (section_filled tag st.section st.members) no_members 0
    ∷ check (order_given tag st.section st.members) order_missing 0
    ∷ check (permitted tag st.section st.members) tag_not_permitted 0
    ∷ content_checks s st tag len

-- the number that a whole field is refused with, 0 where it passes all checks
unfoldable pub field_number : List ℕ → Reading → ℕ → ℕ → ℕ
field_number s st tag len = first_failure (field_checks s st tag len)

-- the checks of the end of the sheet, and the number that it is refused with
unfoldable pub end_checks : ℕ → ℕ → List ℕ
end_checks section members = check (leb 1 members) no_members 0 ∷ check (few_blocks section members) order_missing 0 ∷ []

unfoldable pub end_number : ℕ → ℕ → ℕ
end_number section members = first_failure (end_checks section members)

-- "Place is the offset of the tag of the field named": the section's head for 8 and 10 (0 for the empty sheet), else the field
unfoldable pub place_of : ℕ → ℕ → ℕ → ℕ
place_of number head at = cond (eqb number no_members) head (cond (eqb number order_missing) head at)

unfoldable pub refused : ℕ → ℕ → Sheet
refused number place = record { number = number; place = place; mosaic = no_mosaic; sorting = no_sorting; flight = no_flight }

unfoldable pub accepted : Reading → Sheet
accepted st = record { number = 0; place = 0; mosaic = st.mosaic; sorting = st.sorting; flight = st.flight }

unfoldable pub at_end : Reading → ℕ → Sheet
at_end st number = cond (eqb number 0) (accepted st) (refused number st.head)

-- the sheet read field by field from where a reading stands; each field takes three bytes or more, so as many steps as bytes and one more are enough
unfoldable pub read_from : ℕ → List ℕ → Reading → Sheet
read_from zero s st = refused 0 0
read_from (suc steps) s st =
    elim (field_at s st.at) [
      | End ↦ at_end st (end_number st.section st.members)
      | Cut ↦ refused field_cut st.at
      | Whole tag len ↦
          elim (eqb (field_number s st tag len) 0) [
            | true ↦ read_from steps s (next_reading s st tag len)
            | false ↦ refused (field_number s st tag len) (place_of (field_number s st tag len) st.head st.at)
          ]
    ]

unfoldable pub read_sheet : List ℕ → Sheet
read_sheet s = read_from (length s + 1) s start_reading
