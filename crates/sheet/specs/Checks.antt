-- The tests by which the reader finds the causes of the table "Turned back" (Causes.antt says what these are), one for each row, and one for the
-- three rows of 6, 15 and 16.
use Rattle.std.specs.Prelude.{ℕ, Bool, true, false, cond, not, ◌&&◌, ◌||◌, List, [], ◌∷◌, ltb, leb, eqb}
use Rattle.base.specs.Branch.{check}
use Rattle.order.specs.Order.{is_proper}
use Rattle.sheet.specs.Limits.{most_strips, most_strips_of_desk, most_blocks, most_blocks_without_order}
use Rattle.sheet.specs.Tags.{mosaic_head_tag, mosaic_strip_tag, sorting_head_tag, sorting_strip_tag, flight_head_tag, flight_block_tag, flight_order_tag}
use Rattle.sheet.specs.Tags.{flight_window_block_tag}
use Rattle.sheet.specs.Refusals.{out_of_range, time_too_large, time_of_zero}
use Rattle.sheet.specs.Sections.{no_section, in_mosaic, in_sorting, in_flight}
use Rattle.sheet.specs.FieldTable.{Value}
use Rattle.sheet.specs.FieldTable.Range.{count, time, positive_time, no_range}
use Rattle.sheet.specs.FieldTable.Value.{value}
use Rattle.sheet.specs.Rows.{first_failure}

-- "Only tags 10, 20, 30 and the end of the sheet end a section."
unfoldable pub ends_section : ℕ → Bool
ends_section tag = eqb tag mosaic_head_tag || (eqb tag sorting_head_tag || eqb tag flight_head_tag)

-- 8, "section without members": where the tag ends the section before, that section has a member
unfoldable pub section_filled : ℕ → ℕ → ℕ → Bool
section_filled tag section members = not (ends_section tag) || (eqb section no_section || leb 1 members)

-- 10, "over 8 blocks and no order"
unfoldable pub few_blocks : ℕ → ℕ → Bool
few_blocks section members = not (eqb section in_flight) || leb members most_blocks_without_order

unfoldable pub order_given : ℕ → ℕ → ℕ → Bool
order_given tag section members = not (ends_section tag) || few_blocks section members

-- "Flight: up to 32 blocks, then optionally one order field, which ends the sheet"; "order field with no block before it" is 4
unfoldable pub order_permitted : ℕ → ℕ → Bool
order_permitted section members = eqb section in_flight && leb 1 members

-- 4, "tag not permitted next". "One to three sections stand in the order 10, 20, 30, each at most once"
unfoldable pub permitted : ℕ → ℕ → ℕ → Bool
permitted tag section members =
    cond (eqb tag mosaic_head_tag) (eqb section no_section)
    (cond (eqb tag mosaic_strip_tag) (eqb section in_mosaic)
    (cond (eqb tag sorting_head_tag) (ltb section in_sorting)
    (cond (eqb tag sorting_strip_tag) (eqb section in_sorting)
    (cond (eqb tag flight_head_tag) (ltb section in_flight)
    (cond (eqb tag flight_block_tag) (eqb section in_flight)
    (cond (eqb tag flight_window_block_tag) (eqb section in_flight)
    (cond (eqb tag flight_order_tag) (order_permitted section members)
    false)))))))

-- the number that a count gives: 6, "value out of its range"
unfoldable pub count_number : ℕ → ℕ → ℕ → ℕ
count_number least number most = check (leb least number && leb number most) out_of_range 0

-- the number that a time gives: "15, a time above its upper end; 16, a time of zero where at least 1 is due"
unfoldable pub time_number : ℕ → ℕ → ℕ → ℕ
time_number least number most = check (leb number most) time_too_large (check (leb least number) time_of_zero 0)

unfoldable pub value_number : Value → ℕ
value_number (value (count least most) number) = count_number least number most
value_number (value (time most) number) = time_number 0 number most
value_number (value (positive_time most) number) = time_number 1 number most
value_number (value no_range number) = 0

-- the numbers that the values of a field give, "from left to right", and the first of them that is not 0
unfoldable pub value_numbers : List Value → List ℕ
value_numbers [] = []
value_numbers (v ∷ values) = value_number v ∷ value_numbers values

unfoldable pub range_number : List Value → ℕ
range_number values = first_failure (value_numbers values)

-- 17, "longest below shortest": the window of a block that has one is not empty
unfoldable pub window_ordered : ℕ → ℕ → ℕ → Bool
window_ordered tag shortest longest = cond (eqb tag flight_window_block_tag) (leb shortest longest) true

-- 7, "41st mosaic strip, 7th for one desk, 33rd block": there is room for one member more
unfoldable pub has_room : ℕ → ℕ → ℕ → Bool
has_room tag members of_desk =
    cond (eqb tag mosaic_strip_tag) (ltb members most_strips)
    (cond (eqb tag sorting_strip_tag) (ltb of_desk most_strips_of_desk)
    (cond (eqb tag flight_block_tag) (ltb members most_blocks)
    (cond (eqb tag flight_window_block_tag) (ltb members most_blocks)
    true)))

-- 9, "order number not proper"
unfoldable pub order_proper : ℕ → ℕ → ℕ → Bool
order_proper tag members order = cond (eqb tag flight_order_tag) (is_proper members order) true
