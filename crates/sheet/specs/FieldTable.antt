-- The field table of 01 ("The sheet"), with the second flight head of 02, Req 06, the second block of Req 07 and the weights of Req 09: for each tag the
-- numbers of its content from left to right, each with its width in bytes and its range. The length of a content is the sum of its widths. Where the quoted
-- table has 10,000 the upper end of a time is now `most_time`, 60,000 (02, Req 01); the lower ends are the table's.
use Prim.{Unit}
use Rattle.std.specs.Prelude.{ℕ, zero, suc, ◌+◌, ◌≤◌, Bool, cond, ◌&&◌, List, [], ◌∷◌, ◌++◌, eqb, leb}
use Rattle.field.specs.Bytes.{number_at}
use Rattle.sheet.specs.Limits.{most_stations, most_desks, most_time, most_turn, most_weight}
use Rattle.sheet.specs.Tags.{mosaic_head_tag, mosaic_strip_tag, sorting_head_tag, sorting_strip_tag, flight_head_tag, flight_block_tag, flight_order_tag}
use Rattle.sheet.specs.Tags.{flight_window_block_tag}
use Rattle.sheet.specs.declared.Reading.{Reading}

-- The range of a number: a count from `least` to `most`, a time from 0 to `most`, a time from 1 to `most`, or none.
pub data Range : Type 0 where
  count : (least most : ℕ) → Range
  time : (most : ℕ) → Range
  positive_time : (most : ℕ) → Range
  no_range : Range

-- a number of a content: how many bytes it takes, and its range
pub record Item : Type 0 where
  pub width : ℕ
  pub range : Range

abbrev pub item : ℕ → Range → Item
item width range = record { width = width; range = range }

-- "stations m (1 byte, 1 to 4), mount time s (2 bytes, 0 to 10,000)"
unfoldable pub mosaic_head : List Item
mosaic_head = item 1 (count 1 most_stations) ∷ item 2 (time most_time) ∷ []

-- "m station times (2 bytes each, 0 to 10,000; 0 means camera off), then bench time (2 bytes, 1 to 10,000)"
unfoldable pub mosaic_strip : ℕ → List Item
mosaic_strip zero = item 2 (positive_time most_time) ∷ []
mosaic_strip (suc m) = item 2 (time most_time) ∷ mosaic_strip m

-- "desks m (1 byte, 1 to 3)"
unfoldable pub sorting_head : List Item
sorting_head = item 1 (count 1 most_desks) ∷ []

-- "desk (1 byte, 1 to m), scan time, desk time (2 bytes each, 1 to 10,000)"
unfoldable pub sorting_strip : ℕ → List Item
sorting_strip m = item 1 (count 1 m) ∷ item 2 (positive_time most_time) ∷ item 2 (positive_time most_time) ∷ []

-- 02, Req 09: "A mosaic or sorting strip may carry one last byte, its weight, 1 to 100"; "any other value is 6", as of a count
abbrev pub weight : Item
weight = item 1 (count 1 most_weight)

unfoldable pub with_weight : List Item → List Item
with_weight content = content ++ (weight ∷ [])

-- "empty"; 02, Req 06: "The flight head may carry two bytes, the turn g, 0 to 600 seconds"
unfoldable pub empty_flight_head : List Item
empty_flight_head = []

unfoldable pub turn_flight_head : List Item
turn_flight_head = item 2 (time most_turn) ∷ []

-- "first pass a, delay l, second pass b (2 bytes each; a and b 1 to 10,000, l 0 to 10,000)"
unfoldable pub flight_block : List Item
flight_block = item 2 (positive_time most_time) ∷ item 2 (time most_time) ∷ item 2 (positive_time most_time) ∷ []

-- 02, Req 07: "a, shortest delay, longest delay, b, each as in 31"
unfoldable pub flight_window_block : List Item
flight_window_block = item 2 (positive_time most_time) ∷ item 2 (time most_time) ∷ item 2 (time most_time) ∷ item 2 (positive_time most_time) ∷ []

-- "an 8-byte number"
unfoldable pub flight_order : List Item
flight_order = item 8 no_range ∷ []

-- A row of the table: a tag and what its content is. A tag that may have one of two contents has two rows.
pub record TableRow : Type 0 where
  pub tag : ℕ
  pub content : List Item

abbrev pub table_row : ℕ → List Item → TableRow
table_row tag content = record { tag = tag; content = content }

-- The rows of a mosaic strip, which are there for the station counts that a mosaic head may have, 1 to 4.
unfoldable pub is_station_count : ℕ → Bool
is_station_count stations = leb 1 stations && leb stations most_stations

unfoldable pub strip_rows : ℕ → List TableRow
strip_rows stations =
    cond (is_station_count stations) (table_row mosaic_strip_tag (mosaic_strip stations) ∷ table_row mosaic_strip_tag (with_weight (mosaic_strip stations)) ∷ []) []

-- The table, with so many stations in the head of the mosaic and so many desks in that of the sorting.
unfoldable pub field_table : ℕ → ℕ → List TableRow
field_table stations desks =
    table_row mosaic_head_tag mosaic_head
    ∷ (strip_rows stations
    ++ (table_row sorting_head_tag sorting_head
    ∷ table_row sorting_strip_tag (sorting_strip desks)
    ∷ table_row sorting_strip_tag (with_weight (sorting_strip desks))
    ∷ table_row flight_head_tag empty_flight_head
    ∷ table_row flight_head_tag turn_flight_head
    ∷ table_row flight_block_tag flight_block
    ∷ table_row flight_window_block_tag flight_window_block
    ∷ table_row flight_order_tag flight_order
    ∷ []))

-- the table where a reading stands: with the stations and the desks of the heads before
abbrev pub table_of : Reading → List TableRow
table_of st = field_table st.mosaic.stations st.sorting.desks

-- The length of a content: the sum of its widths.
unfoldable pub length_of : List Item → ℕ
length_of [] = 0
length_of (i ∷ content) = i.width + length_of content

-- the contents that the table has for a tag, none for a tag outside it
unfoldable pub contents_of : ℕ → List TableRow → List (List Item)
contents_of tag [] = []
contents_of tag (r ∷ table) = cond (eqb tag r.tag) (r.content ∷ contents_of tag table) (contents_of tag table)

-- the lengths of several contents
unfoldable pub lengths_of : List (List Item) → List ℕ
lengths_of [] = []
lengths_of (content ∷ contents) = length_of content ∷ lengths_of contents

-- the lengths that are due for a tag
unfoldable pub lengths_due : ℕ → List TableRow → List ℕ
lengths_due tag table = lengths_of (contents_of tag table)

-- of several contents the first that has a length; the empty content where none has it
unfoldable pub of_length : ℕ → List (List Item) → List Item
of_length len [] = []
of_length len (content ∷ contents) = cond (eqb len (length_of content)) content (of_length len contents)

-- A value is a number with its range.
pub data Value : Type 0 where
  value : Range → ℕ → Value

-- the numbers of a content that begins at an offset c of the sheet s: they stand one behind the other
unfoldable pub numbers_at : List ℕ → ℕ → List Item → List ℕ
numbers_at s c [] = []
numbers_at s c (i ∷ content) = number_at s c i.width ∷ numbers_at s (c + i.width) content

-- the values of a content: each of its numbers with its range
unfoldable pub values_of : List Item → List ℕ → List Value
values_of [] numbers = []
values_of (i ∷ content) [] = []
values_of (i ∷ content) (n ∷ numbers) = value i.range n ∷ values_of content numbers

-- the values of a content that begins at an offset c of the sheet s
unfoldable pub content_values : List ℕ → ℕ → List Item → List Value
content_values s c content = values_of content (numbers_at s c content)

-- the values of a field of a tag and a content length: those of the content of that length, and none where no content of the tag has it
unfoldable pub field_values : List ℕ → ℕ → ℕ → ℕ → List TableRow → List Value
field_values s c tag len table = content_values s c (of_length len (contents_of tag table))

-- a number from `least` to `most`
pub record Between (least number most : ℕ) : Type 0 where
  pub at_least : least ≤ number
  pub at_most : number ≤ most

-- a value is within its range; one without a range always is
unfoldable pub Within : Value → Type 0
Within (value (count least most) number) = Between least number most
Within (value (time most) number) = Between 0 number most
Within (value (positive_time most) number) = Between 1 number most
Within (value no_range number) = Unit

-- every value is within its range
unfoldable pub InRange : List Value → Type 0
InRange [] = Unit
InRange (v ∷ values) = Within v × InRange values
