-- Where the flight's head and its order field stand in a sheet (02, Req 06: 11 is given at one or the other), what turn the head gives, and which field each
-- block was read from (Req 07).
-- The idea: the place that the reading keeps is that of the field which it has just passed, and the fields between change neither it nor the turn; a block is
-- added behind those before it.
use Rattle.std.specs.Prelude.{ℕ, ◌+◌, ◌≤◌, ◌<◌, ◌≡◌, false, List, ◌⊎◌, get_or}
use Rattle.std.proofs.Common.{◌∙◌, true≢false}
use Rattle.field.specs.Bytes.{number_at}
use Rattle.field.specs.Field.{field_at}
use Rattle.field.specs.declared.Field.TheVariants.{Whole}
use Rattle.sheet.specs.Tags.{flight_head_tag, flight_block_tag, flight_order_tag}
use Rattle.sheet.specs.Tags.{flight_window_block_tag}
use Rattle.sheet.specs.Causes.{field_rows}
use Rattle.sheet.specs.Rows.{NoCause}
use Rattle.sheet.specs.Table.{Reached}
use Rattle.sheet.specs.Decode.{exact_block, window_block}
use Rattle.sheet.specs.declared.Block.{Block}
use Rattle.sheet.specs.declared.FlightSection.{FlightSection}
use Rattle.sheet.specs.declared.Reading.{Reading}

-- a field of a tag and a content length stands at an offset of the sheet: the reading comes to it, every field before it passes, and it passes too
pub record FieldRead (s : List ℕ) (tag len at : ℕ) : Type 0 where
  pub reading : Reading
  pub reached : Reached s reading
  pub place_is : at ≡ reading.at
  pub whole : field_at s reading.at ≡ Whole tag len
  pub passes : NoCause (field_rows s reading tag len)

-- the head of a flight section: where it stands, that the turn is the one that it gives ("The flight head may carry two bytes, the turn g ..; an empty head
-- means 0"), and that without an order the place of 11 is its place
pub record HeadRead (s : List ℕ) (f : FlightSection) : Type 0 where
  pub at : ℕ
  pub len : ℕ
  pub head : FieldRead s flight_head_tag len at
  pub turn_is : ((len ≡ 0) × (f.turn ≡ 0)) ⊎ ((len ≡ 2) × (f.turn ≡ number_at s (at + 3) 2))
  pub place_is : f.ordered ≡ false → f.place ≡ at

-- its order field, whose place is that of 11
pub record OrderRead (s : List ℕ) (f : FlightSection) : Type 0 where
  pub len : ℕ
  pub order : FieldRead s flight_order_tag len f.place

-- block i, from 0, of a flight section
abbrev pub block_at : FlightSection → ℕ → Block
block_at f i = record { first = get_or f.first i 0; shortest = get_or f.shortest i 0; longest = get_or f.longest i 0; second = get_or f.second i 0 }

-- the field that block i, from 0, was read from, i blocks having been read before it: one of tag 31, whose delay is exact, or one of tag 33, which carries
-- "a, shortest delay, longest delay, b"
pub data BlockRead (s : List ℕ) (i : ℕ) (b : Block) : Type 0 where
  exact : (at : ℕ) (field : FieldRead s flight_block_tag 6 at) → field.reading.flight.blocks ≡ i → b ≡ exact_block s (at + 3) → BlockRead s i b
  window : (at : ℕ) (field : FieldRead s flight_window_block_tag 8 at) → field.reading.flight.blocks ≡ i → b ≡ window_block s (at + 3) → BlockRead s i b
