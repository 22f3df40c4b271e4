-- What the tests of ranges ask of their callers.
use Rattle.std.specs.Prelude.{ℕ, ◌+◌, ◌*◌, ◌≤◌, ◌<◌, ◌^◌}
use Rattle.sheet.specs.Limits.{most_stations}
use Rattle.sheet.specs.Among.{Among}
use Rattle.sheet.specs.FieldTable.{field_table, lengths_due}

-- of a strip: its content begins so far from the end of the numbers of 64 bits, and it has so few stations, that no offset within it wraps
pub record StripPre (c stations : ℕ) : Type 0 where
  pub begins : c < 2 ^ 63
  pub few_stations : stations ≤ most_stations

-- of a weight: so does the content, and the weight stands soon behind
pub record WeightPre (c others : ℕ) : Type 0 where
  pub begins : c < 2 ^ 63
  pub soon : others ≤ 2 * most_stations + 2

-- of any field: its content begins as far from that end, and its length is one that is due
pub record RangePre (c tag len stations desks : ℕ) : Type 0 where
  pub begins : c < 2 ^ 63
  pub due : Among len (lengths_due tag (field_table stations desks))
