-- The field table by tag: the contents that it has for each, two for a flight head and for a strip, and that a field of a length that is due has the values of
-- its content.
-- The idea: for a tag that is known the table computes. Only the rows of a mosaic strip do not: they are there or not by the number of stations.
use Rattle.std.specs.Prelude.{ℕ, zero, suc, ◌+◌, ◌*◌, ◌≤◌, ◌≡◌, Bool, ◌&&◌, ◌⊎◌, eqb}
use Rattle.std.proofs.Math.Path.{refl, sym, ap, ap₂, subst}
use Rattle.std.proofs.Common.{◌∙◌, true≢false, arith}
use Rattle.std.proofs.Math.Bool.{true, false, cond}
use mathlib.Core.List.{List, [], ◌∷◌, ◌++◌, append-nil}
use Rattle.std.proofs.Math.Logic.{inl, inr}
use borrow.Author.Tests.{eq-eqb, ne_eqb, eqb-true, le-leb, leb-true}
use Rattle.base.specs.Branch.{both}
use Rattle.field.specs.Bytes.{number_at}
use Rattle.sheet.specs.Limits.{most_stations, most_time, most_weight}
use Rattle.sheet.specs.Tags.{mosaic_head_tag, mosaic_strip_tag, sorting_head_tag, sorting_strip_tag, flight_head_tag, flight_block_tag, flight_order_tag}
use Rattle.sheet.specs.Tags.{flight_window_block_tag}
use Rattle.sheet.specs.Among.{Among}
use Rattle.sheet.specs.FieldTable.{Item, TableRow, table_row, mosaic_head, mosaic_strip, sorting_head, sorting_strip, flight_block, flight_window_block, flight_order}
use Rattle.sheet.specs.FieldTable.{weight, with_weight, empty_flight_head, turn_flight_head}
use Rattle.sheet.specs.FieldTable.{is_station_count, strip_rows, field_table, length_of, contents_of, lengths_of, lengths_due, of_length, Value, numbers_at, values_of}
use Rattle.sheet.specs.FieldTable.{content_values, field_values}
use Rattle.sheet.specs.FieldTable.Range.{count, time, positive_time}
use Rattle.sheet.specs.FieldTable.Value.{value}
use Rattle.sheet.specs.Contents.{RowOfLength, weight_values, strip_from}

-- a station count is 1 to 4
is_count : (stations : ℕ) → 1 ≤ stations → stations ≤ most_stations → is_station_count stations ≡ true
unfolding is_station_count
is_count stations lo hi = ap₂ ◌&&◌ (le-leb 1 stations lo) (le-leb stations most_stations hi)

count_bounds : (stations : ℕ) → is_station_count stations ≡ true → (1 ≤ stations) × (stations ≤ most_stations)
unfolding is_station_count
count_bounds stations e = let p = both _ _ e in (leb-true 1 stations p.0, leb-true stations most_stations p.1)

-- the rows of a strip change nothing for another tag ..
past_strip : (tag stations : ℕ) (rows : List TableRow) → (tag ≡ mosaic_strip_tag → ⊥) → contents_of tag (strip_rows stations ++ rows) ≡ contents_of tag rows
unfolding strip_rows contents_of
past_strip tag stations rows h = go (is_station_count stations)
  where
    go : (b : Bool)
        → contents_of tag (cond b (table_row mosaic_strip_tag (mosaic_strip stations) ∷ table_row mosaic_strip_tag (with_weight (mosaic_strip stations)) ∷ []) [] ++ rows)
        ≡ contents_of tag rows
    go true = rw (ne_eqb tag mosaic_strip_tag h) refl
    go false = refl

-- .. and are there for 1 to 4 stations
at_strip : (stations : ℕ) (rows : List TableRow) → 1 ≤ stations → stations ≤ most_stations
    → contents_of mosaic_strip_tag (strip_rows stations ++ rows) ≡ mosaic_strip stations ∷ with_weight (mosaic_strip stations) ∷ contents_of mosaic_strip_tag rows
unfolding strip_rows contents_of
at_strip stations rows lo hi = rw (is_count stations lo hi)

no_strip : (stations : ℕ) (rows : List TableRow) → (1 ≤ stations → stations ≤ most_stations → ⊥)
    → contents_of mosaic_strip_tag (strip_rows stations ++ rows) ≡ contents_of mosaic_strip_tag rows
unfolding strip_rows
no_strip stations rows h = go (is_station_count stations) refl
  where
    go : (b : Bool) → is_station_count stations ≡ b
        → contents_of mosaic_strip_tag
        (cond b (table_row mosaic_strip_tag (mosaic_strip stations) ∷ table_row mosaic_strip_tag (with_weight (mosaic_strip stations)) ∷ []) [] ++ rows)
        ≡ contents_of mosaic_strip_tag rows
    go true e = let p = count_bounds stations e in absurd (h p.0 p.1)
    go false e = refl

-- 2 bytes for each station and 2 for the bench
pub strip_length : (stations : ℕ) → length_of (mosaic_strip stations) ≡ 2 * stations + 2
unfolding mosaic_strip length_of
strip_length zero = refl
strip_length (suc m) = let h = strip_length m in omega arith

-- a content with more behind it: its length, and its values
length_behind : (content more : List Item) → length_of (content ++ more) ≡ length_of content + length_of more
unfolding length_of
length_behind [] more = omega arith
length_behind (i ∷ content) more = omega (arith, length_behind content more)

values_behind : (s : List ℕ) (c : ℕ) (content more : List Item)
    → content_values s c (content ++ more) ≡ content_values s c content ++ content_values s (c + length_of content) more
unfolding content_values numbers_at values_of length_of
values_behind s c [] more = ap (λ at. content_values s at more) (omega arith)
values_behind s c (i ∷ content) more =
    ap (λ (values : List Value). value i.range (number_at s c i.width) ∷ values)
    (values_behind s (c + i.width) content more ∙ ap (λ at. content_values s (c + i.width) content ++ content_values s at more) there)
  where
    there : c + i.width + length_of content ≡ c + (i.width + length_of content)
    there = omega arith

-- one byte for a weight
pub weighted_length : (content : List Item) → length_of (with_weight content) ≡ length_of content + 1
unfolding with_weight length_of
weighted_length content = omega (arith, length_behind content (weight ∷ []))

weighted_values : (s : List ℕ) (c : ℕ) (content : List Item)
    → content_values s c (with_weight content) ≡ content_values s c content ++ (value (count 1 most_weight) (number_at s (c + length_of content) 1) ∷ [])
unfolding with_weight content_values numbers_at values_of
weighted_values s c content = values_behind s c content _

-- the contents of each tag of the table
module _ (stations desks : ℕ) where
  pub mosaic_head_content : contents_of mosaic_head_tag (field_table stations desks) ≡ mosaic_head ∷ []
  unfolding field_table contents_of
  mosaic_head_content = ap (λ l. mosaic_head ∷ l) (past_strip mosaic_head_tag stations _ (λ e. omega arith))

  pub mosaic_strip_contents : 1 ≤ stations → stations ≤ most_stations
      → contents_of mosaic_strip_tag (field_table stations desks) ≡ mosaic_strip stations ∷ with_weight (mosaic_strip stations) ∷ []
  unfolding field_table contents_of
  mosaic_strip_contents lo hi = at_strip stations _ lo hi

  pub no_strip_content : (1 ≤ stations → stations ≤ most_stations → ⊥) → contents_of mosaic_strip_tag (field_table stations desks) ≡ []
  unfolding field_table contents_of
  no_strip_content h = no_strip stations _ h

  pub sorting_head_content : contents_of sorting_head_tag (field_table stations desks) ≡ sorting_head ∷ []
  unfolding field_table contents_of
  sorting_head_content = past_strip sorting_head_tag stations _ (λ e. omega arith)

  pub sorting_strip_contents : contents_of sorting_strip_tag (field_table stations desks) ≡ sorting_strip desks ∷ with_weight (sorting_strip desks) ∷ []
  unfolding field_table contents_of
  sorting_strip_contents = past_strip sorting_strip_tag stations _ (λ e. omega arith)

  pub flight_head_contents : contents_of flight_head_tag (field_table stations desks) ≡ empty_flight_head ∷ turn_flight_head ∷ []
  unfolding field_table contents_of
  flight_head_contents = past_strip flight_head_tag stations _ (λ e. omega arith)

  pub flight_block_content : contents_of flight_block_tag (field_table stations desks) ≡ flight_block ∷ []
  unfolding field_table contents_of
  flight_block_content = past_strip flight_block_tag stations _ (λ e. omega arith)

  pub flight_window_block_content : contents_of flight_window_block_tag (field_table stations desks) ≡ flight_window_block ∷ []
  unfolding field_table contents_of
  flight_window_block_content = past_strip flight_window_block_tag stations _ (λ e. omega arith)

  pub flight_order_content : contents_of flight_order_tag (field_table stations desks) ≡ flight_order ∷ []
  unfolding field_table contents_of
  flight_order_content = past_strip flight_order_tag stations _ (λ e. omega arith)

  -- no byte and two bytes are due for a flight head, and no other length
  pub head_lengths : lengths_due flight_head_tag (field_table stations desks) ≡ 0 ∷ 2 ∷ []
  unfolding lengths_due lengths_of length_of empty_flight_head turn_flight_head
  head_lengths = rw flight_head_contents refl

  -- a tag outside the table has none
  pub no_content : (tag : ℕ) → (tag ≡ mosaic_head_tag → ⊥) → (tag ≡ mosaic_strip_tag → ⊥) → (tag ≡ sorting_head_tag → ⊥) → (tag ≡ sorting_strip_tag → ⊥)
      → (tag ≡ flight_head_tag → ⊥) → (tag ≡ flight_block_tag → ⊥) → (tag ≡ flight_window_block_tag → ⊥) → (tag ≡ flight_order_tag → ⊥)
      → contents_of tag (field_table stations desks) ≡ []
  unfolding field_table contents_of
  no_content tag h₁ h₂ h₃ h₄ h₅ h₆ h₇ h₈ =
      rw (
        ne_eqb tag mosaic_head_tag h₁,
        past_strip tag stations _ h₂,
        ne_eqb tag sorting_head_tag h₃,
        ne_eqb tag sorting_strip_tag h₄,
        ne_eqb tag flight_head_tag h₅,
        ne_eqb tag flight_block_tag h₆,
        ne_eqb tag flight_window_block_tag h₇,
        ne_eqb tag flight_order_tag h₈,
      )

-- the length of each row is due for its tag, each length that is due is that of a row, and for a tag of no row none is
module _ (tag : ℕ) where
  pub row_due : (table : List TableRow) (r : TableRow) → Among r table → tag ≡ r.tag → Among (length_of r.content) (lengths_due tag table)
  unfolding Among lengths_due contents_of lengths_of
  row_due [] r a e = absurd a
  row_due (q ∷ table) r (inl h) e = rw (eq-eqb tag q.tag (e ∙ ap (λ (x : TableRow). x.tag) h)) (inl (ap (λ (x : TableRow). length_of x.content) h))
  row_due (q ∷ table) r (inr a) e = behind (eqb tag q.tag) (row_due table r a e)
    where
      behind : (b : Bool) → Among (length_of r.content) (lengths_of (contents_of tag table))
          → Among (length_of r.content) (lengths_of (cond b (q.content ∷ contents_of tag table) (contents_of tag table)))
      behind true a = inr a
      behind false a = a

  pub due_row : (len : ℕ) (table : List TableRow) → Among len (lengths_due tag table) → RowOfLength tag len table
  unfolding Among lengths_due contents_of lengths_of
  due_row len [] a = absurd a
  due_row len (q ∷ table) a = go (eqb tag q.tag) refl a (due_row len table)
    where
      behind : RowOfLength tag len table → RowOfLength tag len (q ∷ table)
      behind r = record { row = r.row; in_table = inr r.in_table; of_tag = r.of_tag; of_length_holds = r.of_length_holds }

      go : (b : Bool) → eqb tag q.tag ≡ b → Among len (lengths_of (cond b (q.content ∷ contents_of tag table) (contents_of tag table)))
          → (Among len (lengths_of (contents_of tag table)) → RowOfLength tag len table) → RowOfLength tag len (q ∷ table)
      go true e (inl h) later = record { row = q; in_table = inl refl; of_tag = eqb-true tag q.tag e; of_length_holds = h }
      go true e (inr a) later = behind (later a)
      go false e a later = behind (later a)

  pub no_row_due : (table : List TableRow) → ((r : TableRow) → Among r table → tag ≡ r.tag → ⊥) → lengths_due tag table ≡ []
  unfolding Among lengths_due contents_of lengths_of
  no_row_due [] none = refl
  no_row_due (q ∷ table) none = rw (ne_eqb tag q.tag (none q (inl refl))) (no_row_due table (λ r a. none r (inr a)))

-- where a tag has one content, a field of a length that is due has the values of that content
module _ (tag len : ℕ) (table : List TableRow) (content : List Item) (one : contents_of tag table ≡ content ∷ [])
    (due : Among len (lengths_due tag table)) where
  pub sole_length : len ≡ length_of content
  unfolding lengths_due lengths_of Among
  sole_length = only (subst (λ contents. Among len (lengths_of contents)) one due)
    where
      only : Among len (length_of content ∷ []) → len ≡ length_of content
      only (inl e) = e
      only (inr a) = absurd a

  sole_values : (s : List ℕ) (c : ℕ) → field_values s c tag len table ≡ content_values s c content
  unfolding field_values of_length
  sole_values s c = ap (content_values s c) (ap (of_length len) one ∙ found)
    where
      found : cond (eqb len (length_of content)) content [] ≡ content
      found = rw (eq-eqb len (length_of content) sole_length)

-- where a tag has a content without and with a weight, a field of a length that is due has one of the two lengths, and the values of the content and of the
-- weight
module _ (tag len : ℕ) (table : List TableRow) (content : List Item) (two : contents_of tag table ≡ content ∷ with_weight content ∷ [])
    (due : Among len (lengths_due tag table)) where
  pub either_length : (len ≡ length_of content) ⊎ (len ≡ length_of content + 1)
  unfolding lengths_due lengths_of Among
  either_length = either (subst (λ contents. Among len (lengths_of contents)) two due)
    where
      either : Among len (length_of content ∷ length_of (with_weight content) ∷ []) → (len ≡ length_of content) ⊎ (len ≡ length_of content + 1)
      either (inl e) = inl e
      either (inr (inl e)) = inr (e ∙ weighted_length content)
      either (inr (inr a)) = absurd a

  pub either_values : (s : List ℕ) (c : ℕ) → field_values s c tag len table ≡ content_values s c content ++ weight_values s c len (length_of content)
  unfolding field_values of_length weight_values
  either_values s c = ap (content_values s c) (ap (of_length len) two) ∙ go either_length
    where
      go : (len ≡ length_of content) ⊎ (len ≡ length_of content + 1)
          → content_values s c (cond (eqb len (length_of content)) content (cond (eqb len (length_of (with_weight content))) (with_weight content) []))
          ≡ content_values s c content ++ cond (eqb len (length_of content)) [] (value (count 1 most_weight) (number_at s (c + length_of content) 1) ∷ [])
      go (inl e) = rw (eq-eqb len (length_of content) e) (sym (append-nil (content_values s c content)))
      go (inr e) =
          rw (ne_eqb len (length_of content) (λ h. omega arith), eq-eqb len (length_of (with_weight content)) (e ∙ sym (weighted_length content)))
          (weighted_values s c content)

module _ (s : List ℕ) (c k : ℕ) where
  pub strip_from_start : content_values s c (mosaic_strip k) ≡ strip_from s c 0 k
  unfolding strip_from
  strip_from_start = ap (λ at. content_values s at (mosaic_strip k)) (omega arith)

  pub strip_bench_left : strip_from s c k 0 ≡ value (positive_time most_time) (number_at s (c + 2 * k) 2) ∷ []
  unfolding strip_from content_values mosaic_strip numbers_at values_of
  strip_bench_left = refl

  pub strip_time_left : (n : ℕ) → strip_from s c k (suc n) ≡ value (time most_time) (number_at s (c + 2 * k) 2) ∷ strip_from s c (k + 1) n
  unfolding strip_from content_values mosaic_strip numbers_at values_of
  strip_time_left n =
      ap (λ at. value (time most_time) (number_at s (c + 2 * k) 2) ∷ content_values s at (mosaic_strip n)) (omega arith)

-- where the table has no content for a tag, no length is due for it ..
module _ (tag : ℕ) (table : List TableRow) (none : contents_of tag table ≡ []) where
  pub no_lengths : lengths_due tag table ≡ []
  unfolding lengths_due lengths_of
  no_lengths = ap lengths_of none

  pub none_due : (len : ℕ) → Among len (lengths_due tag table) → ⊥
  unfolding Among
  none_due len a = subst (Among len) no_lengths a

-- .. so where a length is due for a strip, the number of stations is 1 to 4
pub strip_stations : (len stations desks : ℕ) → Among len (lengths_due mosaic_strip_tag (field_table stations desks)) → (1 ≤ stations) × (stations ≤ most_stations)
strip_stations len stations desks due = go (is_station_count stations) refl
  where
    go : (b : Bool) → is_station_count stations ≡ b → (1 ≤ stations) × (stations ≤ most_stations)
    go true e = count_bounds stations e
    go false e = absurd (none_due mosaic_strip_tag _ (no_strip_content stations desks (λ lo hi. true≢false (sym (is_count stations lo hi) ∙ e))) len due)

pub head_length_lem : (len stations desks : ℕ) → Among len (lengths_due flight_head_tag (field_table stations desks)) → (len ≡ 0) ⊎ (len ≡ 2)
unfolding Among
head_length_lem len stations desks due = go (subst (Among len) (head_lengths stations desks) due)
  where
    go : Among len (0 ∷ 2 ∷ []) → (len ≡ 0) ⊎ (len ≡ 2)
    go (inl e) = inl e
    go (inr (inl e)) = inr e
    go (inr (inr a)) = absurd a

-- the values of a field by its tag
module _ (s : List ℕ) (c len stations desks : ℕ) where
  pub mosaic_head_values_lem : Among len (lengths_due mosaic_head_tag (field_table stations desks))
      → field_values s c mosaic_head_tag len (field_table stations desks) ≡ values_of mosaic_head (number_at s c 1 ∷ number_at s (c + 1) 2 ∷ [])
  unfolding content_values mosaic_head numbers_at
  mosaic_head_values_lem due = sole_values mosaic_head_tag len _ mosaic_head (mosaic_head_content stations desks) due s c

  pub mosaic_strip_values : Among len (lengths_due mosaic_strip_tag (field_table stations desks))
      → field_values s c mosaic_strip_tag len (field_table stations desks) ≡ content_values s c (mosaic_strip stations) ++ weight_values s c len (2 * stations + 2)
  mosaic_strip_values due =
      let h = strip_stations len stations desks due in
      either_values mosaic_strip_tag len _ (mosaic_strip stations) (mosaic_strip_contents stations desks h.0 h.1) due s c
      ∙ ap (λ others. content_values s c (mosaic_strip stations) ++ weight_values s c len others) (strip_length stations)

  pub sorting_head_values_lem : Among len (lengths_due sorting_head_tag (field_table stations desks))
      → field_values s c sorting_head_tag len (field_table stations desks) ≡ values_of sorting_head (number_at s c 1 ∷ [])
  unfolding content_values sorting_head numbers_at
  sorting_head_values_lem due = sole_values sorting_head_tag len _ sorting_head (sorting_head_content stations desks) due s c

  pub sorting_strip_values : Among len (lengths_due sorting_strip_tag (field_table stations desks))
      → field_values s c sorting_strip_tag len (field_table stations desks)
      ≡ values_of (sorting_strip desks) (number_at s c 1 ∷ number_at s (c + 1) 2 ∷ number_at s (c + 3) 2 ∷ []) ++ weight_values s c len 5
  unfolding content_values sorting_strip numbers_at length_of
  sorting_strip_values due =
      either_values sorting_strip_tag len _ (sorting_strip desks) (sorting_strip_contents stations desks) due s c
      ∙ ap (λ at. values_of (sorting_strip desks) (number_at s c 1 ∷ number_at s (c + 1) 2 ∷ number_at s at 2 ∷ []) ++ weight_values s c len 5) (omega arith)

  -- an empty head has no value, one with a turn has that
  pub flight_head_values_lem : Among len (lengths_due flight_head_tag (field_table stations desks))
      → field_values s c flight_head_tag len (field_table stations desks) ≡ cond (eqb len 0) [] (values_of turn_flight_head (number_at s c 2 ∷ []))
  unfolding field_values lengths_due lengths_of length_of of_length content_values empty_flight_head turn_flight_head numbers_at values_of Among
  flight_head_values_lem due = rw (flight_head_contents stations desks) (go (rw (flight_head_contents stations desks) at due))
    where
      go : Among len (0 ∷ 2 ∷ [])
          → content_values s c (cond (eqb len 0) [] (cond (eqb len 2) turn_flight_head []))
          ≡ cond (eqb len 0) [] (values_of turn_flight_head (number_at s c 2 ∷ []))
      go (inl e) = rw e
      go (inr (inl e)) = rw e
      go (inr (inr a)) = absurd a

  pub flight_block_values : Among len (lengths_due flight_block_tag (field_table stations desks))
      → field_values s c flight_block_tag len (field_table stations desks)
      ≡ values_of flight_block (number_at s c 2 ∷ number_at s (c + 2) 2 ∷ number_at s (c + 4) 2 ∷ [])
  unfolding content_values flight_block numbers_at
  flight_block_values due =
      sole_values flight_block_tag len _ flight_block (flight_block_content stations desks) due s c
      ∙ ap (λ at. values_of flight_block (number_at s c 2 ∷ number_at s (c + 2) 2 ∷ number_at s at 2 ∷ [])) (omega arith)

  pub flight_window_block_values : Among len (lengths_due flight_window_block_tag (field_table stations desks))
      → field_values s c flight_window_block_tag len (field_table stations desks)
      ≡ values_of flight_window_block (number_at s c 2 ∷ number_at s (c + 2) 2 ∷ number_at s (c + 4) 2 ∷ number_at s (c + 6) 2 ∷ [])
  unfolding content_values flight_window_block numbers_at
  flight_window_block_values due =
      sole_values flight_window_block_tag len _ flight_window_block (flight_window_block_content stations desks) due s c
      ∙ ap₂ (λ i j. values_of flight_window_block (number_at s c 2 ∷ number_at s (c + 2) 2 ∷ number_at s i 2 ∷ number_at s j 2 ∷ [])) (omega arith) (omega arith)

  pub flight_order_values : Among len (lengths_due flight_order_tag (field_table stations desks))
      → field_values s c flight_order_tag len (field_table stations desks) ≡ values_of flight_order (number_at s c 8 ∷ [])
  unfolding content_values flight_order numbers_at
  flight_order_values due = sole_values flight_order_tag len _ flight_order (flight_order_content stations desks) due s c
