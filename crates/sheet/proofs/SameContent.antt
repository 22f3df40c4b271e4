-- Two fields of the same tag and the same content, in two sheets or at two offsets, are checked and decoded alike: no check and no value looks beyond the
-- content.
-- The idea: a field whose length is due has its values within it; one whose length is not due is refused for that before they are looked at.
use Prim.Native.Nat.{ℕ, zero, suc, ◌+◌, ◌*◌, ◌≤◌, ◌<◌}
use Rattle.std.specs.Prelude.{◌≡◌, Bool, cond, ◌⊎◌}
use Rattle.std.proofs.Math.Path.{refl, sym, ap, ap₂}
use Rattle.std.proofs.Common.{subst, ◌∙◌, inl, inr}
use Rattle.std.proofs.Math.Bool.{true, false}
use mathlib.Core.List.{List, [], ◌∷◌}
use Rattle.std.proofs.Math.Decide.{ℕ_discrete}
use native.Mathlib.Omega.{arith}
use Rattle.std.proofs.Math.Dec.{eqb}
use Rattle.std.proofs.Math.ListN.{set}
use borrow.Author.Tests.{eq-eqb, ne_eqb, eqb-true}
use Rattle.base.specs.Branch.{check}
use Rattle.field.specs.Bytes.{number_at}
use Rattle.sheet.specs.Tags.{mosaic_head_tag, mosaic_strip_tag, sorting_head_tag, sorting_strip_tag, flight_head_tag, flight_block_tag, flight_order_tag}
use Rattle.sheet.specs.Tags.{flight_window_block_tag}
use Rattle.sheet.specs.Refusals.{tag_not_permitted, length_wrong, too_many, no_members, order_not_proper, order_missing, longest_below_shortest}
use Rattle.sheet.specs.Sections.{strips_of_desk}
use Rattle.sheet.specs.Among.{Among, is_among, true_among}
use Rattle.sheet.specs.FieldTable.{Item, TableRow, mosaic_head, mosaic_strip, sorting_head, sorting_strip}
use Rattle.sheet.specs.FieldTable.{flight_block, flight_window_block, flight_order, field_table, table_of}
use Rattle.sheet.specs.FieldTable.{length_of, contents_of, lengths_due, of_length, numbers_at, values_of, content_values, field_values}
use Rattle.sheet.proofs.Contents.{mosaic_head_content, mosaic_strip_contents, sorting_head_content, sorting_strip_contents, flight_block_content}
use Rattle.sheet.proofs.Contents.{flight_window_block_content, flight_order_content, head_length_lem, sole_length, either_length, strip_length, strip_stations}
use Rattle.sheet.specs.Rows.{first_failure}
use Rattle.sheet.specs.Checks.{section_filled, order_given, permitted, range_number, window_ordered, has_room, order_proper}
use Rattle.sheet.specs.Decode.{with_mosaic_head, weight_of, with_station_times, with_mosaic_strip, with_sorting_head, with_strip_at, with_sorting_strip, turn_of, with_flight_head}
use Rattle.sheet.specs.Decode.{begun_flight, exact_block, window_block, with_block, with_order, next_mosaic, next_sorting, next_flight, next_section, next_members, next_reading}
use Rattle.sheet.specs.Read.{content_checks, field_checks, field_number}
use Rattle.sheet.specs.declared.MosaicSection.{MosaicSection}
use Rattle.sheet.specs.declared.SortingSection.{SortingSection}
use Rattle.sheet.specs.declared.FlightSection.{FlightSection}
use Rattle.sheet.specs.declared.Reading.{Reading}
use Rattle.sheet.specs.SameContent.{with_place, place_after, SameBytes, Alike}

module _ {s : List ℕ} {c : ℕ} {t : List ℕ} {d len : ℕ} (b : SameBytes s c t d len) where
  -- then so are the numbers in them ..
  pub same_number : (width j : ℕ) → j + width ≤ len → number_at s (c + j) width ≡ number_at t (d + j) width
  unfolding number_at
  same_number zero j l = refl
  same_number (suc width) j l =
      ap₂ (λ (x y : ℕ). x + 256 * y) (b.same j (omega arith)) (ap (λ at. number_at s at width) here ∙ same_number width (j + 1) (omega arith) ∙ ap (λ at. number_at t at width) there)
    where
      here : c + j + 1 ≡ c + (j + 1)
      here = omega arith

      there : d + (j + 1) ≡ d + j + 1
      there = omega arith

  pub first_number : (width : ℕ) → width ≤ len → number_at s c width ≡ number_at t d width
  first_number width l =
      ap (λ at. number_at s at width) here ∙ same_number width 0 (omega arith) ∙ ap (λ at. number_at t at width) there
    where
      here : c ≡ c + 0
      here = omega arith

      there : d + 0 ≡ d
      there = omega arith

  -- .. and the values of a content that lies in them.
  same_numbers : (content : List Item) (j : ℕ) → j + length_of content ≤ len → numbers_at s (c + j) content ≡ numbers_at t (d + j) content
  unfolding numbers_at length_of
  same_numbers [] j l = refl
  same_numbers (i ∷ content) j l =
      ap₂ (λ (x : ℕ) (xs : List ℕ). x ∷ xs) (same_number i.width j (omega arith))
      (ap (λ at. numbers_at s at content) here ∙ same_numbers content (j + i.width) (omega arith) ∙ ap (λ at. numbers_at t at content) there)
    where
      here : c + j + i.width ≡ c + (j + i.width)
      here = omega arith

      there : d + (j + i.width) ≡ d + j + i.width
      there = omega arith

  pub content_same : (content : List Item) → length_of content ≤ len → content_values s c content ≡ content_values t d content
  unfolding content_values
  content_same content l =
      ap (values_of content)
      (ap (λ at. numbers_at s at content) here ∙ same_numbers content 0 (omega arith) ∙ ap (λ at. numbers_at t at content) there)
    where
      here : c ≡ c + 0
      here = omega arith

      there : d + 0 ≡ d
      there = omega arith

  -- so are the station times of a strip that lies in them
  pub times_same : (base k : ℕ) (times : List ℕ) → 2 * k ≤ len → with_station_times s c base k times ≡ with_station_times t d base k times
  unfolding with_station_times
  times_same base zero times l = refl
  times_same base (suc k) times l =
      ap₂ (λ (xs : List ℕ) (x : ℕ). set xs (base + k) x) (times_same base k times (omega arith)) (same_number 2 (2 * k) (omega arith))

  -- A content of the field's length is no longer than the field.
  of_length_most : (contents : List (List Item)) → length_of (of_length len contents) ≤ len
  unfolding of_length length_of
  of_length_most [] = omega arith
  of_length_most (content ∷ contents) = go (eqb len (length_of content)) refl (of_length_most contents)
    where
      go : (q : Bool) → eqb len (length_of content) ≡ q → length_of (of_length len contents) ≤ len
          → length_of (cond q content (of_length len contents)) ≤ len
      go true e l = omega (arith, eqb-true len (length_of content) e)
      go false e l = l

  pub same_values : (tag : ℕ) (table : List TableRow) → field_values s c tag len table ≡ field_values t d tag len table
  unfolding field_values
  same_values tag table = content_same (of_length len (contents_of tag table)) (of_length_most (contents_of tag table))

  -- The numbers that a field is checked for beside its values: the window of a block, the desk of a desk's strip and the order.
  module _ (tag stations desks : ℕ) (due : Among len (lengths_due tag (field_table stations desks))) where
    due_at : (x : ℕ) → tag ≡ x → Among len (lengths_due x (field_table stations desks))
    due_at x e = subst (λ y. Among len (lengths_due y (field_table stations desks))) e due

    strip_of_desk_lem : tag ≡ sorting_strip_tag → (len ≡ 5) ⊎ (len ≡ 5 + 1)
    unfolding sorting_strip length_of
    strip_of_desk_lem e = either_length sorting_strip_tag len _ (sorting_strip desks) (sorting_strip_contents stations desks) (due_at sorting_strip_tag e)

    mosaic_strip_lem : tag ≡ mosaic_strip_tag → (len ≡ 2 * stations + 2) ⊎ (len ≡ 2 * stations + 2 + 1)
    mosaic_strip_lem e =
        let h = strip_stations len stations desks (due_at mosaic_strip_tag e) in
        subst (λ others. (len ≡ others) ⊎ (len ≡ others + 1)) (strip_length stations)
        (either_length mosaic_strip_tag len _ (mosaic_strip stations) (mosaic_strip_contents stations desks h.0 h.1) (due_at mosaic_strip_tag e))

    at_least : (others : ℕ) → (len ≡ others) ⊎ (len ≡ others + 1) → others ≤ len
    at_least others (inl e) = omega arith
    at_least others (inr e) = omega arith

    order_field : tag ≡ flight_order_tag → len ≡ 8
    unfolding flight_order length_of
    order_field e = sole_length flight_order_tag len _ flight_order (flight_order_content stations desks) (due_at flight_order_tag e)

    window_field : tag ≡ flight_window_block_tag → len ≡ 8
    unfolding flight_window_block length_of
    window_field e = sole_length flight_window_block_tag len _ flight_window_block (flight_window_block_content stations desks) (due_at flight_window_block_tag e)

    same_window : window_ordered tag (number_at s (c + 2) 2) (number_at s (c + 4) 2) ≡ window_ordered tag (number_at t (d + 2) 2) (number_at t (d + 4) 2)
    unfolding window_ordered
    same_window = go (ℕ_discrete tag flight_window_block_tag)
      where
        go : Dec (tag ≡ flight_window_block_tag)
            → window_ordered tag (number_at s (c + 2) 2) (number_at s (c + 4) 2) ≡ window_ordered tag (number_at t (d + 2) 2) (number_at t (d + 4) 2)
        go (yes e) = ap₂ (window_ordered tag) (same_number 2 2 (omega (arith, window_field e))) (same_number 2 4 (omega (arith, window_field e)))
        go (no e) = rw (ne_eqb tag flight_window_block_tag e)

    same_room : (members : ℕ) (counts : List ℕ)
        → has_room tag members (strips_of_desk counts (number_at s c 1)) ≡ has_room tag members (strips_of_desk counts (number_at t d 1))
    unfolding has_room
    same_room members counts = go (ℕ_discrete tag sorting_strip_tag)
      where
        go : Dec (tag ≡ sorting_strip_tag)
            → has_room tag members (strips_of_desk counts (number_at s c 1)) ≡ has_room tag members (strips_of_desk counts (number_at t d 1))
        go (yes e) = ap (λ n. has_room tag members (strips_of_desk counts n)) (first_number 1 (omega (arith, at_least 5 (strip_of_desk_lem e))))
        go (no e) = rw (ne_eqb tag sorting_strip_tag e)

    same_proper : (members : ℕ) → order_proper tag members (number_at s c 8) ≡ order_proper tag members (number_at t d 8)
    unfolding order_proper
    same_proper members = go (ℕ_discrete tag flight_order_tag)
      where
        go : Dec (tag ≡ flight_order_tag) → order_proper tag members (number_at s c 8) ≡ order_proper tag members (number_at t d 8)
        go (yes e) = ap (order_proper tag members) (first_number 8 (omega (arith, order_field e)))
        go (no e) = rw (ne_eqb tag flight_order_tag e)

    -- What the field adds to each section.
    same_mosaic_head : tag ≡ mosaic_head_tag → with_mosaic_head s c ≡ with_mosaic_head t d
    unfolding mosaic_head length_of with_mosaic_head
    same_mosaic_head e =
        let l : len ≡ 3 = sole_length mosaic_head_tag len _ mosaic_head (mosaic_head_content stations desks) (due_at mosaic_head_tag e) in
        rw (first_number 1 (omega arith), same_number 2 1 (omega arith))

    -- a weight is the last byte, or absent in both
    same_weight : (others : ℕ) → (len ≡ others) ⊎ (len ≡ others + 1) → weight_of s c len others ≡ weight_of t d len others
    unfolding weight_of
    same_weight others (inl e) = rw (eq-eqb len others e)
    same_weight others (inr e) = rw (ne_eqb len others (λ h. omega arith)) (same_number 1 others (omega arith))

    same_mosaic_strip : (m : MosaicSection) → m.stations ≡ stations → tag ≡ mosaic_strip_tag → with_mosaic_strip s c len m ≡ with_mosaic_strip t d len m
    unfolding with_mosaic_strip
    same_mosaic_strip m st e =
        let w : weight_of s c len (2 * m.stations + 2) ≡ weight_of t d len (2 * m.stations + 2) =
        same_weight (2 * m.stations + 2) (subst (λ x. (len ≡ 2 * x + 2) ⊎ (len ≡ 2 * x + 2 + 1)) (sym st) (mosaic_strip_lem e)) in
        let k : 2 * stations + 2 ≤ len = at_least (2 * stations + 2) (mosaic_strip_lem e) in
        rw (times_same (4 * m.strips) m.stations m.station (omega arith), same_number 2 (2 * m.stations) (omega arith), w)

    pub same_mosaic : (m : MosaicSection) → m.stations ≡ stations → next_mosaic s c tag len m ≡ next_mosaic t d tag len m
    unfolding next_mosaic
    same_mosaic m st = go (ℕ_discrete tag mosaic_head_tag) (ℕ_discrete tag mosaic_strip_tag)
      where
        go : Dec (tag ≡ mosaic_head_tag) → Dec (tag ≡ mosaic_strip_tag) → next_mosaic s c tag len m ≡ next_mosaic t d tag len m
        go (yes e) q = rw e (same_mosaic_head e)
        go (no e) (yes q) = rw q (same_mosaic_strip m st q)
        go (no e) (no q) = rw (ne_eqb tag mosaic_head_tag e, ne_eqb tag mosaic_strip_tag q)

    same_sorting_head : tag ≡ sorting_head_tag → with_sorting_head s c ≡ with_sorting_head t d
    unfolding sorting_head length_of with_sorting_head
    same_sorting_head e =
        let l : len ≡ 1 = sole_length sorting_head_tag len _ sorting_head (sorting_head_content stations desks) (due_at sorting_head_tag e) in
        rw (first_number 1 (omega arith))

    same_sorting_strip : (u : SortingSection) → tag ≡ sorting_strip_tag → with_sorting_strip s c len u ≡ with_sorting_strip t d len u
    unfolding with_sorting_strip with_strip_at
    same_sorting_strip u e =
        let l : 5 ≤ len = at_least 5 (strip_of_desk_lem e) in
        rw (first_number 1 (omega arith), same_number 2 1 (omega arith), same_number 2 3 (omega arith), same_weight 5 (strip_of_desk_lem e))

    pub same_sorting : (u : SortingSection) → next_sorting s c tag len u ≡ next_sorting t d tag len u
    unfolding next_sorting
    same_sorting u = go (ℕ_discrete tag sorting_head_tag) (ℕ_discrete tag sorting_strip_tag)
      where
        go : Dec (tag ≡ sorting_head_tag) → Dec (tag ≡ sorting_strip_tag) → next_sorting s c tag len u ≡ next_sorting t d tag len u
        go (yes e) q = rw e (same_sorting_head e)
        go (no e) (yes q) = rw q (same_sorting_strip u q)
        go (no e) (no q) = rw (ne_eqb tag sorting_head_tag e, ne_eqb tag sorting_strip_tag q)

    -- a flight head is empty or has two bytes
    same_turn : tag ≡ flight_head_tag → turn_of s c len ≡ turn_of t d len
    unfolding turn_of
    same_turn e = go (head_length_lem len stations desks (due_at flight_head_tag e))
      where
        go : (len ≡ 0) ⊎ (len ≡ 2) → turn_of s c len ≡ turn_of t d len
        go (inl q) = rw q
        go (inr q) = rw (first_number 2 (omega arith))

    block_length : tag ≡ flight_block_tag → len ≡ 6
    unfolding flight_block length_of
    block_length e = sole_length flight_block_tag len _ flight_block (flight_block_content stations desks) (due_at flight_block_tag e)

    same_block : (f : FlightSection) (place : ℕ) → tag ≡ flight_block_tag
        → with_block (exact_block t d) (with_place place f) ≡ with_place place (with_block (exact_block s c) f)
    unfolding with_block exact_block
    same_block f place e =
        let l : len ≡ 6 = block_length e in
        rw (first_number 2 (omega arith), same_number 2 2 (omega arith), same_number 2 4 (omega arith))

    same_window_block : (f : FlightSection) (place : ℕ) → tag ≡ flight_window_block_tag
        → with_block (window_block t d) (with_place place f) ≡ with_place place (with_block (window_block s c) f)
    unfolding with_block window_block
    same_window_block f place e =
        let l : len ≡ 8 = window_field e in
        rw (first_number 2 (omega arith), same_number 2 2 (omega arith), same_number 2 4 (omega arith), same_number 2 6 (omega arith))

    same_order : (f : FlightSection) (place at there : ℕ) → tag ≡ flight_order_tag
        → with_order t d there (with_place place f) ≡ with_place there (with_order s c at f)
    unfolding with_order
    same_order f place at there e =
        let l : len ≡ 8 = order_field e in
        rw (first_number 8 (omega arith))

    same_head : (at there : ℕ) → tag ≡ flight_head_tag → with_flight_head t d len there ≡ with_place there (with_flight_head s c len at)
    unfolding with_flight_head
    same_head at there e = ap (λ turn. begun_flight turn there) (sym (same_turn e))

    pub same_flight : (f : FlightSection) (place at there : ℕ)
        → next_flight t d tag len there (with_place place f) ≡ with_place (place_after tag there place) (next_flight s c tag len at f)
    unfolding next_flight place_after
    same_flight f place at there =
        go (ℕ_discrete tag flight_head_tag) (ℕ_discrete tag flight_block_tag) (ℕ_discrete tag flight_window_block_tag) (ℕ_discrete tag flight_order_tag)
      where
        go : Dec (tag ≡ flight_head_tag) → Dec (tag ≡ flight_block_tag) → Dec (tag ≡ flight_window_block_tag) → Dec (tag ≡ flight_order_tag)
            → next_flight t d tag len there (with_place place f) ≡ with_place (place_after tag there place) (next_flight s c tag len at f)
        go (yes e) q w o = rw e (same_head at there e)
        go (no e) (yes q) w o = rw q (same_block f place q)
        go (no e) (no q) (yes w) o = rw w (same_window_block f place w)
        go (no e) (no q) (no w) (yes o) = rw o (same_order f place at there o)
        go (no e) (no q) (no w) (no o) =
            rw (ne_eqb tag flight_head_tag e, ne_eqb tag flight_block_tag q, ne_eqb tag flight_window_block_tag w, ne_eqb tag flight_order_tag o)

-- the place of 11 after a field
pub place_after_lem : (s : List ℕ) (c tag len at : ℕ) (f : FlightSection) → (next_flight s c tag len at f).place ≡ place_after tag at f.place
unfolding next_flight place_after with_flight_head with_block with_order
place_after_lem s c tag len at f =
    go (ℕ_discrete tag flight_head_tag) (ℕ_discrete tag flight_block_tag) (ℕ_discrete tag flight_window_block_tag) (ℕ_discrete tag flight_order_tag)
  where
    go : Dec (tag ≡ flight_head_tag) → Dec (tag ≡ flight_block_tag) → Dec (tag ≡ flight_window_block_tag) → Dec (tag ≡ flight_order_tag)
        → (next_flight s c tag len at f).place ≡ place_after tag at f.place
    go (yes e) q w o = rw e
    go (no e) (yes q) w o = rw q
    go (no e) (no q) (yes w) o = rw w
    go (no e) (no q) (no w) (yes o) = rw o
    go (no e) (no q) (no w) (no o) =
        rw (ne_eqb tag flight_head_tag e, ne_eqb tag flight_block_tag q, ne_eqb tag flight_window_block_tag w, ne_eqb tag flight_order_tag o)

-- a wrong length decides, whatever is checked behind it
pub length_decides : (x y z : ℕ) (a b : List ℕ) → first_failure (x ∷ y ∷ z ∷ length_wrong ∷ a) ≡ first_failure (x ∷ y ∷ z ∷ length_wrong ∷ b)
unfolding first_failure
length_decides (suc x) y z a b = refl
length_decides zero (suc y) z a b = refl
length_decides zero zero (suc z) a b = refl
length_decides zero zero zero a b = refl

module _ {s : List ℕ} {st : Reading} {t : List ℕ} {other : Reading} {len : ℕ} (alike : Alike st other)
    (b : SameBytes s (st.at + 3) t (other.at + 3) len) (tag : ℕ) where
  -- They refuse a field of the same content with the same number ..
  pub same_field : field_number s st tag len ≡ field_number t other tag len
  unfolding field_number field_checks content_checks check
  same_field = rw (alike.section, alike.members, alike.mosaic, alike.sorting) (go (is_among len (lengths_due tag (table_of st))) refl)
    where
      go : (q : Bool) → is_among len (lengths_due tag (table_of st)) ≡ q
          → first_failure
          (check (section_filled tag st.section st.members) no_members 0
          ∷ check (order_given tag st.section st.members) order_missing 0
          ∷ check (permitted tag st.section st.members) tag_not_permitted 0
          ∷ check q length_wrong 0
          ∷ range_number (field_values s (st.at + 3) tag len (table_of st))
          ∷ check (window_ordered tag (number_at s (st.at + 3 + 2) 2) (number_at s (st.at + 3 + 4) 2)) longest_below_shortest 0
          ∷ check (has_room tag st.members (strips_of_desk st.sorting.counts (number_at s (st.at + 3) 1))) too_many 0
          ∷ check (order_proper tag st.members (number_at s (st.at + 3) 8)) order_not_proper 0
          ∷ [])
          ≡ first_failure
          (check (section_filled tag st.section st.members) no_members 0
          ∷ check (order_given tag st.section st.members) order_missing 0
          ∷ check (permitted tag st.section st.members) tag_not_permitted 0
          ∷ check q length_wrong 0
          ∷ range_number (field_values t (other.at + 3) tag len (table_of st))
          ∷ check (window_ordered tag (number_at t (other.at + 3 + 2) 2) (number_at t (other.at + 3 + 4) 2)) longest_below_shortest 0
          ∷ check (has_room tag st.members (strips_of_desk st.sorting.counts (number_at t (other.at + 3) 1))) too_many 0
          ∷ check (order_proper tag st.members (number_at t (other.at + 3) 8)) order_not_proper 0
          ∷ [])
      go true e =
          let due = true_among len _ e in
          rw (
            same_values b tag (table_of st),
            same_window b tag st.mosaic.stations st.sorting.desks due,
            same_room b tag st.mosaic.stations st.sorting.desks due st.members st.sorting.counts,
            same_proper b tag st.mosaic.stations st.sorting.desks due st.members,
          )
      go false e = length_decides _ _ _ _ _

  -- .. and are alike behind it where it passes.
  pub alike_behind : Among len (lengths_due tag (table_of st)) → Alike (next_reading s st tag len) (next_reading t other tag len)
  unfolding next_reading
  alike_behind due = record {
    section = ap (next_section tag) alike.section;
    members = ap (next_members tag) alike.members;
    mosaic = ap (next_mosaic t (other.at + 3) tag len) alike.mosaic ∙ sym (same_mosaic b tag _ _ due st.mosaic refl);
    sorting = ap (next_sorting t (other.at + 3) tag len) alike.sorting ∙ sym (same_sorting b tag _ _ due st.sorting);
    flight = flight ∙ ap (λ x. with_place x (next_flight s (st.at + 3) tag len st.at st.flight)) (sym (place_after_lem t _ tag len _ other.flight));
  }
    where
      flight : next_flight t (other.at + 3) tag len other.at other.flight
          ≡ with_place (place_after tag other.at other.flight.place) (next_flight s (st.at + 3) tag len st.at st.flight)
      flight =
          ap (next_flight t (other.at + 3) tag len other.at) alike.flight
          ∙ same_flight b tag _ _ due st.flight other.flight.place st.at other.at
