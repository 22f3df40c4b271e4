-- A window of one value is an exact delay (02, Req 07: "an exact delay being a window of one value"): with a block of tag 31, and with one of tag 33 in its
-- place whose two bounds are its delay, the same sheet is read with the same number and the same sections, and in the second the places of later fields are two
-- higher.
-- The idea: both blocks have the same values, the delay once or twice, and add the same block (MovedPlaces.antt has what follows behind them).
use Rattle.std.specs.Prelude.{ℕ, zero, suc, ◌+◌, ◌≤◌, ◌≡◌, List, [], ◌∷◌, ◌++◌, ltb, eqb, length}
use Rattle.std.proofs.Math.Path.{refl, ap}
use Rattle.std.proofs.Common.{sym, ◌∙◌, inl, arith}
use borrow.Author.Tests.{le-leb}
use Rattle.base.specs.Branch.{check}
use Rattle.field.specs.Bytes.{number_at, bytes_of}
use Rattle.sheet.specs.Limits.{most_blocks}
use Rattle.sheet.specs.Tags.{flight_block_tag, flight_window_block_tag}
use Rattle.sheet.specs.Refusals.{tag_not_permitted, too_many}
use Rattle.sheet.specs.Sections.{in_flight}
use Rattle.sheet.specs.Among.{Among, among_true}
use Rattle.sheet.specs.FieldTable.{table_of, length_of, lengths_of, lengths_due, flight_block, flight_window_block, values_of}
use Rattle.sheet.proofs.Contents.{flight_block_content, flight_window_block_content, flight_block_values, flight_window_block_values}
use Rattle.sheet.specs.Rows.{first_failure}
use Rattle.sheet.specs.Checks.{ends_section, section_filled, order_given, permitted, value_numbers, range_number, window_ordered, has_room, order_proper}
use Rattle.sheet.specs.Table.{Reached}
use Rattle.sheet.specs.Decode.{exact_block, window_block, with_block, next_mosaic, next_sorting, next_flight, next_section, next_members, next_head, next_reading}
use Rattle.sheet.specs.Read.{content_checks, field_checks, field_number, read_sheet}
use Rattle.sheet.proofs.SameContent.{same_number}
use Rattle.sheet.specs.MovedPlaces.{SameButPlaces}
use Rattle.sheet.proofs.MovedPlaces.{content_from, head_before, place_before, replaced_same}
use Rattle.sheet.specs.declared.Block.{Block}
use Rattle.sheet.specs.declared.Reading.{Reading}
use Rattle.sheet.specs.OneValue.{with_exact_delay, with_one_value}

-- The number of a block of either tag, by the number that its values give.
block_number : Reading → ℕ → ℕ
block_number st range =
    first_failure
    (0 ∷ 0
    ∷ check (eqb st.section in_flight) tag_not_permitted 0
    ∷ 0 ∷ range ∷ 0
    ∷ check (ltb st.members most_blocks) too_many 0
    ∷ 0 ∷ [])

module _ (st : Reading) where
  exact_due : Among 6 (lengths_due flight_block_tag (table_of st))
  unfolding lengths_due lengths_of length_of flight_block Among
  exact_due = rw (flight_block_content st.mosaic.stations st.sorting.desks) (inl refl)

  window_due : Among 8 (lengths_due flight_window_block_tag (table_of st))
  unfolding lengths_due lengths_of length_of flight_window_block Among
  window_due = rw (flight_window_block_content st.mosaic.stations st.sorting.desks) (inl refl)

  module _ (u : List ℕ) (a l b : ℕ) (first : number_at u (st.at + 3) 2 ≡ a) (delay : number_at u (st.at + 3 + 2) 2 ≡ l) where
    exact_number : number_at u (st.at + 3 + 4) 2 ≡ b
        → field_number u st flight_block_tag 6 ≡ block_number st (range_number (values_of flight_block (a ∷ l ∷ b ∷ [])))
    unfolding block_number field_number field_checks content_checks section_filled order_given ends_section permitted window_ordered has_room order_proper check
    exact_number second =
        rw (among_true 6 _ exact_due, flight_block_values u (st.at + 3) 6 st.mosaic.stations st.sorting.desks exact_due, first, delay, second) refl

    window_number : number_at u (st.at + 3 + 4) 2 ≡ l → number_at u (st.at + 3 + 6) 2 ≡ b
        → field_number u st flight_window_block_tag 8 ≡ block_number st (range_number (values_of flight_window_block (a ∷ l ∷ l ∷ b ∷ [])))
    unfolding block_number field_number field_checks content_checks section_filled order_given ends_section permitted window_ordered has_room order_proper check
    window_number again second =
        rw (
          among_true 8 _ window_due,
          flight_window_block_values u (st.at + 3) 8 st.mosaic.stations st.sorting.desks window_due,
          first,
          delay,
          again,
          second,
          le-leb l l (omega arith),
        )
        refl

-- The delay gives the same number once and twice.
twice : (x y z : ℕ) → first_failure (x ∷ y ∷ z ∷ []) ≡ first_failure (x ∷ y ∷ y ∷ z ∷ [])
unfolding first_failure
twice (suc x) y z = refl
twice zero (suc y) z = refl
twice zero zero z = refl

range_same : (a l b : ℕ) → range_number (values_of flight_block (a ∷ l ∷ b ∷ [])) ≡ range_number (values_of flight_window_block (a ∷ l ∷ l ∷ b ∷ []))
unfolding flight_block flight_window_block values_of range_number value_numbers
range_same a l b = twice _ _ _

-- what the two bytes of a number are read as
told : ℕ → ℕ
told v = number_at (bytes_of 2 v) 0 2

module _ (before : List ℕ) (a l b : ℕ) (rest : List ℕ) (st : Reading) (e : st.at ≡ length before) where
  s : List ℕ
  s = with_exact_delay before a l b rest

  t : List ℕ
  t = with_one_value before a l b rest

  exact_at : (j : ℕ) → j + 2 ≤ 6 → number_at s (st.at + 3 + j) 2 ≡ number_at (bytes_of 2 a ++ bytes_of 2 l ++ bytes_of 2 b ++ rest) (0 + j) 2
  unfolding s bytes_of
  exact_at j h = ap (λ x. number_at s (x + 3 + j) 2) e ∙ same_number (content_from before flight_block_tag _ rest 6) 2 j h

  window_at : (j : ℕ) → j + 2 ≤ 8 → number_at t (st.at + 3 + j) 2 ≡ number_at (bytes_of 2 a ++ bytes_of 2 l ++ bytes_of 2 l ++ bytes_of 2 b ++ rest) (0 + j) 2
  unfolding t bytes_of
  window_at j h = ap (λ x. number_at t (x + 3 + j) 2) e ∙ same_number (content_from before flight_window_block_tag _ rest 8) 2 j h

  -- the numbers of both blocks
  exact_first : number_at s (st.at + 3) 2 ≡ told a
  unfolding told bytes_of number_at
  exact_first = ap (λ x. number_at s x 2) (omega arith) ∙ exact_at 0 (omega arith)

  exact_delay : number_at s (st.at + 3 + 2) 2 ≡ told l
  unfolding told bytes_of number_at
  exact_delay = exact_at 2 (omega arith)

  exact_second : number_at s (st.at + 3 + 4) 2 ≡ told b
  unfolding told bytes_of number_at
  exact_second = exact_at 4 (omega arith)

  window_first : number_at t (st.at + 3) 2 ≡ told a
  unfolding told bytes_of number_at
  window_first = ap (λ x. number_at t x 2) (omega arith) ∙ window_at 0 (omega arith)

  window_shortest : number_at t (st.at + 3 + 2) 2 ≡ told l
  unfolding told bytes_of number_at
  window_shortest = window_at 2 (omega arith)

  window_longest : number_at t (st.at + 3 + 4) 2 ≡ told l
  unfolding told bytes_of number_at
  window_longest = window_at 4 (omega arith)

  window_second : number_at t (st.at + 3 + 6) 2 ≡ told b
  unfolding told bytes_of number_at
  window_second = window_at 6 (omega arith)

  exact_is : field_number s st flight_block_tag 6 ≡ block_number st (range_number (values_of flight_block (told a ∷ told l ∷ told b ∷ [])))
  exact_is = exact_number st s (told a) (told l) (told b) exact_first exact_delay exact_second

  same_number_given : field_number s st flight_block_tag 6 ≡ field_number t st flight_window_block_tag 8
  same_number_given =
      exact_is
      ∙ ap (block_number st) (range_same (told a) (told l) (told b))
      ∙ sym (window_number st t (told a) (told l) (told b) window_first window_shortest window_longest window_second)

  same_block : window_block t (st.at + 3) ≡ exact_block s (st.at + 3)
  unfolding window_block exact_block
  same_block = rw (window_first, window_shortest, window_longest, window_second, exact_first, exact_delay, exact_second)

-- With an exact delay and with a window of that one value, wherever the reading comes to that block.
pub one_value : (before : List ℕ) (a l b : ℕ) (rest : List ℕ) (st : Reading) → Reached (with_exact_delay before a l b rest) st → st.at ≡ length before
    → SameButPlaces 2 (length before) (read_sheet (with_exact_delay before a l b rest)) (read_sheet (with_one_value before a l b rest))
unfolding s t bytes_of number_at next_reading next_section next_head next_members next_mosaic next_sorting next_flight ends_section with_block
one_value before a l b rest st r e =
    replaced_same before rest flight_block_tag flight_window_block_tag (bytes_of 2 a ++ bytes_of 2 l ++ bytes_of 2 b) (bytes_of 2 a ++ bytes_of 2 l ++ bytes_of 2 l ++ bytes_of 2 b)
    2 refl refl refl st r e (same_number_given before a l b rest st e)
    (λ _. record {
      section = refl;
      members = refl;
      mosaic = refl;
      sorting = refl;
      flight = ap (λ (c : Block). with_block c st.flight) (same_block before a l b rest st e);
    })
    refl (omega (arith, head_before _ st r)) refl (omega (arith, place_before _ st r))
