-- A written turn of 0 is an empty flight head (02, Req 06: "an empty head means 0"): with the one or the other, the same sheet is read with the same number and
-- the same sections, and the places of later fields are two higher.
-- The idea: both heads are refused or pass by the section before them alone, and begin a flight with a turn of 0 (MovedPlaces.antt has what follows behind
-- them).
use Rattle.std.specs.Prelude.{ℕ, ◌+◌, ◌≡◌, refl, cond, List, [], ◌∷◌, eqb, length}
use Rattle.std.proofs.Common.{sym, ap, subst, ◌∙◌, inl, inr, arith}
use Rattle.base.specs.Branch.{check}
use Rattle.field.specs.Bytes.{number_at, bytes_of}
use Rattle.sheet.specs.Tags.{flight_head_tag}
use Rattle.sheet.specs.Refusals.{tag_not_permitted, no_members, order_missing}
use Rattle.sheet.specs.Among.{Among, among_true}
use Rattle.sheet.specs.FieldTable.{table_of, lengths_due, turn_flight_head, values_of}
use Rattle.sheet.proofs.Contents.{head_lengths, flight_head_values_lem}
use Rattle.sheet.specs.Rows.{first_failure}
use Rattle.sheet.specs.Checks.{ends_section, section_filled, order_given, permitted, time_number, value_number, value_numbers, range_number, window_ordered}
use Rattle.sheet.specs.Checks.{has_room, order_proper}
use Rattle.sheet.specs.Table.{Reached}
use Rattle.sheet.specs.Decode.{begun_flight, turn_of, with_flight_head, next_mosaic, next_sorting, next_flight, next_section, next_members, next_head, next_reading}
use Rattle.sheet.specs.Read.{content_checks, field_checks, field_number, read_sheet}
use Rattle.sheet.proofs.SameContent.{first_number}
use Rattle.sheet.specs.MovedPlaces.{SameButPlaces}
use Rattle.sheet.proofs.MovedPlaces.{content_from, replaced_same}
use Rattle.sheet.specs.declared.Reading.{Reading}
use Rattle.sheet.specs.WrittenZero.{with_empty_head, with_written_zero}

-- The head itself: empty, or with a turn that is in its range, it is refused or passes by the section before it alone.
head_number : Reading → ℕ
head_number st =
    first_failure
    (check (section_filled flight_head_tag st.section st.members) no_members 0
    ∷ check (order_given flight_head_tag st.section st.members) order_missing 0
    ∷ check (permitted flight_head_tag st.section st.members) tag_not_permitted 0
    ∷ 0 ∷ 0 ∷ 0 ∷ 0 ∷ 0 ∷ [])

head_number_lem : (u : List ℕ) (st : Reading) (len : ℕ) → Among len (lengths_due flight_head_tag (table_of st))
    → range_number (cond (eqb len 0) [] (values_of turn_flight_head (number_at u (st.at + 3) 2 ∷ []))) ≡ 0 → field_number u st flight_head_tag len ≡ head_number st
unfolding head_number field_number field_checks content_checks window_ordered has_room order_proper check
head_number_lem u st len due z = rw (among_true len _ due, flight_head_values_lem u (st.at + 3) len _ _ due, z)

head_due : (len : ℕ) (st : Reading) → Among len (0 ∷ 2 ∷ []) → Among len (lengths_due flight_head_tag (table_of st))
head_due len st a = subst (Among len) (sym (head_lengths st.mosaic.stations st.sorting.desks)) a

empty_passes : (u : List ℕ) (st : Reading) → field_number u st flight_head_tag 0 ≡ head_number st
unfolding Among range_number value_numbers first_failure
empty_passes u st = head_number_lem u st 0 (head_due 0 st (inl refl)) refl

zero_passes : (u : List ℕ) (st : Reading) → number_at u (st.at + 3) 2 ≡ 0 → field_number u st flight_head_tag 2 ≡ head_number st
unfolding Among range_number value_numbers value_number time_number check turn_flight_head values_of first_failure
zero_passes u st e = head_number_lem u st 2 (head_due 2 st (inr (inl refl))) (rw e)

zero_turn : (before rest : List ℕ) (at : ℕ) → at ≡ length before → number_at (with_written_zero before rest) (at + 3) 2 ≡ 0
unfolding bytes_of number_at
zero_turn before rest at e =
    ap (λ x. number_at (with_written_zero before rest) x 2) (omega arith) ∙ first_number (content_from before flight_head_tag (bytes_of 2 0) rest 2) 2 (omega arith)

-- With an empty head and with a written turn of 0, wherever the reading comes to that head.
pub written_zero : (before rest : List ℕ) (st : Reading) → Reached (with_empty_head before rest) st → st.at ≡ length before
    → SameButPlaces 2 (length before) (read_sheet (with_empty_head before rest)) (read_sheet (with_written_zero before rest))
unfolding bytes_of number_at next_reading next_section next_head next_members next_mosaic next_sorting next_flight ends_section with_flight_head turn_of
written_zero before rest st r e =
    replaced_same before rest flight_head_tag flight_head_tag [] (bytes_of 2 0) 2 refl refl refl st r e (empty_number ∙ sym zero_number)
    (λ _. record { section = refl; members = refl; mosaic = refl; sorting = refl; flight = ap (λ turn. begun_flight turn st.at) (zero_turn before rest st.at e) })
    refl (omega arith) refl (omega arith)
  where
    empty_number : field_number (with_empty_head before rest) st flight_head_tag 0 ≡ head_number st
    empty_number = empty_passes (with_empty_head before rest) st

    zero_number : field_number (with_written_zero before rest) st flight_head_tag 2 ≡ head_number st
    zero_number = zero_passes (with_written_zero before rest) st (zero_turn before rest st.at e)
