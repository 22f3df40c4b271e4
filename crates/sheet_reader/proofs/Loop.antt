-- What the reader's callees require holds at every step: a whole field lies within the sheet, and one that passes its checks has room.
use Prim.Native.Nat.{ℕ, ◌+◌, ◌-◌, ◌*◌, ◌≤◌, ◌<◌, ◌^◌}
use Rattle.std.specs.Prelude.{◌≡◌, Bool, cond, List, length, Result, Ok, Err}
use Rattle.std.proofs.Math.Path.{refl, subst}
use Rattle.std.proofs.Common.{sym, ap, ◌∙◌}
use Rattle.std.proofs.lemmas.Bool.{lt-leb}
use Rattle.std.proofs.Math.Bool.{true, false}
use native.Mathlib.Omega.{arith}
use Rattle.std.proofs.Math.Dec.{eqb}
use borrow.Author.Tests.{eqb-true, ne_eqb}
use Rattle.field.specs.Bytes.{number_at}
use Rattle.field.specs.Field.{field_at, end_of}
use Rattle.field.specs.Fields.{whole_at}
use Rattle.field.specs.declared.Field.{Field}
use Rattle.field.specs.declared.Field.TheVariants.{End, Cut, Whole}
use Rattle.sheet.specs.Limits.{most_blocks, most_desks, most_strips, most_strips_of_desk}
use Rattle.sheet.specs.Tags.{mosaic_strip_tag, sorting_strip_tag, flight_block_tag, flight_window_block_tag}
use Rattle.sheet.specs.Sections.{in_mosaic, in_flight, strips_of_desk}
use Rattle.sheet.specs.FieldTable.{sorting_strip, values_of, Within}
use Rattle.sheet.proofs.Contents.{sorting_strip_values}
use Rattle.sheet.specs.Causes.{TooMany}
use Rattle.sheet.specs.Checks.{permitted}
use Rattle.sheet.specs.Decode.{next_reading, start_reading}
use Rattle.sheet.specs.Read.{field_number, end_number, place_of, refused, accepted, at_end, read_sheet}
use Rattle.sheet.proofs.Decided.{permitted_true}
use Rattle.sheet.specs.Passed.{Passed}
use Rattle.sheet.proofs.Passed.{passes, within_by, first_within}
use Rattle.sheet.specs.Invariant.{Kept}
use Rattle.sheet.proofs.Invariant.{below}
use Rattle.sheet.specs.Progress.{Progress}
use Rattle.sheet.proofs.Progress.{progress_start, progress_end, progress_cut, progress_next, progress_refused, progress_less}
use Rattle.sheet.specs.declared.Reading.{Reading}
use Rattle.sheet.specs.declared.refusals.Refusal.TheVariants.{FieldCut}
use Rattle.sheet.specs.declared.refusals.Refused.{Refused}
use Rattle.sheet.specs.Given.{number_of}
use Rattle.sheet.proofs.GivenNumbers.{refusal_not_zero}
use Rattle.std.specs.Result.{IsErrAnd}
use Rattle.field.specs.Fields.{field_end}
use Rattle.sheet_checks.specs.FieldPre.{FieldPre}
use Rattle.sheet_decode.specs.Pre.{NextReadingPre}
use Rattle.sheet_reader.specs.Answer.{sheet_of}

module _ (s : List ℕ) (st : Reading) (tag len : ℕ) (k : Kept s st) (w : st.at + 3 + len ≤ length s) (p : Passed s st tag len) where
  strip_fits : tag ≡ mosaic_strip_tag → st.mosaic.strips < most_strips
  unfolding permitted
  strip_fits e =
      let h : st.section ≡ in_mosaic = eqb-true st.section in_mosaic (rw e at (permitted_true tag st.section st.members p.tag_ok)) in
      let r : st.members < most_strips = below st.members most_strips (λ m. p.room_ok (TooMany.strip e m)) in
      omega (arith, k.in_mosaic_holds h)

  desk_fits : tag ≡ sorting_strip_tag → number_at s (st.at + 3) 1 ≤ most_desks
  unfolding sorting_strip values_of Within
  desk_fits e =
      let q : Passed s st sorting_strip_tag len = subst (λ x. Passed s st x len) e p in
      let b = (first_within _ _ (within_by q (sorting_strip_values s (st.at + 3) len _ _))).at_most in
      let d = k.sorting.most_desks_holds in
      omega arith

  desk_strip_fits : tag ≡ sorting_strip_tag → strips_of_desk st.sorting.counts (number_at s (st.at + 3) 1) < most_strips_of_desk
  desk_strip_fits e = below _ _ (λ m. p.room_ok (TooMany.strip_of_desk_lem e m))

  -- a block of either tag
  fits_in_flight : eqb st.section in_flight ≡ true → (most_blocks ≤ st.members → ⊥) → st.flight.blocks < most_blocks
  fits_in_flight h few =
      let r : st.members < most_blocks = below st.members most_blocks few in
      omega (arith, (k.in_flight_lem (eqb-true st.section in_flight h)).0)

  block_fits : tag ≡ flight_block_tag → st.flight.blocks < most_blocks
  unfolding permitted
  block_fits e = fits_in_flight (rw e at (permitted_true tag st.section st.members p.tag_ok)) (λ m. p.room_ok (TooMany.block e m))

  window_block_fits : tag ≡ flight_window_block_tag → st.flight.blocks < most_blocks
  unfolding permitted
  window_block_fits e = fits_in_flight (rw e at (permitted_true tag st.section st.members p.tag_ok)) (λ m. p.room_ok (TooMany.window_block_holds e m))

  pub next_pre : length s * 1 < 2 ^ 63 → NextReadingPre s st tag len
  next_pre big =
      record {
        within = w;
        few_members = k.few_members;
        mosaic = record { content = omega arith; stations_fit = k.mosaic.most_stations_holds; strip_fits = strip_fits };
        sorting = record { content = omega arith; desk_fits = desk_fits; strip_fits = desk_strip_fits };
        flight = record { content = omega arith; block_fits = block_fits; window_block_fits = window_block_fits };
      }

-- The loop: the reader stands on the same sheet, at the offset of the reading, and what is left to read gives the sheet's answer.
pub record ReadingHolds (s row : List ℕ) (at : ℕ) (st : Reading) : Type 0 where
  pub same_sheet : row ≡ s
  pub same_place : at ≡ st.at
  pub progress : Progress s st

start_at : start_reading.at ≡ 0
unfolding start_reading
start_at = refl

pub reading_first : (s row : List ℕ) (at : ℕ) (st : Reading) → row ≡ s → at ≡ 0 → st ≡ start_reading → ReadingHolds s row at st
reading_first s row at st er ea es =
    record { same_sheet = er; same_place = ea ∙ sym (ap (λ (u : Reading). u.at) es ∙ start_at); progress = progress_start s st es }

-- what `?` hands on is the answer of the refusal that it was given
handed_on : (result : Result Reading Refused) (r : Refused) → IsErrAnd result (λ d. d ≡ r) → sheet_of result ≡ refused (number_of r.refusal) r.place
handed_on (Ok st) r e = absurd e
handed_on (Err d) r e = ap (λ (r : Refused). refused (number_of r.refusal) r.place) e

-- before the end of the sheet a field that is not whole is cut
some_field : (short fits : Bool) (tag len : ℕ) → End ≡ cond short Cut (cond fits (Whole tag len) Cut) → ⊥
some_field true fits tag len e = let z : ◌≡◌ {A = ℕ} 0 1 = cc in absurd (omega arith)
some_field false true tag len e = let z : ◌≡◌ {A = ℕ} 0 1 = cc in absurd (omega arith)
some_field false false tag len e = let z : ◌≡◌ {A = ℕ} 0 1 = cc in absurd (omega arith)

not_end : (s : List ℕ) (at : ℕ) → at < length s → End ≡ field_at s at → ⊥
unfolding field_at
not_end s at h e = some_field _ _ _ _ (rw (lt-leb (length s) at h) at e)

is_cut : (s : List ℕ) (at : ℕ) → at < length s → (f : Field) → f ≡ field_at s at → ((tag len : ℕ) → f ≡ Whole tag len → ⊥) → f ≡ Cut
is_cut s at h End e n = absurd (not_end s at h e)
is_cut s at h Cut e n = refl
is_cut s at h (Whole tag len) e n = absurd (n tag len refl)

module _ (s row : List ℕ) (at : ℕ) (st : Reading) (h : ReadingHolds s row at st) where
  module _ (f : Field) (ef : f ≡ field_at row at) where
    field_is : f ≡ field_at s st.at
    field_is = ef ∙ ap (λ (r : List ℕ). field_at r at) h.same_sheet ∙ ap (field_at s) h.same_place

    pub cut_refused : at < length s → ((tag len : ℕ) → f ≡ Whole tag len → ⊥) → (r : Refused) → r ≡ record { refusal = FieldCut; place = st.at }
        → refused (number_of r.refusal) r.place ≡ read_sheet s
    cut_refused more n r e =
        ap (λ (r : Refused). refused (number_of r.refusal) r.place) e
        ∙ progress_cut s st h.progress f field_is _ (is_cut s st.at (subst (λ k. k < length s) h.same_place more) f field_is n) refl

    module _ (tag len : ℕ) (e : f ≡ Whole tag len) where
      within : st.at + 3 + len ≤ length s
      within = (whole_at s st.at tag len (sym field_is ∙ e)).within

      pub field_pre : FieldPre s st len
      field_pre = record { within = within }

      pub field_refused : (result : Result Reading Refused) (r : Refused) → IsErrAnd result (λ d. d ≡ r) → number_of r.refusal ≡ field_number s st tag len
          → r.place ≡ place_of (number_of r.refusal) st.head st.at → sheet_of result ≡ read_sheet s
      field_refused result r i en ep =
          handed_on result r i ∙ progress_refused s st h.progress f field_is tag len e _ r.place _ en (refusal_not_zero r.refusal) ep refl

      module _ (z : 0 ≡ field_number s st tag len) where
        pub reading_pre : length s * 1 < 2 ^ 63 → NextReadingPre s st tag len
        reading_pre big = next_pre s st tag len h.progress.kept within (passes s st tag len (sym field_is ∙ e) (sym z)) big

        module _ (next : Reading) (en : next ≡ next_reading s st tag len) (to : ℕ) (et : to ≡ end_of at (field_at row at)) where
          ahead : (next_reading s st tag len).at ≡ st.at + 3 + len
          unfolding next_reading
          ahead = refl

          behind : end_of at (field_at row at) ≡ at + 3 + len
          unfolding end_of
          behind = rw (← ef, e)

          next_place : to ≡ next.at
          next_place = et ∙ behind ∙ ap (λ k. k + 3 + len) h.same_place ∙ sym (ap (λ (u : Reading). u.at) en ∙ ahead)

          pub reading_next : (rest : List ℕ) → rest ≡ row → ReadingHolds s rest to next
          reading_next rest er =
              record {
                same_sheet = er ∙ h.same_sheet;
                same_place = next_place;
                progress = progress_next s st h.progress f field_is tag len e 0 next z refl en;
              }

          pub reading_less : length s - to < length s - at
          reading_less =
              let q = progress_less s st h.progress f field_is tag len e next en in
              let a = next_place in
              let b = h.same_place in
              omega arith

  -- the end of the sheet
  module _ (past : length s ≤ at) where
    end_is : End ≡ field_at s st.at
    end_is = field_end s st.at (subst (λ k. length s ≤ k) h.same_place past)

    pub end_refused : (result : Result Reading Refused) (r : Refused) → IsErrAnd result (λ d. d ≡ r) → number_of r.refusal ≡ end_number st.section st.members
        → r.place ≡ st.head → sheet_of result ≡ read_sheet s
    unfolding at_end
    end_refused result r i en ep =
        handed_on result r i
        ∙ progress_end s st h.progress End end_is _ refl (rw (← en, ne_eqb _ _ (refusal_not_zero r.refusal), ep))

    pub end_accepted : 0 ≡ end_number st.section st.members → accepted st ≡ read_sheet s
    unfolding at_end
    end_accepted z = progress_end s st h.progress End end_is _ refl (rw (← z))
