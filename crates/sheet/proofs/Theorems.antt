-- What holds of every sheet: it is refused exactly for a cause of the table, with its number and place, and else accepted; and what is accepted is sound.
-- The idea: the reading goes from field to field as the rows say; each step ends in the first row that fails or in the next field.
use Rattle.std.specs.Prelude.{ℕ, zero, suc, ◌+◌, ◌-◌, ◌≤◌, ◌<◌, ◌≡◌, Bool, true, false, List, length}
use Rattle.std.proofs.Math.Path.{refl}
use Rattle.std.proofs.Common.{sym, ap, ap₂, subst, ◌∙◌, eq-eqb, ne_eqb}
use Rattle.std.proofs.Math.Decide.{ℕ_discrete, dec_lt}
use native.Mathlib.Omega.{arith}
use Rattle.field.specs.Field.{field_at}
use Rattle.field.specs.Fields.{whole_at}
use Rattle.field.specs.declared.Field.{Field}
use Rattle.field.specs.declared.Field.TheVariants.{End, Cut, Whole}
use Rattle.sheet.specs.Limits.{most_blocks_without_order}
use Rattle.sheet.specs.Refusals.{field_cut, order_impossible}
use Rattle.sheet.specs.Sections.{in_flight, after_order}
use Rattle.sheet.specs.Rows.{row_at, Fails, NoCause}
use Rattle.sheet.specs.RowLaws.{numbers_of}
use Rattle.sheet.proofs.RowLaws.{answer_passes, passes_answer, answer_fails, fails_answer, fails_other}
use Rattle.sheet.specs.Among.{is_among}
use Rattle.sheet.specs.Causes.{field_rows, end_rows, rows_at}
use Rattle.sheet.specs.Table.{Reached, Cause, Complete}
use Rattle.sheet.specs.Table.Reached.{at_start, past_field}
use Rattle.sheet.specs.Decode.{next_reading, start_reading}
use Rattle.sheet.specs.Read.{field_number, end_number, refused, accepted, at_end, read_from, read_sheet}
use Rattle.sheet.specs.Sound.{SheetSound, strips_in_all}
use Rattle.sheet.proofs.Decided.{field_answers, end_answers, cut_answers}
use Rattle.sheet.specs.Invariant.{Kept}
use Rattle.sheet.specs.Progress.{Progress}
use Rattle.sheet.proofs.Progress.{progress_start, progress_end, progress_cut, progress_refused, progress_next, step_end, step_cut, step_next}
use Rattle.sheet.proofs.Progress.{step_refused}
use Rattle.sheet.specs.declared.Reading.{Reading}
use Rattle.sheet.specs.declared.Sheet.{Sheet}
use Rattle.sheet.specs.Theorems.{Outcome, is_accepted, is_refused}

-- The numbers that a sheet is refused with are those of the rows: never 0, and never 11.
pub refused_some : (s : List ℕ) (st : Reading) (f : Field) (number place : ℕ) → Fails (rows_at s st f) number place → number ≡ 0 → ⊥
unfolding rows_at field_rows end_rows numbers_of is_among
refused_some s st f number place c = fails_other (rows_at s st f) number place 0 c (other f)
  where
    other : (f : Field) → is_among 0 (numbers_of (rows_at s st f)) ≡ false
    other End = refl
    other Cut = refl
    other (Whole tag len) = refl

pub never_eleven : (s : List ℕ) (st : Reading) (f : Field) (number place : ℕ) → Fails (rows_at s st f) number place → number ≡ order_impossible → ⊥
unfolding rows_at field_rows end_rows numbers_of is_among
never_eleven s st f number place c = fails_other (rows_at s st f) number place order_impossible c (other f)
  where
    other : (f : Field) → is_among order_impossible (numbers_of (rows_at s st f)) ≡ false
    other End = refl
    other Cut = refl
    other (Whole tag len) = refl

-- every reached reading is on the way of the reader
pub reached_progress : (s : List ℕ) (st : Reading) → Reached s st → Progress s st
reached_progress s st at_start = progress_start s start_reading refl
reached_progress s st (past_field {st = st₀} tag len r e p) =
    progress_next s st₀ (reached_progress s st₀ r) (Whole tag len) (sym e) tag len refl 0 (next_reading s st₀ tag len)
    (sym (passes_answer _ _ _ (field_answers s st₀ tag len e) p)) refl refl

-- the rows by what stands where a reading is
pub at_field : (s : List ℕ) (st : Reading) (f : Field) (number place : ℕ) → field_at s st.at ≡ f → Fails (rows_at s st f) number place → Cause s st number place
at_field s st f number place e c = rw e c

ending : (s : List ℕ) (st : Reading) (k : ℕ) → end_number st.section st.members ≡ k → Dec (k ≡ 0) → Reached s st → field_at s st.at ≡ End
    → Outcome s (at_end st k)
unfolding at_end rows_at
ending s st k ek (yes z) r e = is_accepted st r (record { at_end_lem = e; passed = answer_passes _ _ _ (end_answers st) (ek ∙ z) }) (rw (eq-eqb _ _ z))
ending s st k ek (no z) r e =
    is_refused st k st.head r
    (at_field s st End k st.head e (subst (λ n. Fails (end_rows st) n st.head) ek (answer_fails _ _ _ (end_answers st) (λ q. z (sym ek ∙ q)))))
    (rw (ne_eqb _ _ z))

module _ (steps : ℕ) (s : List ℕ) (st : Reading) (r : Reached s st) (enough : length s - st.at < suc steps)
    (later : (st' : Reading) → Reached s st' → length s - st'.at < steps → Outcome s (read_from steps s st')) where
  shorter : (tag len : ℕ) → field_at s st.at ≡ Whole tag len → length s - (next_reading s st tag len).at < steps
  unfolding next_reading
  shorter tag len e = let w = (whole_at s st.at tag len e).within in omega arith

  whole_step : (tag len : ℕ) → field_at s st.at ≡ Whole tag len → Dec (field_number s st tag len ≡ 0) → Outcome s (read_from (suc steps) s st)
  unfolding rows_at
  whole_step tag len e (yes z) =
      rw (step_next steps s st tag len e z)
      (later (next_reading s st tag len) (past_field tag len r e (answer_passes _ _ _ (field_answers s st tag len e) z)) (shorter tag len e))
  whole_step tag len e (no z) =
      rw (step_refused steps s st tag len e z)
      (is_refused st _ _ r (at_field s st (Whole tag len) _ _ e (answer_fails _ _ _ (field_answers s st tag len e) z)) refl)

  one_step : (f : Field) → field_at s st.at ≡ f → Outcome s (read_from (suc steps) s st)
  unfolding rows_at
  one_step End e = rw (step_end steps s st e) (ending s st _ refl (ℕ_discrete _ 0) r e)
  one_step Cut e =
      rw (step_cut steps s st e)
      (is_refused st field_cut st.at r (at_field s st Cut _ _ e (answer_fails _ _ _ (cut_answers s st e) (λ z. omega arith))) refl)
  one_step (Whole tag len) e = whole_step tag len e (ℕ_discrete _ 0)

traced : (steps : ℕ) (s : List ℕ) (st : Reading) → Reached s st → length s - st.at < steps → Outcome s (read_from steps s st)
traced zero s st r h = absurd (omega arith)
traced (suc steps) s st r h = one_step steps s st r h (λ st' r' h'. traced steps s st' r' h') (field_at s st.at) refl

-- Every sheet is accepted or refused for a cause of the table ..
pub read_outcome : (s : List ℕ) → Outcome s (read_sheet s)
unfolding read_sheet start_reading
read_outcome s = traced (length s + 1) s start_reading at_start (omega arith)

-- .. it is refused with a number and a place wherever their cause lies ..
pub read_refused : (s : List ℕ) (st : Reading) (number place : ℕ) → Reached s st → Cause s st number place → read_sheet s ≡ refused number place
unfolding at_end rows_at
read_refused s st number place r c = go (field_at s st.at) refl c
  where
    p : Progress s st
    p = reached_progress s st r

    ended : (k : ℕ) → (k ≡ 0 → ⊥) → at_end st k ≡ refused k st.head
    ended k h = rw (ne_eqb k 0 h)

    go : (f : Field) → field_at s st.at ≡ f → Fails (rows_at s st f) number place → read_sheet s ≡ refused number place
    go End e c =
        let n = fails_answer _ _ _ (end_answers st) number place c in
        sym (progress_end s st p End (sym e) _ refl refl) ∙ ended _ (λ z. refused_some s st End number place c (sym n.0 ∙ z)) ∙ ap₂ refused n.0 n.1
    go Cut e c =
        let n = fails_answer _ _ _ (cut_answers s st e) number place c in
        sym (progress_cut s st p Cut (sym e) (refused field_cut st.at) refl refl) ∙ ap₂ refused n.0 n.1
    go (Whole tag len) e c =
        let n = fails_answer _ _ _ (field_answers s st tag len e) number place c in
        let some : field_number s st tag len ≡ 0 → ⊥ = λ z. refused_some s st (Whole tag len) number place c (sym n.0 ∙ z) in
        sym (progress_refused s st p (Whole tag len) (sym e) tag len refl (field_number s st tag len) _ _ refl some refl refl)
        ∙ ap₂ refused n.0 n.1

-- .. and accepted wherever it is read to its end.
pub read_accepted : (s : List ℕ) (st : Reading) → Reached s st → Complete s st → read_sheet s ≡ accepted st
unfolding at_end
read_accepted s st r c =
    sym (progress_end s st (reached_progress s st r) End (sym c.at_end_lem) _ refl refl) ∙ rw (passes_answer _ _ _ (end_answers st) c.passed)

-- What is accepted is sound: every time in its range, every count within its limits, an order proper where one is given.
some_members : (st : Reading) → NoCause (end_rows st) → 1 ≤ st.members
unfolding NoCause end_rows row_at
some_members st p = go (dec_lt st.members 1)
  where
    go : Dec (st.members < 1) → 1 ≤ st.members
    go (yes h) = absurd (p 0 h)
    go (no h) = omega arith

few_blocks_lem : (st : Reading) → NoCause (end_rows st) → st.section ≡ in_flight → st.members ≤ most_blocks_without_order
unfolding NoCause end_rows row_at
few_blocks_lem st p e = go (dec_lt most_blocks_without_order st.members)
  where
    go : Dec (most_blocks_without_order < st.members) → st.members ≤ most_blocks_without_order
    go (yes h) = absurd (p 1 (record { flight = e; many = h }))
    go (no h) = omega arith

flight_free : (s : List ℕ) (st : Reading) → Kept s st → NoCause (end_rows st) → st.flight.ordered ≡ false → st.flight.blocks ≤ most_blocks_without_order
flight_free s st k p plain = by_section (ℕ_discrete st.section in_flight) (ℕ_discrete st.section after_order)
  where
    by_section : Dec (st.section ≡ in_flight) → Dec (st.section ≡ after_order) → st.flight.blocks ≤ most_blocks_without_order
    by_section (yes e) d = omega (arith, (k.in_flight_lem e).0, few_blocks_lem st p e)
    by_section (no e) (yes d) = let z : ◌≡◌ {A = Bool} false true = sym plain ∙ (k.after_order_holds d).1 in let y : ◌≡◌ {A = ℕ} 0 1 = cc in absurd (omega arith)
    by_section (no e) (no d) = let n = k.known in omega (arith, (k.before_flight (omega arith)).0)

members_somewhere : (s : List ℕ) (st : Reading) → Kept s st → 1 ≤ st.members → (n : ℕ) → st.section ≡ n
    → 1 ≤ st.mosaic.strips + strips_in_all st.sorting + st.flight.blocks
members_somewhere s st k h zero e = absurd (omega (arith, k.in_none e))
members_somewhere s st k h (suc zero) e = omega (arith, k.in_mosaic_holds e)
members_somewhere s st k h (suc (suc zero)) e = omega (arith, k.in_sorting_holds e)
members_somewhere s st k h (suc (suc (suc zero))) e = omega (arith, (k.in_flight_lem e).0)
members_somewhere s st k h (suc (suc (suc (suc zero)))) e = omega (arith, (k.after_order_holds e).0)
members_somewhere s st k h (suc (suc (suc (suc (suc n))))) e = let q = k.known in absurd (omega arith)

complete_sound : (s : List ℕ) (st : Reading) → Kept s st → Complete s st → SheetSound (accepted st)
unfolding accepted
complete_sound s st k c =
    let f = k.flight in
    record {
      mosaic = k.mosaic;
      sorting = k.sorting;
      flight =
          record {
            most_blocks_holds = f.most_blocks_holds;
            most_turn_holds = f.most_turn_holds;
            first_length = f.first_length;
            shortest_length = f.shortest_length;
            longest_length = f.longest_length;
            second_length = f.second_length;
            most_first = f.most_first;
            most_delay = f.most_delay;
            most_second = f.most_second;
            least_first = f.least_first;
            least_second = f.least_second;
            window = f.window;
            given = f.given;
            free = flight_free s st k c.passed;
          };
      some_member = members_somewhere s st k (some_members st c.passed) st.section refl;
    }

pub read_sound : (s : List ℕ) → (read_sheet s).number ≡ 0 → SheetSound (read_sheet s)
unfolding refused
read_sound s e = sound (read_sheet s) (read_outcome s) e
  where
    sound : (r : Sheet) → Outcome s r → r.number ≡ 0 → SheetSound r
    sound r (is_accepted st p c er) z = rw er (complete_sound s st (reached_progress s st p).kept c)
    sound r (is_refused st number place p q er) z = absurd (refused_some s st _ number place q (sym (ap (λ x. x.number) er) ∙ z))
