-- 6, 15 and 16 are each given exactly where the first value that is not within its range is out of it in their way (`RefusedForValue`), and 17 exactly where
-- every value is within its range and a window's longest delay is below its shortest (`RefusedForLongestBelowShortest`).
-- The idea: each of the four numbers stands in one row alone, and where its cause lies, no row before it fails.
use Rattle.std.specs.Prelude.{ℕ, ◌+◌, ◌<◌, ◌≡◌, false}
use Rattle.std.proofs.Math.Path.{refl, ap}
use Rattle.std.proofs.Common.{sym, subst, arith}
use mathlib.Core.List.{List}
use Rattle.base.specs.Branch.{check}
use Rattle.field.specs.Bytes.{number_at}
use Rattle.field.specs.Field.{field_at}
use Rattle.field.specs.declared.Field.{Field}
use Rattle.field.specs.declared.Field.TheVariants.{End, Cut, Whole}
use Rattle.sheet.specs.Refusals.{out_of_range, time_too_large, time_of_zero, longest_below_shortest}
use Rattle.sheet.specs.FieldTable.{table_of, lengths_due, Value}
use Rattle.sheet.specs.Among.{is_among, among_else}
use Rattle.sheet.specs.Rows.{Row, row_at, Fails, first_failure}
use Rattle.sheet.specs.RowLaws.{numbers_of, without_row}
use Rattle.sheet.proofs.RowLaws.{passes_zero, fails_number, answer_fails, fails_other, fails_at, given_passes, given_fails}
use Rattle.sheet.specs.Causes.{CountOutOfRange, TimeTooLarge, TimeOfZero, field_rows, end_rows, rows_at}
use Rattle.sheet.specs.Checks.{value_number}
use Rattle.sheet.specs.Read.{content_checks, field_checks, field_number, place_of}
use Rattle.sheet.specs.Table.{RefusedFor, RefusedForContent, ValueOut, RefusedForValue, LongestBelowInRange, RefusedForLongestBelowShortest}
use Rattle.sheet.proofs.Ranges.{count_number_lem, too_large_number, zero_number, first_out_number, range_passes}
use Rattle.sheet.proofs.Decided.{members_given, order_given_lem, permitted_given, length_given, window_given, field_answers}
use Rattle.sheet.proofs.Theorems.{at_field}
use Rattle.sheet.proofs.Passed.{in_range, permitted_else}
use Rattle.sheet.specs.declared.Reading.{Reading}

-- where a content has a fault for which its checks give a number, the number is given, with the field's place ..
module _ (Fault : Reading → ℕ → ℕ → Type 0) (number : ℕ) (some : 0 < number) (at_field_itself : (head at : ℕ) → place_of number head at ≡ at)
    (s : List ℕ) (place : ℕ) (f : RefusedForContent s Fault place) (given : number ≡ first_failure (content_checks s f.reading f.tag f.len)) where
  field_number_lem : number ≡ field_number s f.reading f.tag f.len
  unfolding field_number field_checks check
  field_number_lem =
      let st = f.reading in
      given_passes _ _ _ _ refl (passes_zero _ _ _ (members_given f.tag st.section st.members) f.some_members)
      (given_passes _ _ _ _ refl (passes_zero _ _ _ (order_given_lem f.tag st.section st.members) f.order_given_lem)
      (given_passes _ _ _ _ refl (passes_zero _ _ _ (permitted_given f.tag st.section st.members) (λ n. n f.tag_permitted))
      given))

  content_refused : RefusedFor s number place
  unfolding rows_at
  content_refused =
      let st = f.reading in
      let e = field_number_lem in
      let same = ap (λ n. place_of n st.head st.at) e in
      let p : place_of (field_number s st f.tag f.len) st.head st.at ≡ place = omega (arith, same, at_field_itself st.head st.at, f.place_is) in
      record {
        reading = st;
        reached = f.reached;
        cause =
            at_field s st (Whole f.tag f.len) number place f.whole
            (moved _ _ _ (sym e) p (answer_fails _ _ _ (field_answers s st f.tag f.len f.whole) (λ z. omega (arith, e))));
      }
    where
      moved : (rows : List Row) (n p : ℕ) → n ≡ number → p ≡ place → Fails rows n p → Fails rows number place
      moved rows n p e q c = rw (← q, ← e) c

value_refused : (Out : Value → Type 0) (number : ℕ) (gives : (v : Value) → Out v → value_number v ≡ number) (some : 0 < number)
    (at_field_itself : (head at : ℕ) → place_of number head at ≡ at) (s : List ℕ) (place : ℕ) → RefusedForValue s Out place → RefusedFor s number place
unfolding content_checks check
value_refused Out number gives some at_field_itself s place f =
    content_refused (ValueOut s Out) number some at_field_itself s place f
    (given_passes _ _ _ _ refl (passes_zero _ _ _ (length_given f.len (lengths_due f.tag (table_of f.reading))) (λ n. n f.length_due))
    (given_fails _ number _ (sym (first_out_number Out number some gives _ f.fault)) (λ z. omega arith)))

window_refused : (s : List ℕ) (place : ℕ) → RefusedForLongestBelowShortest s place → RefusedFor s longest_below_shortest place
unfolding content_checks check place_of
window_refused s place f =
    let st = f.reading in
    content_refused (LongestBelowInRange s) longest_below_shortest (omega arith) (λ head at. refl) s place f
    (given_passes _ _ _ _ refl (passes_zero _ _ _ (length_given f.len (lengths_due f.tag (table_of st))) (λ n. n f.length_due))
    (given_passes _ _ _ _ refl (range_passes _ f.fault.in_range)
    (given_fails _ longest_below_shortest _
    (sym (fails_number _ _ _ (window_given f.tag (number_at s (st.at + 3 + 2) 2) (number_at s (st.at + 3 + 4) 2)) f.fault.below))
    (λ z. omega arith))))

-- .. and the number, which stands in row k alone, is given there only
module _ (Fault : Reading → ℕ → ℕ → Type 0) (number k : ℕ) (behind : 4 < k) (s : List ℕ) (place : ℕ)
    (not_at_end : (st : Reading) → is_among number (numbers_of (end_rows st)) ≡ false)
    (not_cut : (st : Reading) → is_among number (numbers_of (rows_at s st Cut)) ≡ false)
    (alone : (st : Reading) (tag len : ℕ) → is_among number (numbers_of (without_row k (field_rows s st tag len))) ≡ false)
    (place_of_lem : (st : Reading) (tag len : ℕ) → (row_at (field_rows s st tag len) k).place ≡ st.at)
    (fault_of : (st : Reading) (tag len : ℕ) → ((i : ℕ) → i < k → (row_at (field_rows s st tag len) i).cause → ⊥) → (row_at (field_rows s st tag len) k).cause
    → Fault st tag len) where
  refused_content : RefusedFor s number place → RefusedForContent s Fault place
  unfolding rows_at field_rows row_at
  refused_content r = go (field_at s r.reading.at) refl r.cause
    where
      go : (f : Field) → field_at s r.reading.at ≡ f → Fails (rows_at s r.reading f) number place → RefusedForContent s Fault place
      go End e c = absurd (fails_other _ number place number c (not_at_end r.reading) refl)
      go Cut e c = absurd (fails_other _ number place number c (not_cut r.reading) refl)
      go (Whole tag len) e c =
          let st = r.reading in
          let at_k : c.k ≡ k = fails_at _ number place k (alone st tag len) c in
          record {
            reading = st;
            reached = r.reached;
            tag = tag;
            len = len;
            whole = e;
            some_members = c.before 1 (omega arith);
            order_given_lem = c.before 2 (omega arith);
            tag_permitted = permitted_else tag st.section st.members (c.before 3 (omega arith));
            length_due = among_else len _ (c.before 4 (omega arith));
            fault =
                fault_of st tag len (λ i l. c.before i (omega (arith, at_k))) (subst (λ j. (row_at (field_rows s st tag len) j).cause) at_k c.cause);
            place_is = omega (arith, c.place_is, ap (λ j. (row_at (field_rows s st tag len) j).place) at_k, place_of_lem st tag len);
          }

-- 6, 15, 16 and 17
module _ (s : List ℕ) (place : ℕ) where
  pub count_exactly : (RefusedForValue s CountOutOfRange place → RefusedFor s out_of_range place)
      × (RefusedFor s out_of_range place → RefusedForValue s CountOutOfRange place)
  unfolding place_of rows_at end_rows field_rows row_at without_row numbers_of is_among
  count_exactly = (
    value_refused CountOutOfRange out_of_range count_number_lem (omega arith) (λ head at. refl) s place,
    refused_content (ValueOut s CountOutOfRange) out_of_range 5 (omega arith) s place (λ st. refl) (λ st. refl) (λ st tag len. refl) (λ st tag len. refl) (λ st tag len before c. c),
  )

  pub too_large_exactly : (RefusedForValue s TimeTooLarge place → RefusedFor s time_too_large place)
      × (RefusedFor s time_too_large place → RefusedForValue s TimeTooLarge place)
  unfolding place_of rows_at end_rows field_rows row_at without_row numbers_of is_among
  too_large_exactly = (
    value_refused TimeTooLarge time_too_large too_large_number (omega arith) (λ head at. refl) s place,
    refused_content (ValueOut s TimeTooLarge) time_too_large 6 (omega arith) s place (λ st. refl) (λ st. refl) (λ st tag len. refl) (λ st tag len. refl) (λ st tag len before c. c),
  )

  pub zero_exactly : (RefusedForValue s TimeOfZero place → RefusedFor s time_of_zero place)
      × (RefusedFor s time_of_zero place → RefusedForValue s TimeOfZero place)
  unfolding place_of rows_at end_rows field_rows row_at without_row numbers_of is_among
  zero_exactly = (
    value_refused TimeOfZero time_of_zero zero_number (omega arith) (λ head at. refl) s place,
    refused_content (ValueOut s TimeOfZero) time_of_zero 7 (omega arith) s place (λ st. refl) (λ st. refl) (λ st tag len. refl) (λ st tag len. refl) (λ st tag len before c. c),
  )

  pub window_exactly : (RefusedForLongestBelowShortest s place → RefusedFor s longest_below_shortest place) × (RefusedFor s longest_below_shortest place → RefusedForLongestBelowShortest s place)
  unfolding rows_at end_rows field_rows row_at without_row numbers_of is_among
  window_exactly = (
    window_refused s place,
    refused_content (LongestBelowInRange s) longest_below_shortest 8 (omega arith) s place (λ st. refl) (λ st. refl) (λ st tag len. refl) (λ st tag len. refl)
        (λ st tag len before c. record { in_range = in_range _ (before 5 (omega arith)) (before 6 (omega arith)) (before 7 (omega arith)); below = c }),
  )
