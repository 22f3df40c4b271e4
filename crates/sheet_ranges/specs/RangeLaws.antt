-- Laws of the ranges: how one value after another decides the number, in a loop over the station times too, and that values read from the sheet are the ones
-- that the field table names.
use Rattle.std.specs.Prelude.{Result, Ok, Err, ℕ, zero, suc, ◌+◌, ◌-◌, ◌*◌, ◌≤◌, ◌<◌, ◌^◌, ◌≡◌, cond, List, [], ◌∷◌, ◌++◌, eqb}
use Rattle.std.specs.Result.{IsErrAnd}
use Rattle.std.proofs.Math.Path.{refl, sym, ap}
use Rattle.std.proofs.Common.{subst, ◌∙◌}
use native.Mathlib.Omega.{arith}
use Rattle.std.proofs.Math.Decide.{ℕ_discrete}
use borrow.Author.Tests.{le-leb, lt-leb, eq-eqb, ne_eqb}
use Rattle.base.specs.Branch.{check}
use Rattle.field.specs.Bytes.{number_at, NumberRead}
use Rattle.sheet.specs.Limits.{most_time, most_turn, most_weight}
use Rattle.sheet.specs.Refusals.{out_of_range, time_too_large, time_of_zero}
use Rattle.sheet.specs.Tags.{mosaic_head_tag, mosaic_strip_tag, sorting_head_tag, sorting_strip_tag, flight_head_tag, flight_block_tag, flight_order_tag}
use Rattle.sheet.specs.Tags.{flight_window_block_tag}
use Rattle.sheet.specs.Among.{Among}
use Rattle.sheet.specs.FieldTable.{mosaic_head, mosaic_strip, sorting_head, sorting_strip, turn_flight_head, flight_block, flight_order, field_table, lengths_due}
use Rattle.sheet.specs.FieldTable.{flight_window_block}
use Rattle.sheet.specs.FieldTable.{Value, values_of, content_values, field_values}
use Rattle.sheet.specs.FieldTable.Range.{time}
use Rattle.sheet.specs.FieldTable.Value.{value}
use Rattle.sheet.specs.Contents.{weight_values, strip_from}
use Rattle.sheet.proofs.Contents.{strip_from_start, strip_time_left, strip_bench_left, strip_stations, mosaic_head_values_lem, mosaic_strip_values, sorting_head_values_lem}
use Rattle.sheet.proofs.Contents.{sorting_strip_values, flight_head_values_lem, flight_block_values, flight_window_block_values, flight_order_values, no_content, none_due}
use Rattle.sheet_ranges.specs.RangePre.{StripPre, WeightPre, RangePre}
use Rattle.sheet.specs.Rows.{first_failure}
use Rattle.sheet.proofs.RowLaws.{given_last}
use Rattle.sheet.specs.Given.{number_of, number_given}
use Rattle.sheet.proofs.GivenNumbers.{given_number, given_refused, given_nothing}
use Rattle.sheet.specs.declared.refusals.Refusal.{Refusal}
use Rattle.sheet.specs.Checks.{count_number, time_number, value_number, value_numbers, range_number}

-- one count, and one time
module _ (least number most : ℕ) where
  pub count_below : number < least → out_of_range ≡ count_number least number most
  unfolding count_number check
  count_below h = rw (lt-leb least number h)

  pub count_above : least ≤ number → most < number → out_of_range ≡ count_number least number most
  unfolding count_number check
  count_above h k = rw (le-leb least number h, lt-leb number most k)

  pub count_within : least ≤ number → number ≤ most → 0 ≡ count_number least number most
  unfolding count_number check
  count_within h k = rw (le-leb least number h, le-leb number most k)

  pub time_above : most < number → time_too_large ≡ time_number least number most
  unfolding time_number check
  time_above k = rw (lt-leb number most k)

  pub time_below : number ≤ most → number < least → time_of_zero ≡ time_number least number most
  unfolding time_number check
  time_below k h = rw (le-leb number most k, lt-leb least number h)

  pub time_within : number ≤ most → least ≤ number → 0 ≡ time_number least number most
  unfolding time_number check
  time_within k h = rw (le-leb number most k, le-leb least number h)

-- one value after another: the first that is refused decides
module _ (v : Value) (values : List Value) where
  pub value_refused : (r : Result (Unit {0}) Refusal) (refusal : Refusal) → IsErrAnd r (λ d. d ≡ refusal) → number_of refusal ≡ value_number v
      → number_given r ≡ range_number (v ∷ values)
  unfolding range_number value_numbers
  value_refused r refusal h e = given_refused (value_numbers values) _ r refusal h e

  pub value_passes : (n : ℕ) → 0 ≡ value_number v → n ≡ range_number values → n ≡ range_number (v ∷ values)
  unfolding range_number value_numbers
  value_passes n z h = given_nothing (value_numbers values) _ n z h

pub value_last : (v : Value) (n : ℕ) → n ≡ value_number v → n ≡ range_number (v ∷ [])
unfolding range_number value_numbers
value_last v n e = given_last n _ e

pub ruleset values = (value_refused, value_passes, value_last)

-- the first k station times of a strip pass: those from k on decide
pub record TimesPassed (s : List ℕ) (c stations k : ℕ) : Type 0 where
  pub within : k ≤ stations
  pub left : range_number (content_values s c (mosaic_strip stations)) ≡ range_number (strip_from s c k (stations - k))

pub times_none : (s : List ℕ) (c stations : ℕ) → TimesPassed s c stations 0
times_none s c stations =
    record {
      within = omega arith;
      left = ap range_number (strip_from_start s c stations) ∙ ap (λ n. range_number (strip_from s c 0 n)) (omega arith);
    }

module _ (s : List ℕ) (c stations k : ℕ) (t : TimesPassed s c stations k) where
  module _ (more : k < stations) (x : ℕ) (n : NumberRead s (c + 2 * k) 2 x) where
    some_left : stations - k ≡ suc (stations - (k + 1))
    some_left = omega arith

    next : range_number (content_values s c (mosaic_strip stations))
        ≡ range_number (value (time most_time) (number_at s (c + 2 * k) 2) ∷ strip_from s c (k + 1) (stations - (k + 1)))
    next = t.left ∙ ap (λ j. range_number (strip_from s c k j)) some_left ∙ ap range_number (strip_time_left s c k _)

    read : (m : ℕ) → m ≡ time_number 0 x most_time → m ≡ time_number 0 (number_at s (c + 2 * k) 2) most_time
    read m e = e ∙ ap (λ x. time_number 0 x most_time) n.is

    pub times_refused : (r : Result (Unit {0}) Refusal) (refusal : Refusal) → IsErrAnd r (λ d. d ≡ refusal) → number_of refusal ≡ time_number 0 x most_time
        → number_given r ≡ range_number (content_values s c (mosaic_strip stations))
    unfolding value_number
    times_refused r refusal h e = value_refused _ _ r refusal h (read _ e) ∙ sym next

    pub times_more : 0 ≡ time_number 0 x most_time → TimesPassed s c stations (k + 1)
    unfolding value_number
    times_more e =
        record {
          within = omega arith;
          left = next ∙ sym (value_passes _ _ _ (read 0 e) refl);
        }

  pub times_bench : stations ≤ k → (x r : ℕ) → NumberRead s (c + 2 * stations) 2 x → r ≡ time_number 1 x most_time
      → r ≡ range_number (content_values s c (mosaic_strip stations))
  unfolding value_number
  times_bench h x r n e =
      value_last _ r (e ∙ ap (λ x. time_number 1 x most_time) (n.is ∙ ap (λ j. number_at s (c + 2 * j) 2) last))
      ∙ sym (t.left ∙ ap (λ j. range_number (strip_from s c k j)) none_left ∙ ap range_number (strip_bench_left s c k))
    where
      last : stations ≡ k
      last = let w = t.within in omega arith

      none_left : stations - k ≡ 0
      none_left = omega arith

-- where there is no value
empty_passes : 0 ≡ range_number []
unfolding range_number value_numbers first_failure
empty_passes = refl

-- values with others behind them: the first part that gives no 0 decides
failure_behind : (numbers more : List ℕ) → first_failure (numbers ++ more) ≡ first_failure (first_failure numbers ∷ first_failure more ∷ [])
unfolding first_failure
failure_behind [] more = alone (first_failure more)
  where
    alone : (n : ℕ) → n ≡ first_failure (n ∷ [])
    alone zero = unfold first_failure in refl
    alone (suc n) = unfold first_failure in refl
failure_behind (zero ∷ numbers) more = failure_behind numbers more
failure_behind (suc n ∷ numbers) more = refl

numbers_behind : (values more : List Value) → value_numbers (values ++ more) ≡ value_numbers values ++ value_numbers more
unfolding value_numbers
numbers_behind [] more = refl
numbers_behind (v ∷ values) more = ap (λ (numbers : List ℕ). value_number v ∷ numbers) (numbers_behind values more)

range_behind : (values more : List Value) → range_number (values ++ more) ≡ first_failure (range_number values ∷ range_number more ∷ [])
unfolding range_number
range_behind values more = ap first_failure (numbers_behind values more) ∙ failure_behind (value_numbers values) (value_numbers more)

-- the weight of a strip, and the strip by what its values before the weight give
module _ (s : List ℕ) (c len others : ℕ) where
  pub weight_absent : len ≡ others → 0 ≡ range_number (weight_values s c len others)
  unfolding weight_values
  weight_absent e = rw (eq-eqb len others e) empty_passes

  pub weight_there : (len ≡ others → ⊥) → (w r : ℕ) → NumberRead s (c + others) 1 w → r ≡ count_number 1 w most_weight
      → r ≡ range_number (weight_values s c len others)
  unfolding weight_values value_number
  weight_there n w r read e = rw (ne_eqb len others n) (value_last _ r (e ∙ ap (λ x. count_number 1 x most_weight) read.is))

module _ (before : Result (Unit {0}) Refusal) (weight : ℕ) where
  pub before_decides : (refusal : Refusal) → before ≡ Err refusal → number_of refusal ≡ first_failure (number_given before ∷ weight ∷ [])
  before_decides refusal e = given_number (weight ∷ []) _ refusal (sym (ap number_given e))

  pub weight_decides : (u : Unit {0}) → before ≡ Ok u → (n : ℕ) → n ≡ weight → n ≡ first_failure (number_given before ∷ weight ∷ [])
  weight_decides u e n h = given_nothing (weight ∷ []) _ n (sym (ap number_given e)) (given_last n _ h)

-- an empty flight head has no value, and the pass order no range
module _ (len turn : ℕ) where
  pub empty_head : len ≡ 0 → 0 ≡ range_number (cond (eqb len 0) [] (values_of turn_flight_head (turn ∷ [])))
  empty_head e = rw (eq-eqb len 0 e) empty_passes

  pub turn_head : (r : ℕ) → (len ≡ 0 → ⊥) → r ≡ time_number 0 turn most_turn → r ≡ range_number (cond (eqb len 0) [] (values_of turn_flight_head (turn ∷ [])))
  unfolding turn_flight_head values_of value_number
  turn_head r h e = rw (ne_eqb len 0 h) (value_last _ r e)

order_passes : (n : ℕ) → 0 ≡ range_number (values_of flight_order (n ∷ []))
unfolding flight_order values_of range_number value_numbers value_number first_failure
order_passes n = refl

-- the values that a field is checked for are read from its content
module _ (s : List ℕ) (c tag len stations desks r : ℕ) (pre : RangePre c tag len stations desks) where
  -- where the tag is known, by the values that its content has
  of_tag : (t : ℕ) (values : List Value) → tag ≡ t
      → (Among len (lengths_due t (field_table stations desks)) → field_values s c t len (field_table stations desks) ≡ values)
      → r ≡ range_number values → r ≡ range_number (field_values s c tag len (field_table stations desks))
  of_tag t values e law h =
      h ∙ sym (ap (λ x. range_number (field_values s c x len (field_table stations desks))) e
      ∙ ap range_number (law (subst (λ x. Among len (lengths_due x (field_table stations desks))) e pre.due)))

  pub mosaic_head_read : tag ≡ mosaic_head_tag → (m mount : ℕ) → NumberRead s c 1 m → NumberRead s (c + 1) 2 mount
      → r ≡ range_number (values_of mosaic_head (m ∷ mount ∷ [])) → r ≡ range_number (field_values s c tag len (field_table stations desks))
  mosaic_head_read e m mount n₁ n₂ h = of_tag mosaic_head_tag _ e (mosaic_head_values_lem s c len stations desks) (rw (← n₁.is, ← n₂.is) h)

  -- a strip whose length is due has few stations
  pub strip_pre : tag ≡ mosaic_strip_tag → StripPre c stations
  strip_pre e =
      record {
        begins = pre.begins;
        few_stations = (strip_stations len stations desks (subst (λ x. Among len (lengths_due x (field_table stations desks))) e pre.due)).1;
      }

  pub strip_doubled : tag ≡ mosaic_strip_tag → 2 * stations < 2 ^ 64
  strip_doubled e = let p = strip_pre e in omega (arith, p.few_stations)

  pub strip_others : tag ≡ mosaic_strip_tag → 2 * stations + 2 < 2 ^ 64
  strip_others e = let p = strip_pre e in omega (arith, p.few_stations)

  pub mosaic_weight_pre : tag ≡ mosaic_strip_tag → WeightPre c (2 * stations + 2)
  mosaic_weight_pre e = let p = strip_pre e in record { begins = pre.begins; soon = omega (arith, p.few_stations) }

  pub mosaic_strip_read : tag ≡ mosaic_strip_tag → (before : ℕ) → before ≡ range_number (content_values s c (mosaic_strip stations))
      → r ≡ first_failure (before ∷ range_number (weight_values s c len (2 * stations + 2)) ∷ [])
      → r ≡ range_number (field_values s c tag len (field_table stations desks))
  mosaic_strip_read e before b h =
      of_tag mosaic_strip_tag _ e (mosaic_strip_values s c len stations desks)
      (h ∙ ap (λ n. first_failure (n ∷ range_number (weight_values s c len (2 * stations + 2)) ∷ [])) b
      ∙ sym (range_behind (content_values s c (mosaic_strip stations)) (weight_values s c len (2 * stations + 2))))

  pub sorting_head_read : tag ≡ sorting_head_tag → (m : ℕ) → NumberRead s c 1 m → r ≡ range_number (values_of sorting_head (m ∷ []))
      → r ≡ range_number (field_values s c tag len (field_table stations desks))
  sorting_head_read e m n h = of_tag sorting_head_tag _ e (sorting_head_values_lem s c len stations desks) (rw (← n.is) h)

  pub sorting_strip_read : tag ≡ sorting_strip_tag → (desk scan desk_time : ℕ) → NumberRead s c 1 desk → NumberRead s (c + 1) 2 scan → NumberRead s (c + 3) 2 desk_time
      → (before : ℕ) → before ≡ range_number (values_of (sorting_strip desks) (desk ∷ scan ∷ desk_time ∷ []))
      → r ≡ first_failure (before ∷ range_number (weight_values s c len 5) ∷ [])
      → r ≡ range_number (field_values s c tag len (field_table stations desks))
  sorting_strip_read e desk scan desk_time n₁ n₂ n₃ before b h =
      of_tag sorting_strip_tag _ e (sorting_strip_values s c len stations desks)
      (h ∙ ap (λ n. first_failure (n ∷ range_number (weight_values s c len 5) ∷ [])) (b ∙ read)
      ∙ sym (range_behind (values_of (sorting_strip desks) (number_at s c 1 ∷ number_at s (c + 1) 2 ∷ number_at s (c + 3) 2 ∷ [])) (weight_values s c len 5)))
    where
      read : range_number (values_of (sorting_strip desks) (desk ∷ scan ∷ desk_time ∷ []))
          ≡ range_number (values_of (sorting_strip desks) (number_at s c 1 ∷ number_at s (c + 1) 2 ∷ number_at s (c + 3) 2 ∷ []))
      read = rw (n₁.is, n₂.is, n₃.is)

  pub flight_head_read : tag ≡ flight_head_tag → (turn : ℕ) → NumberRead s c 2 turn
      → r ≡ range_number (cond (eqb len 0) [] (values_of turn_flight_head (turn ∷ []))) → r ≡ range_number (field_values s c tag len (field_table stations desks))
  flight_head_read e turn n h = of_tag flight_head_tag _ e (flight_head_values_lem s c len stations desks) (rw (← n.is) h)

  pub flight_block_read : tag ≡ flight_block_tag → (a l b : ℕ) → NumberRead s c 2 a → NumberRead s (c + 2) 2 l → NumberRead s (c + 4) 2 b
      → r ≡ range_number (values_of flight_block (a ∷ l ∷ b ∷ [])) → r ≡ range_number (field_values s c tag len (field_table stations desks))
  flight_block_read e a l b n₁ n₂ n₃ h =
      of_tag flight_block_tag _ e (flight_block_values s c len stations desks) (rw (← n₁.is, ← n₂.is, ← n₃.is) h)

  pub flight_window_block_read : tag ≡ flight_window_block_tag → (a shortest longest b : ℕ) → NumberRead s c 2 a → NumberRead s (c + 2) 2 shortest
      → NumberRead s (c + 4) 2 longest → NumberRead s (c + 6) 2 b → r ≡ range_number (values_of flight_window_block (a ∷ shortest ∷ longest ∷ b ∷ []))
      → r ≡ range_number (field_values s c tag len (field_table stations desks))
  flight_window_block_read e a shortest longest b n₁ n₂ n₃ n₄ h =
      of_tag flight_window_block_tag _ e (flight_window_block_values s c len stations desks) (rw (← n₁.is, ← n₂.is, ← n₃.is, ← n₄.is) h)

-- a field of any other tag has no value with a range
module _ (s : List ℕ) (c tag len stations desks : ℕ) (pre : RangePre c tag len stations desks) where
  pub no_values_read : (tag ≡ mosaic_head_tag → ⊥) → (tag ≡ mosaic_strip_tag → ⊥) → (tag ≡ sorting_head_tag → ⊥) → (tag ≡ sorting_strip_tag → ⊥)
      → (tag ≡ flight_head_tag → ⊥) → (tag ≡ flight_block_tag → ⊥) → (tag ≡ flight_window_block_tag → ⊥)
      → 0 ≡ range_number (field_values s c tag len (field_table stations desks))
  no_values_read h₁ h₂ h₃ h₄ h₅ h₆ h₇ = go (ℕ_discrete tag flight_order_tag)
    where
      go : Dec (tag ≡ flight_order_tag) → 0 ≡ range_number (field_values s c tag len (field_table stations desks))
      go (yes e) = of_tag s c tag len stations desks 0 pre flight_order_tag _ e (flight_order_values s c len stations desks) (order_passes _)
      go (no n) = absurd (none_due tag (field_table stations desks) (no_content stations desks tag h₁ h₂ h₃ h₄ h₅ h₆ h₇ n) len pre.due)
