-- The place of a refusal: a field's content is refused at the field, since no check of it gives the number of a section or of an order that is missing.
use Rattle.std.specs.Prelude.{ℕ, zero, suc, ◌≡◌, refl, Bool, true, false, Result, Ok, Err, List, [], ◌∷◌, IfErr}
use Rattle.std.proofs.Common.{ap, ◌∙◌, sym}
use Rattle.base.specs.Branch.{check}
use Rattle.sheet.specs.FieldTable.{Value}
use Rattle.sheet.specs.FieldTable.Range.{count, time, positive_time, no_range}
use Rattle.sheet.specs.FieldTable.Value.{value}
use Rattle.sheet.specs.Refusals.{length_wrong, out_of_range, time_too_large, time_of_zero, longest_below_shortest, too_many, order_not_proper}
use Rattle.sheet.specs.Rows.{first_failure}
use Rattle.sheet.specs.Checks.{count_number, time_number, value_number, value_numbers, range_number}
use Rattle.sheet.specs.Read.{content_checks, place_of}
use Rattle.sheet.specs.Given.{number_of, found_number}
use Rattle.sheet.specs.declared.Reading.{Reading}
use Rattle.sheet.specs.declared.refusals.Refusal.{Refusal}
use Rattle.sheet.specs.declared.refusals.Refused.{Refused}

module _ (head at : ℕ) where
  -- the number, where it is given, is placed at the field
  abbrev AtField : ℕ → Type 0
  AtField number = place_of number head at ≡ at

  none : AtField 0
  unfolding place_of
  none = refl

  check_at : (b : Bool) (number : ℕ) → AtField number → AtField (check b number 0)
  unfolding check
  check_at true number h = none
  check_at false number h = h

  time_at : (b : Bool) (rest : ℕ) → AtField rest → AtField (check b time_too_large rest)
  unfolding check place_of
  time_at true rest h = h
  time_at false rest h = refl

  value_at : (v : Value) → AtField (value_number v)
  unfolding value_number count_number time_number place_of
  value_at (value (count least most) number) = check_at _ out_of_range refl
  value_at (value (time most) number) = time_at _ _ (check_at _ time_of_zero refl)
  value_at (value (positive_time most) number) = time_at _ _ (check_at _ time_of_zero refl)
  value_at (value no_range number) = refl

  first_at : (number : ℕ) (checks : List ℕ) → AtField number → AtField (first_failure checks) → AtField (first_failure (number ∷ checks))
  unfolding first_failure
  first_at zero checks h k = k
  first_at (suc n) checks h k = h

  values_at : (values : List Value) → AtField (range_number values)
  unfolding range_number value_numbers first_failure
  values_at [] = none
  values_at (v ∷ values) = first_at (value_number v) (value_numbers values) (value_at v) (values_at values)

  last_at : AtField (first_failure [])
  unfolding first_failure
  last_at = none

  content_at : (s : List ℕ) (st : Reading) (tag len : ℕ) → AtField (first_failure (content_checks s st tag len))
  unfolding content_checks place_of
  content_at s st tag len =
      first_at _ _ (check_at _ length_wrong refl)
      (first_at _ _ (values_at _)
      (first_at _ _ (check_at _ longest_below_shortest refl)
      (first_at _ _ (check_at _ too_many refl)
      (first_at _ _ (check_at _ order_not_proper refl) last_at))))

pub content_place : (s : List ℕ) (st : Reading) (tag len : ℕ) (result : Result (Unit {0}) Refused) → found_number result ≡ first_failure (content_checks s st tag len)
    → IfErr result (λ r. r.place ≡ st.at) → IfErr result (λ r. r.place ≡ place_of (number_of r.refusal) st.head st.at)
content_place s st tag len (Ok u) e p = p
content_place s st tag len (Err r) e p = p ∙ sym (ap (λ n. place_of n st.head st.at) e ∙ content_at st.head st.at s st tag len)

-- a refusal as it was made, with its place
pub made_at : (r : Refused) (refusal : Refusal) (place head at : ℕ) → r ≡ record { refusal = refusal; place = place } → place ≡ place_of (number_of refusal) head at
    → r.place ≡ place_of (number_of r.refusal) head at
made_at r refusal place head at e h = rw e h
