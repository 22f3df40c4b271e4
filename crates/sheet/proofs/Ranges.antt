-- The check of the ranges decides 6, 15 and 16: it gives the number of the first value that is not within its range, and 0 where every value is.
-- The idea: one value is decided by its two tests; a row of values by its first value or, where that is within its range, by the others.
use Prim.{tt}
use Rattle.std.specs.Prelude.{ℕ, ◌<◌, ◌≡◌, refl, Bool, true, false, ◌&&◌, List, [], ◌∷◌, leb}
use Rattle.std.proofs.Common.{sym, ◌∙◌, inl, inr, arith, leb-true, leb-false, le-leb}
use Rattle.std.proofs.lemmas.Bool.{lt-leb}
use Rattle.base.specs.Branch.{check}
use Rattle.sheet.specs.Refusals.{out_of_range, time_too_large, time_of_zero}
use Rattle.sheet.specs.FieldTable.{Value, Within, InRange}
use Rattle.sheet.specs.FieldTable.Range.{count, time, positive_time, no_range}
use Rattle.sheet.specs.FieldTable.Value.{value}
use Rattle.sheet.specs.Rows.{Row, row, first_failure}
use Rattle.sheet.specs.RowLaws.{Answers}
use Rattle.sheet.proofs.RowLaws.{answers_none, answers_here, answers_behind, first_here}
use Rattle.sheet.specs.Causes.{CountOutOfRange, TimeTooLarge, TimeOfZero, FirstOut}
use Rattle.sheet.specs.Checks.{count_number, time_number, value_number, value_numbers, range_number}
use Rattle.sheet.specs.Ranges.{OneDecided, count_out, too_large, of_zero, within, RangeDecided}

-- A value that is out of its range gives the number of its kind, one within it gives 0 ..
pub count_number_lem : (v : Value) → CountOutOfRange v → value_number v ≡ out_of_range
unfolding value_number count_number check CountOutOfRange
count_number_lem (value (count least most) number) (inl h) = rw (lt-leb least number (omega (arith, h)))
count_number_lem (value (count least most) number) (inr h) = rw (lt-leb number most (omega (arith, h))) (go (leb least number))
  where
    go : (a : Bool) → check (a && false) out_of_range 0 ≡ out_of_range
    go true = refl
    go false = refl
count_number_lem (value (time most) number) c = absurd c
count_number_lem (value (positive_time most) number) c = absurd c
count_number_lem (value no_range number) c = absurd c

pub too_large_number : (v : Value) → TimeTooLarge v → value_number v ≡ time_too_large
unfolding value_number time_number check TimeTooLarge
too_large_number (value (count least most) number) c = absurd c
too_large_number (value (time most) number) h = rw (lt-leb number most (omega (arith, h)))
too_large_number (value (positive_time most) number) h = rw (lt-leb number most (omega (arith, h)))
too_large_number (value no_range number) c = absurd c

pub zero_number : (v : Value) → TimeOfZero v → value_number v ≡ time_of_zero
unfolding value_number time_number check TimeOfZero
zero_number (value (count least most) number) c = absurd c
zero_number (value (time most) number) c = absurd c
zero_number (value (positive_time most) number) z = rw (le-leb number most (omega (arith, z)), lt-leb 1 number (omega (arith, z)))
zero_number (value no_range number) c = absurd c

within_number : (v : Value) → Within v → value_number v ≡ 0
unfolding value_number count_number time_number check Within
within_number (value (count least most) number) b = rw (le-leb least number (omega (arith, b.at_least)), le-leb number most (omega (arith, b.at_most)))
within_number (value (time most) number) b = rw (le-leb number most (omega (arith, b.at_most)), le-leb 0 number (omega arith))
within_number (value (positive_time most) number) b = rw (le-leb number most (omega (arith, b.at_most)), le-leb 1 number (omega (arith, b.at_least)))
within_number (value no_range number) b = refl

-- .. so where the first value that is not within its range is out of it in one way, the number of that way is given.
pub first_out_number : (Out : Value → Type 0) (number : ℕ) → 0 < number → ((v : Value) → Out v → value_number v ≡ number)
    → (values : List Value) → FirstOut Out values → range_number values ≡ number
unfolding range_number value_numbers FirstOut first_failure
first_out_number Out number some gives [] c = absurd c
first_out_number Out number some gives (v ∷ values) (inl c) = rw (gives v c) (first_here number (value_numbers values) some)
first_out_number Out number some gives (v ∷ values) (inr c) = rw (within_number v c.0) (first_out_number Out number some gives values c.1)

-- .. and where every value is within its range, none is.
pub range_passes : (values : List Value) → InRange values → range_number values ≡ 0
unfolding range_number value_numbers InRange first_failure
range_passes [] r = refl
range_passes (v ∷ values) r = rw (within_number v r.0) (range_passes values r.1)

count_decided : (least number most : ℕ) → OneDecided (count_number least number most) (value (count least most) number)
unfolding count_number check CountOutOfRange Within
count_decided least number most = go (leb least number) refl (leb number most) refl
  where
    go : (a : Bool) → leb least number ≡ a → (b : Bool) → leb number most ≡ b → OneDecided (check (a && b) out_of_range 0) (value (count least most) number)
    go false p b q = OneDecided.count_out refl (inl (omega (arith, leb-false least number p)))
    go true p false q = OneDecided.count_out refl (inr (omega (arith, leb-false number most q)))
    go true p true q = OneDecided.within refl (record { at_least = omega (arith, leb-true least number p); at_most = omega (arith, leb-true number most q) })

time_decided : (number most : ℕ) → OneDecided (time_number 0 number most) (value (time most) number)
unfolding time_number check TimeTooLarge Within
time_decided number most = go (leb number most) refl
  where
    go : (b : Bool) → leb number most ≡ b → OneDecided (check b time_too_large (check (leb 0 number) time_of_zero 0)) (value (time most) number)
    go false q = OneDecided.too_large refl (omega (arith, leb-false number most q))
    go true q = OneDecided.within (rw (le-leb 0 number (omega arith))) (record { at_least = omega arith; at_most = omega (arith, leb-true number most q) })

positive_decided : (number most : ℕ) → OneDecided (time_number 1 number most) (value (positive_time most) number)
unfolding time_number check TimeTooLarge TimeOfZero Within
positive_decided number most = go (leb number most) refl (leb 1 number) refl
  where
    go : (b : Bool) → leb number most ≡ b → (a : Bool) → leb 1 number ≡ a
        → OneDecided (check b time_too_large (check a time_of_zero 0)) (value (positive_time most) number)
    go false q a p = OneDecided.too_large refl (omega (arith, leb-false number most q))
    go true q false p = OneDecided.of_zero refl (omega (arith, leb-false 1 number p))
    go true q true p = OneDecided.within refl (record { at_least = omega (arith, leb-true 1 number p); at_most = omega (arith, leb-true number most q) })

one_decided : (v : Value) → OneDecided (value_number v) v
unfolding value_number Within
one_decided (value (count least most) number) = count_decided least number most
one_decided (value (time most) number) = time_decided number most
one_decided (value (positive_time most) number) = positive_decided number most
one_decided (value no_range number) = OneDecided.within refl tt

pub range_decided : (values : List Value) → RangeDecided (range_number values) values
unfolding range_number value_numbers FirstOut InRange first_failure
range_decided [] = RangeDecided.within refl tt
range_decided (v ∷ values) = go (value_number v) (one_decided v) (range_decided values)
  where
    go : (n : ℕ) → OneDecided n v → RangeDecided (range_number values) values → RangeDecided (first_failure (n ∷ value_numbers values)) (v ∷ values)
    go n (OneDecided.count_out e c) d = rw e (RangeDecided.count_out refl (inl c))
    go n (OneDecided.too_large e c) d = rw e (RangeDecided.too_large refl (inl c))
    go n (OneDecided.of_zero e c) d = rw e (RangeDecided.of_zero refl (inl c))
    go n (OneDecided.within e w) (RangeDecided.count_out d c) = rw e (RangeDecided.count_out d (inr (w, c)))
    go n (OneDecided.within e w) (RangeDecided.too_large d c) = rw e (RangeDecided.too_large d (inr (w, c)))
    go n (OneDecided.within e w) (RangeDecided.of_zero d c) = rw e (RangeDecided.of_zero d (inr (w, c)))
    go n (OneDecided.within e w) (RangeDecided.within d r) = rw e (RangeDecided.within d (w, r))

-- So the check answers the three rows. They exclude each other, since their numbers differ.
abbrev range_rows : ℕ → List Value → List Row
range_rows at values =
    row out_of_range at (FirstOut CountOutOfRange values)
    ∷ row time_too_large at (FirstOut TimeTooLarge values)
    ∷ row time_of_zero at (FirstOut TimeOfZero values)
    ∷ []

other_number : (Out : Value → Type 0) (number n : ℕ) → 0 < number → ((v : Value) → Out v → value_number v ≡ number) → (values : List Value)
    → range_number values ≡ n → (n ≡ number → ⊥) → FirstOut Out values → ⊥
other_number Out number n some gives values e d c = d (sym e ∙ first_out_number Out number some gives values c)

module _ (place : ℕ → ℕ) (at : ℕ) (p₆ : place out_of_range ≡ at) (p₁₅ : place time_too_large ≡ at) (p₁₆ : place time_of_zero ≡ at) (values : List Value) where
  no_count : (n : ℕ) → range_number values ≡ n → (n ≡ out_of_range → ⊥) → FirstOut CountOutOfRange values → ⊥
  no_count n = other_number CountOutOfRange out_of_range n (omega arith) count_number_lem values

  not_large : (n : ℕ) → range_number values ≡ n → (n ≡ time_too_large → ⊥) → FirstOut TimeTooLarge values → ⊥
  not_large n = other_number TimeTooLarge time_too_large n (omega arith) too_large_number values

  not_zero : (n : ℕ) → range_number values ≡ n → (n ≡ time_of_zero → ⊥) → FirstOut TimeOfZero values → ⊥
  not_zero n = other_number TimeOfZero time_of_zero n (omega arith) zero_number values

  pub range_answers : Answers (range_rows at values) place (range_number values)
  unfolding first_failure
  range_answers = go (range_decided values)
    where
      go : RangeDecided (range_number values) values → Answers (range_rows at values) place (range_number values)
      go (RangeDecided.count_out e c) = answers_here place _ _ _ _ _ (omega arith) p₆ e c
      go (RangeDecided.too_large e c) =
          answers_behind place _ _ _ _ _ (no_count _ e (λ d. omega arith)) (answers_here place _ _ _ _ _ (omega arith) p₁₅ e c)
      go (RangeDecided.of_zero e c) =
          answers_behind place _ _ _ _ _ (no_count _ e (λ d. omega arith))
          (answers_behind place _ _ _ _ _ (not_large _ e (λ d. omega arith)) (answers_here place _ _ _ _ _ (omega arith) p₁₆ e c))
      go (RangeDecided.within e r) =
          answers_behind place _ _ _ _ _ (no_count _ e (λ d. omega arith))
          (answers_behind place _ _ _ _ _ (not_large _ e (λ d. omega arith))
          (answers_behind place _ _ _ _ _ (not_zero _ e (λ d. omega arith)) (rw e (answers_none place))))
