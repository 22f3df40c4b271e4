-- The numbers of refusals: none is 0, and among checks the one that refuses gives its number, while one that passes leaves it to those behind it.
use Rattle.std.specs.Prelude.{ℕ, Result, Ok, Err, List, ◌∷◌, ◌≡◌, refl}
use Rattle.std.specs.Result.{IsErrAnd}
use Rattle.std.proofs.Common.{ap, ◌∙◌, arith}
use Rattle.sheet.specs.Given.{number_of, number_given}
use Rattle.sheet.specs.Rows.{first_failure}
use Rattle.sheet.proofs.RowLaws.{given_fails, given_passes}
use Rattle.sheet.specs.declared.refusals.Refused.{Refused}
use Rattle.sheet.specs.declared.refusals.Refusal.{Refusal}
use Rattle.sheet.specs.declared.refusals.Refusal.TheVariants.{TableTooSmall, BufferTooSmall, FieldCut, TagNotPermitted, LengthWrong, OutOfRange, TooMany, NoMembers, OrderNotProper}
use Rattle.sheet.specs.declared.refusals.Refusal.TheVariants.{OrderMissing, OrderImpossible, LayoutWrong, RuleBroken, FigureUntrue, TimeTooLarge, TimeOfZero, LongestBelowShortest}

pub refusal_not_zero : (refusal : Refusal) → number_of refusal ≡ 0 → ⊥
refusal_not_zero TableTooSmall e = omega arith
refusal_not_zero BufferTooSmall e = omega arith
refusal_not_zero FieldCut e = omega arith
refusal_not_zero TagNotPermitted e = omega arith
refusal_not_zero LengthWrong e = omega arith
refusal_not_zero OutOfRange e = omega arith
refusal_not_zero TooMany e = omega arith
refusal_not_zero NoMembers e = omega arith
refusal_not_zero OrderNotProper e = omega arith
refusal_not_zero OrderMissing e = omega arith
refusal_not_zero OrderImpossible e = omega arith
refusal_not_zero LayoutWrong e = omega arith
refusal_not_zero RuleBroken e = omega arith
refusal_not_zero FigureUntrue e = omega arith
refusal_not_zero TimeTooLarge e = omega arith
refusal_not_zero TimeOfZero e = omega arith
refusal_not_zero LongestBelowShortest e = omega arith

-- what `?` hands on has the number of the refusal that it was given
pub handed_on : (r : Result (Unit {0}) Refusal) (refusal : Refusal) → IsErrAnd r (λ d. d ≡ refusal) → number_given r ≡ number_of refusal
handed_on (Ok _) refusal e = absurd e
handed_on (Err d) refusal e = ap number_of e

module _ (checks : List ℕ) (given : ℕ) where
  pub given_number : (refusal : Refusal) → number_of refusal ≡ given → number_of refusal ≡ first_failure (given ∷ checks)
  given_number refusal e = given_fails checks (number_of refusal) given e (refusal_not_zero refusal)

  pub given_refused : (r : Result (Unit {0}) Refusal) (refusal : Refusal) → IsErrAnd r (λ d. d ≡ refusal) → number_of refusal ≡ given
      → number_given r ≡ first_failure (given ∷ checks)
  given_refused r refusal h e = handed_on r refusal h ∙ given_number refusal e

  pub given_nothing : (n : ℕ) → 0 ≡ given → n ≡ first_failure checks → n ≡ first_failure (given ∷ checks)
  given_nothing n z h = given_passes checks 0 given n z refl h

-- a refusal with its place, as it was made
module _ (r : Refused) (refusal : Refusal) (place n : ℕ) (e : r ≡ record { refusal = refusal; place = place }) where
  pub made_number : number_of refusal ≡ n → number_of r.refusal ≡ n
  made_number h = ap (λ (r : Refused). number_of r.refusal) e ∙ h

  pub made_place : place ≡ n → r.place ≡ n
  made_place h = ap (λ (r : Refused). r.place) e ∙ h
