-- A sheet is refused with a number and a place exactly where their cause lies, and sound exactly where none does.
use Rattle.std.specs.Prelude.{ℕ, ◌≡◌, List}
use Rattle.std.proofs.Common.{sym, ap, subst, ◌∙◌}
use Rattle.std.proofs.Math.Decide.{ℕ_discrete}
use Rattle.sheet.specs.Refusals.{order_impossible}
use Rattle.sheet.specs.Table.{RefusedFor}
use Rattle.sheet.specs.Read.{read_sheet, refused, accepted}
use Rattle.sheet.specs.Theorems.{Outcome}
use Rattle.sheet.proofs.Theorems.{read_outcome, read_refused, refused_some, never_eleven}
use Rattle.sheet.specs.Theorems.Outcome.{is_accepted, is_refused}
use Rattle.sheet.specs.declared.Sheet.{Sheet}

outcome_cause : (s : List ℕ) (r : Sheet) → Outcome s r → (r.number ≡ 0 → ⊥) → RefusedFor s r.number r.place
unfolding refused accepted
outcome_cause s r (is_accepted st p c e) h = absurd (h (ap (λ (x : Sheet). x.number) e))
outcome_cause s r (is_refused st number place p q e) h =
    subst (λ (x : Sheet). RefusedFor s x.number x.place) (sym e) (record { reading = st; reached = p; cause = q })

-- A sheet that is refused is refused for a cause ..
pub refused_for : (s : List ℕ) → ((read_sheet s).number ≡ 0 → ⊥) → RefusedFor s (read_sheet s).number (read_sheet s).place
refused_for s h = outcome_cause s (read_sheet s) (read_outcome s) h

-- .. and where a cause lies, the sheet is refused for it.
pub refused_is : (s : List ℕ) (number place : ℕ) → RefusedFor s number place → read_sheet s ≡ refused number place
refused_is s number place f = read_refused s f.reading number place f.reached f.cause

-- Its number is never 0, and never 11, which is no row of the sheet's.
pub some_number : (s : List ℕ) (number place : ℕ) → RefusedFor s number place → number ≡ 0 → ⊥
some_number s number place f = refused_some s f.reading _ number place f.cause

pub not_eleven : (s : List ℕ) (number place : ℕ) → RefusedFor s number place → number ≡ order_impossible → ⊥
not_eleven s number place f = never_eleven s f.reading _ number place f.cause

-- "A sheet is otherwise sound where no cause that the planner checks it for, 11 apart, lies in it"
pub sound_exactly : (s : List ℕ) → ((read_sheet s).number ≡ 0 → (number place : ℕ) → RefusedFor s number place → ⊥)
    × (((number place : ℕ) → RefusedFor s number place → ⊥) → (read_sheet s).number ≡ 0)
unfolding refused
sound_exactly s = (
  λ z number place f. some_number s number place f (sym (ap (λ (x : Sheet). x.number) (refused_is s number place f)) ∙ z),
  λ none. go none (ℕ_discrete (read_sheet s).number 0),
)
  where
    go : ((number place : ℕ) → RefusedFor s number place → ⊥) → Dec ((read_sheet s).number ≡ 0) → (read_sheet s).number ≡ 0
    go none (yes z) = z
    go none (no n) = absurd (none _ _ (refused_for s n))
