-- The ways out of a page call, read from its contract: 2, a plan that the judge does not allow, and the page.
use Rattle.std.specs.Prelude.{ℕ, ◌≤◌, ◌<◌, ◌≡◌, refl, Bool, List, ltb, eqb}
use Rattle.std.proofs.Math.Path.{sym, ap}
use Rattle.std.proofs.Common.{◌∙◌, ltb-true, ltb-false, eqb-true, arith}
use Rattle.std.proofs.Math.Bool.{true, false}
use Rattle.std.proofs.Math.ListN.{length}
use Rattle.std.proofs.lemmas.Bool.{eqb-false}
use Rattle.base.specs.Answer.{answer, written}
use Rattle.base.specs.declared.Answer.{Answer}
use Rattle.field.specs.Put.{holding_none, held}
use Rattle.sheet.specs.Limits.{page_length}
use Rattle.sheet.specs.Refusals.{buffer_too_small}
use Rattle.judge.specs.Judged.{judged}
use Rattle.page.specs.Call.{page_of, printed_answer, printed, page_answer, paged_bytes, Paged}
use Rattle.page_laws.specs.Outcomes.{PageOutcome, small, not_allowed, allowed, PagePrinted}

module _ (sheet plan page page_after : List ℕ) (r : Answer) (call : Paged sheet plan page page_after r) where
  way : (b₁ b₂ : Bool) → ltb (length page) page_length ≡ b₁ → eqb (judged sheet plan).number 0 ≡ b₂ → PageOutcome sheet plan page page_after r
  unfolding page_answer paged_bytes printed_answer printed
  way true b₂ e₁ e₂ = PageOutcome.small (ltb-true _ _ e₁) (rw e₁ at call.answer) ((rw e₁ at call.buffer) ∙ sym (holding_none page))
  way false false e₁ e₂ =
      PageOutcome.not_allowed (ltb-false _ _ e₁) (eqb-false _ _ e₂) (rw (e₁, e₂) at call.answer) ((rw (e₁, e₂) at call.buffer) ∙ sym (holding_none page))
  way false true e₁ e₂ = PageOutcome.allowed (ltb-false _ _ e₁) (eqb-true _ _ e₂) (rw (e₁, e₂) at call.answer) (rw (e₁, e₂) at call.buffer)

  pub page_outcome : PageOutcome sheet plan page page_after r
  page_outcome = way _ _ refl refl

  number_is : (n p l : ℕ) → r ≡ answer n p l → r.number ≡ n
  number_is n p l e = ap (λ (a : Answer). a.number) e

  pub page_accepted : r.number ≡ 0 → PagePrinted sheet plan page page_after r
  unfolding written
  page_accepted z = go page_outcome
    where
      go : PageOutcome sheet plan page page_after r → PagePrinted sheet plan page page_after r
      go (PageOutcome.small l e p) = absurd (omega (arith, z, number_is _ _ _ e))
      go (PageOutcome.not_allowed l n e p) = absurd (n (sym (number_is _ _ _ e) ∙ z))
      go (PageOutcome.allowed l n e p) =
          let long : r.length ≡ length (page_of sheet plan) = ap (λ (a : Answer). a.length) e in
          let h = held (page_of sheet plan) page page_after r.length long p in
          record { large = l; no_fault = n; place = ap (λ (a : Answer). a.place) e; bytes = h.0; long = long; behind = h.1 }

  pub page_left : (r.number ≡ 0 → ⊥) → (page_after ≡ page) × (r.length ≡ 0)
  page_left h = go page_outcome
    where
      go : PageOutcome sheet plan page page_after r → (page_after ≡ page) × (r.length ≡ 0)
      go (PageOutcome.small l e p) = (p, ap (λ (a : Answer). a.length) e)
      go (PageOutcome.not_allowed l n e p) = (p, ap (λ (a : Answer). a.length) e)
      go (PageOutcome.allowed l n e p) = absurd (h (number_is _ _ _ e))

  pub page_too_small : length page < page_length → r ≡ answer buffer_too_small 0 0
  page_too_small h = go page_outcome
    where
      go : PageOutcome sheet plan page page_after r → r ≡ answer buffer_too_small 0 0
      go (PageOutcome.small l e p) = e
      go (PageOutcome.not_allowed l n e p) = absurd (omega (arith, h, l))
      go (PageOutcome.allowed l n e p) = absurd (omega (arith, h, l))

  pub page_not_allowed : page_length ≤ length page → ((judged sheet plan).number ≡ 0 → ⊥) → r ≡ answer (judged sheet plan).number (judged sheet plan).place 0
  page_not_allowed h k = go page_outcome
    where
      go : PageOutcome sheet plan page page_after r → r ≡ answer (judged sheet plan).number (judged sheet plan).place 0
      go (PageOutcome.small l e p) = absurd (omega (arith, h, l))
      go (PageOutcome.not_allowed l n e p) = e
      go (PageOutcome.allowed l n e p) = absurd (k n)

  pub page_allowed : page_length ≤ length page → (judged sheet plan).number ≡ 0 → r.number ≡ 0
  page_allowed h k = go page_outcome
    where
      go : PageOutcome sheet plan page page_after r → r.number ≡ 0
      go (PageOutcome.small l e p) = absurd (omega (arith, h, l))
      go (PageOutcome.not_allowed l n e p) = absurd (n k)
      go (PageOutcome.allowed l n e p) = number_is _ _ _ e

  -- A number that is neither 0 nor 2 is the judge's, with its place.
  pub page_judge_only : (number : ℕ) → buffer_too_small < number → r.number ≡ number
      → (page_length ≤ length page) × ((judged sheet plan).number ≡ number) × (r.place ≡ (judged sheet plan).place)
  page_judge_only number more h = go page_outcome
    where
      go : PageOutcome sheet plan page page_after r → (page_length ≤ length page) × ((judged sheet plan).number ≡ number) × (r.place ≡ (judged sheet plan).place)
      go (PageOutcome.small l e p) = absurd (omega (arith, h, number_is _ _ _ e))
      go (PageOutcome.not_allowed l n e p) = (l, sym (number_is _ _ _ e) ∙ h, ap (λ (a : Answer). a.place) e)
      go (PageOutcome.allowed l n e p) = absurd (omega (arith, h, number_is _ _ _ e))
