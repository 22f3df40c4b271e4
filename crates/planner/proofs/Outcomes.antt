-- The ways in which a call can go, each with its answer, its plan buffer and its table: what the contract `Called` says, case by case.
use Rattle.std.specs.Prelude.{ℕ, ◌≤◌, ◌<◌, ◌≡◌, refl, Bool, List, length, ltb, eqb}
use Rattle.std.proofs.Math.Path.{sym, ap}
use Rattle.std.proofs.Common.{◌∙◌, arith}
use Rattle.std.proofs.Math.Bool.{true, false}
use borrow.Author.Tests.{ltb-true, ltb-false, eqb-true, eqb-false}
use Rattle.field.specs.Put.{holding_none, held}
use Rattle.sheet.specs.Limits.{table_length, plan_length}
use Rattle.sheet.specs.Read.{read_sheet}
use Rattle.flight.specs.Choice.{is_possible}
use Rattle.planner.specs.Call.{sheet_answer, sheet_plan, answer_of, planned_bytes, cleared_to, table_after, Called}
use Rattle.base.specs.Answer.{answer, written}
use Rattle.base.specs.declared.Answer.{Answer}
use Rattle.planner.specs.Outcomes.{Large, our_bytes, Outcome, table_small, buffer_small, refused, impossible, accepted, Accepted}

module _ (sheet plan table plan_after table_end : List ℕ) (r : Answer) (call : Called sheet plan table plan_after table_end r) where
  way : (b₁ b₂ b₃ b₄ : Bool) → ltb (length table) table_length ≡ b₁ → ltb (length plan) plan_length ≡ b₂ → eqb (read_sheet sheet).number 0 ≡ b₃
      → is_possible (read_sheet sheet).flight ≡ b₄
      → Outcome sheet plan table plan_after table_end r
  unfolding answer_of planned_bytes table_after sheet_answer sheet_plan our_bytes
  way true b₂ b₃ b₄ e₁ e₂ e₃ e₄ =
      Outcome.table_small (ltb-true _ _ e₁) (rw e₁ at call.answer) ((rw e₁ at call.buffer) ∙ sym (holding_none plan)) (rw e₁ at call.table)
  way false true b₃ b₄ e₁ e₂ e₃ e₄ =
      Outcome.buffer_small (ltb-false _ _ e₁) (ltb-true _ _ e₂) (rw (e₁, e₂) at call.answer) ((rw (e₁, e₂) at call.buffer) ∙ sym (holding_none plan))
      (rw (e₁, e₂) at call.table)
  way false false false b₄ e₁ e₂ e₃ e₄ =
      Outcome.refused (record { plan_large = ltb-false _ _ e₂; table_large = ltb-false _ _ e₁ }) (eqb-false _ _ e₃) (rw (e₁, e₂, e₃) at call.answer)
      ((rw (e₁, e₂, e₃) at call.buffer) ∙ sym (holding_none plan)) (rw (e₁, e₂) at call.table)
  way false false true false e₁ e₂ e₃ e₄ =
      Outcome.impossible (record { plan_large = ltb-false _ _ e₂; table_large = ltb-false _ _ e₁ }) (eqb-true _ _ e₃) e₄ (rw (e₁, e₂, e₃, e₄) at call.answer)
      ((rw (e₁, e₂, e₃, e₄) at call.buffer) ∙ sym (holding_none plan)) (rw (e₁, e₂) at call.table)
  way false false true true e₁ e₂ e₃ e₄ =
      Outcome.accepted (record { plan_large = ltb-false _ _ e₂; table_large = ltb-false _ _ e₁ }) (eqb-true _ _ e₃) e₄ (rw (e₁, e₂, e₃, e₄) at call.answer)
      (rw (e₁, e₂, e₃, e₄) at call.buffer) (rw (e₁, e₂) at call.table)

  pub call_outcome : Outcome sheet plan table plan_after table_end r
  call_outcome = way _ _ _ _ refl refl refl refl

module _ (sheet plan table plan_after table_end : List ℕ) (r : Answer) (call : Called sheet plan table plan_after table_end r) where
  pub call_accepted : r.number ≡ 0 → Accepted sheet plan table plan_after r
  unfolding written
  call_accepted z = go (call_outcome sheet plan table plan_after table_end r call)
    where
      number_is : (n p l : ℕ) → r ≡ answer n p l → n ≡ 0
      number_is n p l e = ap (λ (a : Answer). a.number) (sym e) ∙ z

      go : Outcome sheet plan table plan_after table_end r → Accepted sheet plan table plan_after r
      go (Outcome.table_small l e p t) = absurd (omega (arith, number_is _ _ _ e))
      go (Outcome.buffer_small l m e p t) = absurd (omega (arith, number_is _ _ _ e))
      go (Outcome.refused l n e p t) = absurd (n (number_is _ _ _ e))
      go (Outcome.impossible l s i e p t) = absurd (omega (arith, number_is _ _ _ e))
      go (Outcome.accepted l s i e p t) =
          let long : r.length ≡ length (our_bytes sheet) = ap (λ (a : Answer). a.length) e in
          let h = held (our_bytes sheet) plan plan_after r.length long p in
          record {
            large = l;
            sound = s;
            possible = i;
            place = ap (λ (a : Answer). a.place) e;
            bytes = h.0;
            long = ap length h.0 ∙ sym long;
            behind = h.1;
          }

  -- A refused call has written nothing.
  pub call_refused : (r.number ≡ 0 → ⊥) → (plan_after ≡ plan) × (r.length ≡ 0)
  call_refused h = go (call_outcome sheet plan table plan_after table_end r call)
    where
      go : Outcome sheet plan table plan_after table_end r → (plan_after ≡ plan) × (r.length ≡ 0)
      go (Outcome.table_small l e p t) = (p, ap (λ (a : Answer). a.length) e)
      go (Outcome.buffer_small l m e p t) = (p, ap (λ (a : Answer). a.length) e)
      go (Outcome.refused l n e p t) = (p, ap (λ (a : Answer). a.length) e)
      go (Outcome.impossible l s i e p t) = (p, ap (λ (a : Answer). a.length) e)
      go (Outcome.accepted l s i e p t) = absurd (h (ap (λ (a : Answer). a.number) e))

  -- With a buffer that is too small everything is as it was; with large ones the table is cleared.
  pub call_small : (Large plan table → ⊥) → (plan_after ≡ plan) × (table_end ≡ table)
  call_small h = go (call_outcome sheet plan table plan_after table_end r call)
    where
      go : Outcome sheet plan table plan_after table_end r → (plan_after ≡ plan) × (table_end ≡ table)
      go (Outcome.table_small l e p t) = (p, t)
      go (Outcome.buffer_small l m e p t) = (p, t)
      go (Outcome.refused l n e p t) = absurd (h l)
      go (Outcome.impossible l s i e p t) = absurd (h l)
      go (Outcome.accepted l s i e p t) = absurd (h l)

  pub call_cleared : Large plan table → table_end ≡ cleared_to table_length table
  call_cleared h = go (call_outcome sheet plan table plan_after table_end r call)
    where
      go : Outcome sheet plan table plan_after table_end r → table_end ≡ cleared_to table_length table
      go (Outcome.table_small l e p t) = absurd (omega (arith, h.table_large))
      go (Outcome.buffer_small l m e p t) = absurd (omega (arith, h.plan_large))
      go (Outcome.refused l n e p t) = t
      go (Outcome.impossible l s i e p t) = t
      go (Outcome.accepted l s i e p t) = t
