-- The table "Turned back" of 01, as far as the planner gives it: a call is turned back with a number and a place exactly where their cause lies.
use Rattle.std.specs.Prelude.{ℕ, ◌≤◌, ◌<◌, ◌≡◌, List, length}
use Rattle.std.proofs.Common.{sym, ap, subst, ◌∙◌, arith}
use borrow.Author.Tests.{lt-ltb, le-ltb, eq-eqb, ne_eqb}
use Rattle.sheet.specs.Limits.{table_length, plan_length}
use Rattle.sheet.specs.Refusals.{buffer_too_small, order_impossible}
use Rattle.sheet.specs.Read.{read_sheet, refused}
use Rattle.sheet.specs.Table.{RefusedFor}
use Rattle.sheet.proofs.Refused.{refused_for, refused_is, some_number, not_eleven}
use Rattle.planner.specs.Call.{sheet_answer, answer_of, Called}
use Rattle.planner.specs.Outcomes.{Large, Outcome}
use Rattle.planner.proofs.Outcomes.{call_outcome}
use Rattle.planner.specs.Theorems.{Impossible}
use Rattle.planner.proofs.Theorems.{impossible_exactly}
use Rattle.base.specs.Answer.{answer}
use Rattle.base.specs.declared.Answer.{Answer}
use Rattle.planner.specs.TurnedBack.{TurnedBack, table_small, buffer_small, in_sheet, impossible}

module _ (sheet plan table plan_after table_end : List ℕ) (r : Answer) (call : Called sheet plan table plan_after table_end r) where
  by_sheet : Large plan table → r ≡ sheet_answer (read_sheet sheet)
  unfolding answer_of
  by_sheet l = rw (le-ltb (length table) table_length l.table_large, le-ltb (length plan) plan_length l.plan_large) at call.answer

  -- Where a cause lies, the call is turned back with its number and place, and length 0 ..
  pub turned_back_lem : (number place : ℕ) → TurnedBack sheet plan table number place → r ≡ answer number place 0
  unfolding answer_of sheet_answer refused
  turned_back_lem number place (TurnedBack.table_small l en ep) = rw (en, ep) (rw (lt-ltb (length table) table_length l) at call.answer)
  turned_back_lem number place (TurnedBack.buffer_small l m en ep) =
      rw (en, ep) (rw (le-ltb (length table) table_length l, lt-ltb (length plan) plan_length m) at call.answer)
  turned_back_lem number place (TurnedBack.in_sheet l f) =
      let e : read_sheet sheet ≡ refused number place = refused_is sheet number place f in
      by_sheet l ∙ rw (e, ne_eqb number 0 (some_number sheet number place f))
  turned_back_lem number place (TurnedBack.impossible l sound none en ep) =
      by_sheet l ∙ rw (eq-eqb (read_sheet sheet).number 0 sound, (impossible_exactly sheet sound).1 none, en, ep)

  -- .. and it is turned back only where its cause lies.
  pub turned_back_only : (r.number ≡ 0 → ⊥) → TurnedBack sheet plan table r.number r.place
  turned_back_only h = go (call_outcome sheet plan table plan_after table_end r call)
    where
      number_is : (n p l : ℕ) → r ≡ answer n p l → r.number ≡ n
      number_is n p l e = ap (λ (a : Answer). a.number) e

      place_is : (n p l : ℕ) → r ≡ answer n p l → r.place ≡ p
      place_is n p l e = ap (λ (a : Answer). a.place) e

      go : Outcome sheet plan table plan_after table_end r → TurnedBack sheet plan table r.number r.place
      go (Outcome.table_small l e p t) = TurnedBack.table_small l (number_is _ _ _ e) (place_is _ _ _ e)
      go (Outcome.buffer_small l m e p t) = TurnedBack.buffer_small l m (number_is _ _ _ e) (place_is _ _ _ e)
      go (Outcome.refused l n e p t) =
          TurnedBack.in_sheet l (subst (λ (a : Answer). RefusedFor sheet a.number a.place) (sym e) (refused_for sheet n))
      go (Outcome.impossible l s i e p t) = TurnedBack.impossible l s ((impossible_exactly sheet s).0 i) (number_is _ _ _ e) (place_is _ _ _ e)
      go (Outcome.accepted l s i e p t) = absurd (h (number_is _ _ _ e))

  -- 11 is given exactly where the buffers are large enough, the sheet is otherwise sound, and no timetable keeps the order that it gives or, where it gives
  -- none, a proper one.
  pub eleven_only : r.number ≡ order_impossible → Large plan table × ((read_sheet sheet).number ≡ 0) × Impossible (read_sheet sheet)
  eleven_only e = go (turned_back_only (λ z. omega arith))
    where
      go : TurnedBack sheet plan table r.number r.place → Large plan table × ((read_sheet sheet).number ≡ 0) × Impossible (read_sheet sheet)
      go (TurnedBack.table_small l en ep) = absurd (omega arith)
      go (TurnedBack.buffer_small l m en ep) = absurd (omega arith)
      go (TurnedBack.in_sheet l f) = absurd (not_eleven sheet r.number r.place f e)
      go (TurnedBack.impossible l s i en ep) = (l, s, i)

  -- A number that is none of 0, 1, 2 and 11 is given only for a cause of the sheet.
  pub sheet_only : (number : ℕ) → buffer_too_small < number → (number ≡ order_impossible → ⊥) → r.number ≡ number
      → Large plan table × RefusedFor sheet number r.place
  sheet_only number more other e = go (turned_back_only (λ z. omega arith))
    where
      go : TurnedBack sheet plan table r.number r.place → Large plan table × RefusedFor sheet number r.place
      go (TurnedBack.table_small l en ep) = absurd (omega arith)
      go (TurnedBack.buffer_small l m en ep) = absurd (omega arith)
      go (TurnedBack.in_sheet l f) = (l, rw e at f)
      go (TurnedBack.impossible l s i en ep) = absurd (other (sym e ∙ en))

  -- A sound sheet that is not impossible is accepted.
  pub else_accepted : Large plan table → (read_sheet sheet).number ≡ 0 → (Impossible (read_sheet sheet) → ⊥) → r.number ≡ 0
  else_accepted l sound possible = go (call_outcome sheet plan table plan_after table_end r call)
    where
      go : Outcome sheet plan table plan_after table_end r → r.number ≡ 0
      go (Outcome.table_small m e p t) = absurd (omega (arith, l.table_large))
      go (Outcome.buffer_small m k e p t) = absurd (omega (arith, l.plan_large))
      go (Outcome.refused m n e p t) = absurd (n sound)
      go (Outcome.impossible m s i e p t) = absurd (possible ((impossible_exactly sheet s).0 i))
      go (Outcome.accepted m s i e p t) = ap (λ (a : Answer). a.number) e
