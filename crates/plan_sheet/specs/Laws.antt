-- A call with buffers that are large enough leaves the plan, or nothing where it is refused.
use Rattle.std.specs.Prelude.{ℕ, ◌≡◌, refl, Bool, true, false, List, [], length, take, eqb}
use Rattle.std.proofs.Math.Path.{subst}
use Rattle.std.proofs.Common.{arith}
use borrow.Author.Tests.{le-ltb}
use Rattle.base.specs.declared.Answer.{Answer}
use Rattle.field.specs.Put.{holding}
use Rattle.sheet.specs.Limits.{table_length, plan_length}
use Rattle.sheet.specs.Read.{read_sheet}
use Rattle.sheet.specs.declared.Sheet.{Sheet}
use Rattle.flight.specs.Choice.{is_possible}
use Rattle.planner.specs.Call.{Called, answer_of, planned_bytes, sheet_answer, sheet_plan}
use Rattle.planner.specs.Outcomes.{Large}
use Rattle.reply.specs.Reply.{reply_bytes, Replied, ReplyPre, CallLeaves, reply_asked, replied}
use Rattle.plan_sheet.specs.Reply.{sheet_reply}

-- the length that is answered is the plan's, and a sheet that is refused has no plan
sized : (s : Sheet) (b p : Bool) → eqb s.number 0 ≡ b → is_possible s.flight ≡ p
    → ((sheet_answer s).length ≡ length (sheet_plan s)) × (((sheet_answer s).number ≡ 0 → ⊥) → sheet_plan s ≡ [])
unfolding sheet_answer sheet_plan
sized s true true e h = rw (e, h) (refl, λ z. absurd (z refl))
sized s true false e h = rw (e, h) (refl, λ z. refl)
sized s false p e h = rw e (refl, λ z. refl)

module _ (sheet out table after table_end : List ℕ) (a : Answer) (large : Large out table) (called : Called sheet out table after table_end a) where
  answer_is : a ≡ sheet_answer (read_sheet sheet)
  unfolding answer_of
  answer_is = rw (le-ltb (length table) table_length large.table_large, le-ltb (length out) plan_length large.plan_large) at called.answer

  plan_is : after ≡ holding (sheet_plan (read_sheet sheet)) out
  unfolding planned_bytes
  plan_is = rw (le-ltb (length table) table_length large.table_large, le-ltb (length out) plan_length large.plan_large) at called.buffer

  plan_left : CallLeaves (sheet_plan (read_sheet sheet)) out after a
  plan_left =
      let both = sized (read_sheet sheet) _ _ refl refl in
      rw answer_is (record { buffer = plan_is; length_is = both.0; none = both.1 })

  pub sheet_asked : ReplyPre after a
  sheet_asked = reply_asked (sheet_plan (read_sheet sheet)) out after a plan_left (omega (arith, large.plan_large))

  pub sheet_replied : (end : List ℕ) (r : ℕ) → Replied (reply_bytes a (take a.length after)) after end r → Replied (sheet_reply sheet) out end r
  unfolding sheet_reply
  sheet_replied end r p =
      subst (λ (x : Answer). Replied (reply_bytes x (sheet_plan (read_sheet sheet))) out end r) answer_is
      (replied (sheet_plan (read_sheet sheet)) out after a plan_left end r p)
