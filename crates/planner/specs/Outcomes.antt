-- The ways in which a call can go, each with its answer, its plan buffer and its table: what the contract `Called` says, case by case.
use Rattle.std.specs.Prelude.{ℕ, ◌≤◌, ◌<◌, ◌≡◌, List, length, drop}
use Rattle.std.proofs.Common.{◌∙◌}
use Rattle.std.proofs.Math.Bool.{true, false}
use Rattle.field.specs.Put.{holding}
use Rattle.sheet.specs.Limits.{table_length, plan_length}
use Rattle.sheet.specs.Refusals.{table_too_small, buffer_too_small, order_impossible}
use Rattle.sheet.specs.Read.{read_sheet}
use Rattle.rules.specs.Plan.{plan_bytes}
use Rattle.flight.specs.Choice.{is_possible}
use Rattle.planner.specs.Call.{chosen_plan, cleared_to}
use Rattle.base.specs.Answer.{answer, written}
use Rattle.base.specs.declared.Answer.{Answer}

-- "Buffers are large enough where neither 1 nor 2 is given, the working table counted among them."
pub record Large (plan table : List ℕ) : Type 0 where
  pub plan_large : plan_length ≤ length plan
  pub table_large : table_length ≤ length table

-- the bytes of the plan of a sheet that is accepted
unfoldable pub our_bytes : List ℕ → List ℕ
our_bytes sheet = plan_bytes (read_sheet sheet) (chosen_plan (read_sheet sheet))

-- "The planner checks 1, 2, then each field .. 11 comes last."
pub data Outcome (sheet plan table plan_after table_end : List ℕ) (r : Answer) : Type 0 where
  table_small : length table < table_length → r ≡ answer table_too_small 0 0 → plan_after ≡ plan → table_end ≡ table → Outcome sheet plan table plan_after table_end r
  buffer_small :
      table_length ≤ length table → length plan < plan_length
      → r ≡ answer buffer_too_small 0 0 → plan_after ≡ plan → table_end ≡ table → Outcome sheet plan table plan_after table_end r
  refused :
      Large plan table → ((read_sheet sheet).number ≡ 0 → ⊥)
      → r ≡ answer (read_sheet sheet).number (read_sheet sheet).place 0 → plan_after ≡ plan → table_end ≡ cleared_to table_length table
      → Outcome sheet plan table plan_after table_end r
  impossible :
      Large plan table → (read_sheet sheet).number ≡ 0 → is_possible (read_sheet sheet).flight ≡ false
      → r ≡ answer order_impossible (read_sheet sheet).flight.place 0 → plan_after ≡ plan → table_end ≡ cleared_to table_length table
      → Outcome sheet plan table plan_after table_end r
  accepted :
      Large plan table → (read_sheet sheet).number ≡ 0 → is_possible (read_sheet sheet).flight ≡ true
      → r ≡ answer 0 0 (length (our_bytes sheet)) → plan_after ≡ holding (our_bytes sheet) plan → table_end ≡ cleared_to table_length table
      → Outcome sheet plan table plan_after table_end r

-- An accepted call: its sheet is sound and possible, its buffers were large enough, and what it has written is the sheet's plan.
pub record Accepted (sheet plan table plan_after : List ℕ) (r : Answer) : Type 0 where
  pub large : Large plan table
  pub sound : (read_sheet sheet).number ≡ 0
  pub possible : is_possible (read_sheet sheet).flight ≡ true
  pub place : r.place ≡ 0
  pub bytes : written r plan_after ≡ our_bytes sheet
  pub long : length (written r plan_after) ≡ r.length
  pub behind : drop r.length plan_after ≡ drop r.length plan
