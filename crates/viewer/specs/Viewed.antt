-- What a planning call from C answers and leaves: that of a call whose working table is large enough.
use Rattle.std.specs.Prelude.{ℕ, ◌≡◌, List, length}
use Rattle.field.specs.Put.{holding}
use Rattle.sheet.specs.Limits.{table_length}
use Rattle.planner.specs.Call.{answer_of, planned_bytes}
use Rattle.base.specs.declared.Answer.{Answer}

pub record Viewed (sheet plan plan_after : List ℕ) (r : Answer) : Type 0 where
  pub answer : r ≡ answer_of sheet (length plan) table_length
  pub buffer : plan_after ≡ holding (planned_bytes sheet (length plan) table_length) plan
