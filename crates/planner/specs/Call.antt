-- What a call of `plan` answers and leaves, for every sheet and all buffers (01, "Turned back" and "The plan").
use Rattle.std.specs.Prelude.{ℕ, ◌≤◌, ◌≡◌, cond, List, [], ◌++◌, length, drop, ltb, eqb}
use Rattle.base.specs.Answer.{answer}
use Rattle.base.specs.declared.Answer.{Answer}
use Rattle.field.specs.Put.{holding}
use Rattle.sheet.specs.Limits.{table_length, plan_length}
use Rattle.sheet.specs.Refusals.{table_too_small, buffer_too_small, order_impossible}
use Rattle.sheet.specs.Read.{read_sheet}
use Rattle.sheet.specs.Decode.{zeros}
use Rattle.sheet.specs.Sound.{SheetSound}
use Rattle.sheet.specs.declared.Sheet.{Sheet}
use Rattle.rules.specs.Plan.{Plan, plan_bytes}
use Rattle.mosaic.specs.Chosen.{chosen_batches}
use Rattle.sorting.specs.Plan.{chosen_jobs}
use Rattle.flight.specs.Choice.{chosen_order, chosen_passes, is_possible}

-- What the papers leave to the program: which best batches and, without a given order, which best order it takes. Each is defined in its section's crate. The
-- jobs are not left to it: 02, Req 03, determines them (`plan_taken` and `taken_determined` of Theorems.antt), and `chosen_jobs` is how the search finds them.
unfoldable pub chosen_plan : Sheet → Plan
chosen_plan s =
    record {
      batches = chosen_batches s.mosaic;
      jobs = chosen_jobs s.sorting;
      order = chosen_order s.flight;
      passes = chosen_passes s.flight;
    }

-- "An accepted call has number 0 and place 0, and the planner's also the plan's length; a refused one has length .. 0." "11 comes last", its place is the order
-- field's or, without an order, the flight head's (02, Req 06): one that the reading fixes.
unfoldable pub sheet_answer : Sheet → Answer
sheet_answer s =
    cond (eqb s.number 0)
    (cond (is_possible s.flight) (answer 0 0 (length (plan_bytes s (chosen_plan s)))) (answer order_impossible s.flight.place 0))
    (answer s.number s.place 0)

-- The plan of a sheet, no byte where it is refused.
unfoldable pub sheet_plan : Sheet → List ℕ
sheet_plan s = cond (eqb s.number 0) (cond (is_possible s.flight) (plan_bytes s (chosen_plan s)) []) []

-- "The planner checks 1, 2, then each field": what a call with a plan buffer and a working table of these lengths answers
unfoldable pub answer_of : List ℕ → ℕ → ℕ → Answer
answer_of sheet plan_room table_room =
    cond (ltb table_room table_length) (answer table_too_small 0 0)
    (cond (ltb plan_room plan_length) (answer buffer_too_small 0 0) (sheet_answer (read_sheet sheet)))

-- and the bytes that it writes
unfoldable pub planned_bytes : List ℕ → ℕ → ℕ → List ℕ
planned_bytes sheet plan_room table_room =
    cond (ltb table_room table_length) [] (cond (ltb plan_room plan_length) [] (sheet_plan (read_sheet sheet)))

-- a table whose first n numbers are 0, the rest as it was
unfoldable pub cleared_to : ℕ → List ℕ → List ℕ
cleared_to n table = zeros n ++ drop n table

-- "Once 1 and 2 are passed, the first 6,400 numbers of the working table are zero after any call, the rest unchanged."
unfoldable pub table_after : ℕ → List ℕ → List ℕ
table_after plan_room table =
    cond (ltb (length table) table_length) table (cond (ltb plan_room plan_length) table (cleared_to table_length table))

-- What a call does: its answer, the plan buffer with the plan at its start and behind it what stood there, and the table.
pub record Called (sheet plan working plan_after table_end : List ℕ) (r : Answer) : Type 0 where
  pub answer : r ≡ answer_of sheet (length plan) (length working)
  pub buffer : plan_after ≡ holding (planned_bytes sheet (length plan) (length working)) plan
  pub table : table_end ≡ table_after (length plan) working

-- The same of a call whose buffers are large enough, with just the part of the table that it works in.
pub record PlanWithinPre (plan table : List ℕ) : Type 0 where
  pub room : plan_length ≤ length plan
  pub size : length table ≡ table_length

pub record Within (sheet plan plan_after table_end : List ℕ) (r : Answer) : Type 0 where
  pub answer : r ≡ sheet_answer (read_sheet sheet)
  pub buffer : plan_after ≡ holding (sheet_plan (read_sheet sheet)) plan
  pub table : table_end ≡ zeros table_length

-- And of a sheet that was read.
pub record PlanSectionsPre (s : Sheet) (plan table : List ℕ) : Type 0 where
  pub sound : s.number ≡ 0 → SheetSound s
  pub room : plan_length ≤ length plan
  pub size : length table ≡ table_length

pub record Planned (s : Sheet) (plan plan_after : List ℕ) (r : Answer) : Type 0 where
  pub answer : r ≡ sheet_answer s
  pub buffer : plan_after ≡ holding (sheet_plan s) plan
