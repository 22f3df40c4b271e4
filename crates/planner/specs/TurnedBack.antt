-- The table "Turned back" of 01, as far as the planner gives it: a call is turned back with a number and a place exactly where their cause lies.
use Rattle.std.specs.Prelude.{ℕ, ◌≤◌, ◌<◌, ◌≡◌, List, length}
use Rattle.std.proofs.Common.{◌∙◌}
use Rattle.sheet.specs.Limits.{table_length, plan_length}
use Rattle.sheet.specs.Refusals.{table_too_small, buffer_too_small, order_impossible}
use Rattle.sheet.specs.Read.{read_sheet}
use Rattle.sheet.specs.Table.{RefusedFor}
use Rattle.planner.specs.Outcomes.{Large}
use Rattle.planner.specs.Theorems.{Impossible}

-- The rows of the table, in the order of the checks: "The planner checks 1, 2, then each field .. 11 comes last."
pub data TurnedBack (sheet plan table : List ℕ) (number place : ℕ) : Type 0 where
  -- "working table below 6,400 numbers of 64 bits"
  table_small : length table < table_length → number ≡ table_too_small → place ≡ 0 → TurnedBack sheet plan table number place
  -- "plan buffer below 1,095 bytes", since Req 09 below 1,103
  buffer_small : table_length ≤ length table → length plan < plan_length → number ≡ buffer_too_small → place ≡ 0 → TurnedBack sheet plan table number place
  -- 3 to 10 and 15 to 17: a cause of the sheet, at the first field that has one (sheet, Causes.antt and Table.antt)
  in_sheet : Large plan table → RefusedFor sheet number place → TurnedBack sheet plan table number place
  -- "no timetable keeps the given order", at the order field, of a sheet that is otherwise sound; 02, Req 06: "no proper order has a timetable", at the flight
  -- head. The reading fixes the place (`with_flight_head`, `with_order` of sheet, Decode.antt).
  impossible :
      Large plan table → (read_sheet sheet).number ≡ 0 → Impossible (read_sheet sheet)
      → number ≡ order_impossible → place ≡ (read_sheet sheet).flight.place → TurnedBack sheet plan table number place
