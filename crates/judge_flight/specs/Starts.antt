-- The starts and ends of a flight's passes, and from when on another pass may start, as the plan's bytes give them; the first member stands at an offset.
use Rattle.std.specs.Prelude.{ℕ, ◌+◌, ◌-◌, ◌*◌, ◌^◌, ◌≤◌, ◌<◌, ◌≡◌, cond, List, ltb}
use Rattle.order.specs.Order.{Proper}
use Rattle.sheet.specs.Limits.{most_blocks}
use Rattle.sheet.specs.Sound.{FlightSound}
use Rattle.sheet.specs.declared.FlightSection.{FlightSection}
use Rattle.rules.specs.Flight.{pass_time}
use Rattle.plan_format.specs.Format.{size_of, width_of, passes_form}
use Rattle.plan_read.specs.PlanRead.{passes_from}

unfoldable pub start_in_plan : List ℕ → ℕ → ℕ → ℕ → ℕ
start_in_plan plan at n p = cond (ltb p n) (passes_from plan (at + size_of passes_form * p)).first (passes_from plan (at + size_of passes_form * (p - n))).second

unfoldable pub end_in_plan : FlightSection → List ℕ → ℕ → ℕ → ℕ
end_in_plan f plan at p = start_in_plan plan at f.blocks p + pass_time f p

unfoldable pub clear_in_plan : FlightSection → List ℕ → ℕ → ℕ → ℕ
clear_in_plan f plan at p = end_in_plan f plan at p + f.turn

pub record PassStartPre (at n p : ℕ) : Type 0 where
  pub room : at + size_of passes_form * most_blocks < 2 ^ 64
  pub few : n ≤ most_blocks
  pub known : p < 2 * n

-- a start fits the width of a start, and an end one bit more
pub record StartTold (value r : ℕ) : Type 0 where
  pub is : r ≡ value
  pub fits : r < 2 ^ (8 * width_of passes_form 0)

pub record FigureTold (value r : ℕ) : Type 0 where
  pub is : r ≡ value
  pub fits : r < 2 ^ (8 * width_of passes_form 0 + 1)

pub record FlightHeadPre (f : FlightSection) (at : ℕ) : Type 0 where
  pub sound : FlightSound f
  pub room : at + size_of passes_form * most_blocks < 2 ^ 64

pub record PassEndPre (f : FlightSection) (at p : ℕ) : Type 0 where
  pub sound : FlightSound f
  pub room : at + size_of passes_form * most_blocks < 2 ^ 64
  pub known : p < 2 * f.blocks

pub record PassesInOrderPre (f : FlightSection) (order at : ℕ) : Type 0 where
  pub sound : FlightSound f
  pub room : at + size_of passes_form * most_blocks < 2 ^ 64
  pub proper : Proper f.blocks order
