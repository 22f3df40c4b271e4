-- What the functions ask.
use Rattle.std.specs.Prelude.{◌≡◌, List, ℕ, ◌-◌, ◌*◌, ◌≤◌, ◌<◌, length, get_or}
use Rattle.sheet.specs.Limits.{most_time, most_turn, most_blocks}
use Rattle.sheet.specs.declared.FlightSection.{FlightSection}
use Rattle.order.specs.Order.{Proper}
use Rattle.order.specs.Beginning.{Beginning}
use Rattle.difference.specs.declared.Constraint.{Constraint}

-- At least one block; number, turn and times within the limits of a sheet.
pub record BlockTimes (f : FlightSection) : Type 0 where
  pub some : 0 < f.blocks
  pub few : f.blocks ≤ most_blocks
  pub turn_low : f.turn ≤ most_turn
  pub first_long : f.blocks ≤ length f.first
  pub second_long : f.blocks ≤ length f.second
  pub shortest_long : f.blocks ≤ length f.shortest
  pub longest_long : f.blocks ≤ length f.longest
  pub first_low : (i : ℕ) → get_or f.first i 0 ≤ most_time
  pub second_low : (i : ℕ) → get_or f.second i 0 ≤ most_time
  pub shortest_low : (i : ℕ) → get_or f.shortest i 0 ≤ most_time
  pub longest_low : (i : ℕ) → get_or f.longest i 0 ≤ most_time

-- Room for the constraints and starts of the blocks, and of 32.
pub record SearchRoom (f : FlightSection) (rows : List Constraint) (starts : List ℕ) : Type 0 where
  pub times : BlockTimes f
  pub rows_length : length rows ≡ 4 * f.blocks - 1
  pub starts_length : length starts ≡ 2 * f.blocks

pub record SearchAllPre (f : FlightSection) (rows : List Constraint) (starts : List ℕ) : Type 0 where
  pub times : BlockTimes f
  pub rows_long : 127 ≤ length rows
  pub starts_long : 64 ≤ length starts

pub record TryOrderPre (f : FlightSection) (order : ℕ) (rows : List Constraint) (starts : List ℕ) : Type 0 where
  pub room : SearchRoom f rows starts
  pub proper : Proper f.blocks order

pub record SearchPre (f : FlightSection) (left x : ℕ) (rows : List Constraint) (starts : List ℕ) : Type 0 where
  pub room : SearchRoom f rows starts
  pub within : left ≤ 2 * f.blocks
  pub begun : Beginning f.blocks (2 * f.blocks - left) x
