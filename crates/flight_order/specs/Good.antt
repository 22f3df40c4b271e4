-- What the code asks of a flight, and that each of its constraints is then about two of its passes and has small numbers.
use Rattle.std.specs.Prelude.{ℕ, ◌*◌, ◌≤◌, ◌<◌, length, get_or}
use Rattle.order.specs.Order.{Proper}
use Rattle.difference.specs.Caps.{most_number}
use Rattle.sheet.specs.Limits.{most_time, most_blocks}
use Rattle.flight_order.specs.Constraints.{OrderedFlight}
use Rattle.difference.specs.declared.Constraint.{Constraint}

pub record Good (F : OrderedFlight) : Type 0 where
  pub some : 0 < F.blocks
  pub few : F.blocks ≤ most_blocks
  pub proper : Proper F.blocks F.order
  pub first_long : F.blocks ≤ length F.first
  pub second_long : F.blocks ≤ length F.second
  pub shortest_long : F.blocks ≤ length F.shortest
  pub longest_long : F.blocks ≤ length F.longest
  pub turn_low : F.turn ≤ most_time
  pub first_low : (i : ℕ) → get_or F.first i 0 ≤ most_time
  pub second_low : (i : ℕ) → get_or F.second i 0 ≤ most_time
  pub shortest_low : (i : ℕ) → get_or F.shortest i 0 ≤ most_time
  pub longest_low : (i : ℕ) → get_or F.longest i 0 ≤ most_time

pub record Small (n : ℕ) (c : Constraint) : Type 0 where
  pub from_in : c.from < 2 * n
  pub to_in : c.to < 2 * n
  pub up_low : c.up ≤ most_number
  pub down_low : c.down ≤ most_number
