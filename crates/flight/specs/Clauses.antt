-- What the functions ask and give.
use Rattle.std.specs.Prelude.{◌≡◌, List, ℕ, ◌+◌, ◌-◌, ◌*◌, ◌≤◌, ◌<◌, length, get_or, take}
use Rattle.base.specs.Listed.{listed}
use Rattle.difference.specs.System.{value}
use Rattle.order.specs.Order.{Proper}
use Rattle.difference.specs.declared.Constraint.{Constraint}
use Rattle.sheet.specs.Limits.{most_blocks}
use Rattle.sheet.specs.declared.FlightSection.{FlightSection}
use Rattle.sheet.specs.Sound.{FlightSound}
use Rattle.rules.specs.Flight.{no_passes}
use Rattle.rules.specs.declared.Passes.{Passes}
use Rattle.flight_order.specs.Constraints.{free_section, section_of}
use Rattle.flight_order.specs.declared.Blocks.{Blocks}

pub record SomeBlocks (f : FlightSection) : Type 0 where
  pub sound : FlightSound f
  pub some : 0 < f.blocks

-- The blocks that are lent are those of the section.
pub record Lent (f : FlightSection) (b : Blocks) : Type 0 where
  pub section : section_of b ≡ free_section f.blocks f.turn f.first f.second f.shortest f.longest

pub record PlanChosenPre (f : FlightSection) (rows : List Constraint) (starts : List ℕ) : Type 0 where
  pub blocks : SomeBlocks f
  pub rows_length : length rows ≡ 4 * f.blocks - 1
  pub starts_length : length starts ≡ 2 * f.blocks

pub record PlanInOrderPre (f : FlightSection) (order : ℕ) (rows : List Constraint) (starts : List ℕ) : Type 0 where
  pub plan : PlanChosenPre f rows starts
  pub proper : Proper f.blocks order

pub record PlanBlocksPre (f : FlightSection) (rows : List Constraint) (starts : List ℕ) : Type 0 where
  pub blocks : SomeBlocks f
  pub rows_long : 127 ≤ length rows
  pub starts_long : 64 ≤ length starts

pub record PassesAtPre (starts : List ℕ) (n : ℕ) : Type 0 where
  pub few : n ≤ most_blocks
  pub within : n + n ≤ length starts

-- Passes of the first i blocks, at the starts i and n + i, and zeros after them.
pub record PassesAt (starts : List ℕ) (n i : ℕ) (blocks : List Passes) : Type 0 where
  pub passes : take i blocks ≡ listed i (λ k. record { first = value starts k; second = value starts (n + k) })
  pub no_more : (k : ℕ) → i ≤ k → get_or blocks k no_passes ≡ no_passes
