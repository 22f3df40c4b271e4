-- `has_room` meets its contract: each way through its tests is one through the definition.
use mathlib.Core.Path.{◌≡◌}
use Prim.Native.Nat.{ℕ}
use lib.Dec.{ltb}
use Rattle.base.specs.Branch.{branches}
use Rattle.sheet.specs.Limits.{most_strips, most_blocks}
use Rattle.sheet.specs.Tags.{mosaic_strip_tag, flight_window_block_tag}
use Rattle.sheet.specs.Checks.{has_room}
use Rattle.sheet_checks.proofs.has_room.Goals as goal

strips : (tag members of_desk : ℕ) → tag ≡ mosaic_strip_tag → ltb members most_strips ≡ has_room tag members of_desk
unfolding has_room
strips tag members of_desk e = rw e

window_blocks : (tag members of_desk : ℕ) → tag ≡ flight_window_block_tag → ltb members most_blocks ≡ has_room tag members of_desk
unfolding has_room
window_blocks tag members of_desk e = rw e

pub returns-in-17 : goal.returns-in-17
returns-in-17 c = search strips

pub returns-in-33 : goal.returns-in-33
unfolding has_room
returns-in-33 c = search branches depth 14

pub returns-in-49 : goal.returns-in-49
unfolding has_room
returns-in-49 c = search branches depth 14

pub returns-in-51 : goal.returns-in-51
returns-in-51 c = search window_blocks

pub returns-in_default : goal.returns-in_default
unfolding has_room
returns-in_default c = search branches depth 14
