-- `few_blocks` meets its contract: each way through its tests is one through the definition.
use mathlib.Core.Path.{◌≡◌}
use Prim.Native.Nat.{ℕ}
use lib.Dec.{leb}
use Rattle.base.specs.Branch.{branches}
use Rattle.sheet.specs.Limits.{most_blocks_without_order}
use Rattle.sheet.specs.Sections.{in_flight}
use Rattle.sheet.specs.Checks.{few_blocks}
use Rattle.sheet_checks.proofs.few_blocks.Goals as goal

blocks : (section members : ℕ) → section ≡ in_flight → leb members most_blocks_without_order ≡ few_blocks section members
unfolding few_blocks
blocks section members e = rw e

pub returns-then-section-ne-IN_FLIGHT : goal.returns-then-section-ne-IN_FLIGHT
unfolding few_blocks
returns-then-section-ne-IN_FLIGHT c = search branches depth 14

pub returns-else-section-ne-IN_FLIGHT : goal.returns-else-section-ne-IN_FLIGHT
returns-else-section-ne-IN_FLIGHT c = search blocks
