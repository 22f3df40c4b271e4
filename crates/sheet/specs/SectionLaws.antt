-- Each section stays sound as a field that passes its checks is added.
use Prim.Native.Nat.{◌+◌, ◌-◌, ◌*◌, ◌≤◌, ◌<◌}
use Rattle.std.specs.Prelude.{◌≡◌, [], ◌∷◌, ◌++◌}
use Rattle.std.proofs.Common.{◌∙◌, true≢false}
use Rattle.sheet.specs.Limits.{most_time}
use Rattle.sheet.specs.FieldTable.{Between}
use Rattle.sheet.specs.declared.Block.{Block}

-- a block whose times are within their ranges, with a window that is not empty
pub record BlockSound (b : Block) : Type 0 where
  pub first : Between 1 b.first most_time
  pub most_delay : b.longest ≤ most_time
  pub window : b.shortest ≤ b.longest
  pub second : Between 1 b.second most_time
