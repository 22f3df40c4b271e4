-- The check of the ranges decides 6, 15 and 16: it gives the number of the first value that is not within its range, and 0 where every value is.
-- The idea: one value is decided by its two tests; a row of values by its first value or, where that is within its range, by the others.
use Rattle.std.specs.Prelude.{ℕ, ◌<◌, ◌≡◌, ◌&&◌, List, [], ◌∷◌}
use Rattle.std.proofs.Common.{◌∙◌}
use Rattle.sheet.specs.Refusals.{out_of_range, time_too_large, time_of_zero}
use Rattle.sheet.specs.FieldTable.{Value, Within, InRange}
use Rattle.sheet.specs.Causes.{CountOutOfRange, TimeTooLarge, TimeOfZero, FirstOut}

-- The other way: what number one value gives, and why ..
pub data OneDecided (given : ℕ) (v : Value) : Type 0 where
  count_out : given ≡ out_of_range → CountOutOfRange v → OneDecided given v
  too_large : given ≡ time_too_large → TimeTooLarge v → OneDecided given v
  of_zero : given ≡ time_of_zero → TimeOfZero v → OneDecided given v
  within : given ≡ 0 → Within v → OneDecided given v

-- .. and what the values of a field give.
pub data RangeDecided (given : ℕ) (values : List Value) : Type 0 where
  count_out : given ≡ out_of_range → FirstOut CountOutOfRange values → RangeDecided given values
  too_large : given ≡ time_too_large → FirstOut TimeTooLarge values → RangeDecided given values
  of_zero : given ≡ time_of_zero → FirstOut TimeOfZero values → RangeDecided given values
  within : given ≡ 0 → InRange values → RangeDecided given values
