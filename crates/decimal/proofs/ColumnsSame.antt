-- Equal columns are of equal numbers.
use Prim.Native.Nat.{ℕ, ◌^◌, ◌≤◌, ◌<◌}
use Rattle.std.specs.Prelude.{◌≡◌}
use Rattle.std.proofs.Common.{sym, ap, ◌∙◌}
use Rattle.decimal.specs.Columns.{zero_digit, columns, columns_value}
use Rattle.decimal.proofs.Laws.{columns_back}

pub columns_same : (filler width value other : ℕ) → filler ≤ zero_digit → value < 10 ^ width → other < 10 ^ width
    → columns filler width value ≡ columns filler width other → value ≡ other
columns_same filler width value other small h k e =
    sym (columns_back filler width value small h) ∙ ap columns_value e ∙ columns_back filler width other small k
