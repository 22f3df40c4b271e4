-- The blocks of a proper order's passes (01: "First passes take the blocks in sheet order, and so do second passes."): the pass at position k is
-- the first pass of block `firsts w k` or the second pass of block `seconds w k`, from 0. That block is one of the n, and a second pass comes after its first.
use Rattle.std.specs.Prelude.{◌≡◌, ℕ, ◌+◌, ◌*◌, ◌≤◌, ◌<◌}
use Rattle.std.proofs.Common.{arith}
use Rattle.order.specs.Order.{bit, seconds, firsts, Proper}
use Rattle.order.specs.Seconds.{seconds_more, firsts_seconds, firsts_more, firsts_mono}

module _ {n w : ℕ} (p : Proper n w) (k : ℕ) where
  pub proper_firsts : k ≤ 2 * n → firsts w k ≤ n
  proper_firsts l = omega (arith, firsts_mono w k (2 * n) l, firsts_seconds w (2 * n), p.exactly)

  pub proper_first : k < 2 * n → bit w k ≡ 0 → firsts w k < n
  proper_first l z = omega (arith, firsts_more w k, firsts_mono w (k + 1) (2 * n) (omega arith), firsts_seconds w (2 * n), p.exactly)

  pub proper_second : k < 2 * n → bit w k ≡ 1 → seconds w k < firsts w k
  proper_second l z = omega (arith, seconds_more w k, firsts_more w k, p.beginnings (k + 1) (omega arith))
