-- Beginnings of pass orders, over which a search for an order goes.
use Rattle.std.specs.Prelude.{◌≡◌, ℕ, ◌+◌, ◌*◌, ◌%◌, ◌^◌, ◌≤◌, ◌<◌}
use Rattle.order.specs.Order.{seconds, firsts}

-- x is a beginning of k passes that a proper order of n blocks can have.
pub record Beginning (n k x : ℕ) : Type 0 where
  pub within : k ≤ 2 * n
  pub no_higher : x < 2 ^ k
  pub first_passes : firsts x k ≤ n
  pub beginnings : (j : ℕ) → j ≤ k → seconds x j ≤ firsts x j

-- The first k passes of w are those of x.
pub record Extends (w k x : ℕ) : Type 0 where
  pub begins : w % 2 ^ k ≡ x

-- The order w goes on from its beginning x by a first pass or by a second pass that x allows.
pub data Through (n w k x : ℕ) : Type 0 where
  by_first : firsts x k < n → Extends w (k + 1) x → Through n w k x
  by_second : seconds x k < firsts x k → Extends w (k + 1) (x + 2 ^ k) → Through n w k x
