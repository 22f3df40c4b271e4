-- What holds of the strips that are batched. rs: ready times, strip q at q - 1. sums: bench times added up, those of the first q strips at q. weights: the
-- strips' weights added up alike. s: the time of a mount. n: the number of strips.
use Rattle.std.specs.Prelude.{List, ℕ, ◌≤◌, ◌<◌, length, get_or}
use Rattle.sheet.specs.Limits.{most_strips}
use Rattle.batching.specs.Caps.{ready_cap, mount_cap, bench_cap, weights_cap}

-- times that are not too long, weights that are not too large, and sums that rise
pub record Input (rs sums weights : List ℕ) (s n : ℕ) : Type 0 where
  pub most_strips_holds : n ≤ most_strips
  pub ready_long : n ≤ length rs
  pub sums_long : n < length sums
  pub most_ready : (j : ℕ) → get_or rs j 0 ≤ ready_cap
  pub most_mount : s ≤ mount_cap
  pub most_sum : (q : ℕ) → q ≤ n → get_or sums q 0 ≤ bench_cap
  pub rise : (i q : ℕ) → i ≤ q → q ≤ n → get_or sums i 0 ≤ get_or sums q 0
  pub weights_long : n < length weights
  pub most_weights : (q : ℕ) → q ≤ n → get_or weights q 0 ≤ weights_cap
  pub weights_rise : (i q : ℕ) → i ≤ q → q ≤ n → get_or weights i 0 ≤ get_or weights q 0
