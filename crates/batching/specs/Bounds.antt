-- No least figure is large: one batch of all strips left is a choice, and it finishes early.
use Rattle.std.specs.Prelude.{ℕ, ◌-◌, ◌≤◌, get_or}
use Rattle.std.proofs.Common.{mul-le-mul, arith}
use Rattle.std.proofs.Math.Decide.{dec_lt}
use Rattle.batching.specs.Least.{bench_start, finish_of}
use Rattle.batching.specs.Index.{least_at}
use Rattle.batching.specs.Caps.{finish_cap, end_cap, weights_cap, least_cap}
use Rattle.batching.specs.Tables.{instance_in}
use Rattle.batching.specs.Recursion.{least_end, least_one}
use Rattle.batching.specs.declared.input.Strips.{Strips}

finish_most : (x : Strips) (i t : ℕ) → t ≤ finish_cap → finish_of (instance_in x) t i x.count ≤ end_cap
unfolding finish_of bench_start
finish_most x i t h = omega (arith, x.input.most_ready (x.count - 1), x.input.most_mount, x.input.most_sum x.count (omega arith))

pub least_most : (x : Strips) (i t : ℕ) → t ≤ finish_cap → least_at (instance_in x) i t ≤ least_cap
least_most x i t h = elim (dec_lt i x.count) [
  | yes k ↦
      let light : get_or x.weight_sums.now x.count 0 - get_or x.weight_sums.now i 0 ≤ weights_cap = omega (arith, x.input.most_weights x.count (omega arith)) in
      omega (arith, least_one (instance_in x) i t k, mul-le-mul light (finish_most x i t h))
  | no k ↦ omega (arith, least_end (instance_in x) i t (omega arith))
]
