-- The values of the recursion by index: what the planner's tables hold.
use Rattle.std.specs.Prelude.{ℕ, ◌+◌, ◌*◌, ◌-◌, List}
use Rattle.rules.specs.declared.Batch.{Batch}
use Rattle.batching.specs.Least.{Instance, least_open, least_from}
use Rattle.batching.specs.Chosen.{chosen_open, chosen_from}

-- the least figure of the strips after i, the bench free at `free`: with no batch open; with an open batch up to q
unfoldable pub least_at : Instance → ℕ → ℕ → ℕ
least_at x i free = least_from x (x.strips - i) i free

unfoldable pub open_at : Instance → ℕ → ℕ → ℕ → ℕ
open_at x i q free = least_open x (x.strips - q) i q free

-- the figure of the batch i, q whose bench work starts at `begin`, with what is least after it
unfoldable pub closed_at : Instance → ℕ → ℕ → ℕ → ℕ
closed_at x begin i q = x.weight i q * (begin + x.bench i q) + least_at x q (begin + x.bench i q)

-- the batches taken, in both cases
unfoldable pub chosen_at : Instance → ℕ → ℕ → List Batch
chosen_at x i free = chosen_from x (x.strips - i) i free

unfoldable pub chosen_open_at : Instance → ℕ → ℕ → ℕ → List Batch
chosen_open_at x i q free = chosen_open x (x.strips - q) i q free
