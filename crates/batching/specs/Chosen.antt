-- The batching that is taken: the recursion of the least figure, where the open batch is closed only if that is better than to extend it.
use Rattle.std.specs.Prelude.{ℕ, zero, suc, ◌+◌, ◌*◌, true, false, List, [], ◌∷◌, ltb}
use Rattle.rules.specs.declared.Batch.{Batch}
use Rattle.batching.specs.Least.{Instance, finish_of, least_open}

-- the batch of the strips after i up to q, as early as can be: its mount starts when the batch before finishes
unfoldable pub batch_of : Instance → ℕ → ℕ → ℕ → Batch
batch_of x free i q = record { last = q; start = free; finish = finish_of x free i q }

unfoldable pub chosen_open : Instance → ℕ → ℕ → ℕ → ℕ → List Batch
chosen_open x zero i q free = batch_of x free i q ∷ []
chosen_open x (suc left) i q free =
    elim (ltb (x.weight i q * finish_of x free i q + least_open x left q (q + 1) (finish_of x free i q)) (least_open x left i (q + 1) free)) [
      | true ↦ batch_of x free i q ∷ chosen_open x left q (q + 1) (finish_of x free i q)
      | false ↦ chosen_open x left i (q + 1) free
    ]

unfoldable pub chosen_from : Instance → ℕ → ℕ → ℕ → List Batch
chosen_from x zero i free = []
chosen_from x (suc left) i free = chosen_open x left i (i + 1) free
