-- The least figure of all batchings, by recursion: at each strip the open batch is closed or extended (in the literature: batching on one machine with
-- release dates and an anticipatory setup for each batch, for the least sum of weighted completion times).
-- Strips are numbered from 1. A batch is the strips after strip i, up to and with strip q.
use Rattle.std.specs.Prelude.{ℕ, zero, suc, ◌+◌, ◌*◌, min, max}

-- what the recursion reads: the number of strips, the mount time (in the literature: setup time), when strip q is ready (release date), the bench times
-- and the weights of the strips after i up to q
pub record Instance : Type 0 where
  pub strips : ℕ
  pub mount : ℕ
  pub ready : ℕ → ℕ
  pub bench : ℕ → ℕ → ℕ
  pub weight : ℕ → ℕ → ℕ

-- 02, Req 08: "a mount starts no earlier than the batch before finishes, or 0", so at `free` at the earliest. "Bench work starts when the mount is done and the
-- batch's last strip is ready": when it starts for a mount at `free` (`bench_work_start` of the rules), and when the batch i, q finishes
unfoldable pub bench_start : ℕ → ℕ → ℕ → ℕ
bench_start mount free ready = max (free + mount) ready

unfoldable pub finish_of : Instance → ℕ → ℕ → ℕ → ℕ
finish_of x free i q = bench_start x.mount free (x.ready q) + x.bench i q

-- the least figure of the strips after i, where the bench is free at `free`, the open batch has the strips after i up to q, and `left` strips follow it
unfoldable pub least_open : Instance → ℕ → ℕ → ℕ → ℕ → ℕ
least_open x zero i q free = x.weight i q * finish_of x free i q
least_open x (suc left) i q free =
    min
    (x.weight i q * finish_of x free i q + least_open x left q (q + 1) (finish_of x free i q))
    (least_open x left i (q + 1) free)

-- the same, with no batch open
unfoldable pub least_from : Instance → ℕ → ℕ → ℕ → ℕ
least_from x zero i free = 0
least_from x (suc left) i free = least_open x left i (i + 1) free
