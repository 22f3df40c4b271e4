-- What the times and figures of a section come to at most, each out of the limits of a sheet and of caps above it; so every sum stays within 64 bits.
use Rattle.std.specs.Prelude.{ℕ, ◌+◌, ◌*◌}
use Rattle.sheet.specs.Limits.{most_strips, most_time, most_weight}

-- when a strip is ready: at a station its own time and those of the strips before it are over
abbrev pub ready_cap : ℕ
ready_cap = most_strips * most_time

-- how long a mount takes
abbrev pub mount_cap : ℕ
mount_cap = most_time

-- the same of all batches, of which each has a strip
abbrev pub mounts_cap : ℕ
mounts_cap = most_strips * mount_cap

-- the bench times of all strips
abbrev pub bench_cap : ℕ
bench_cap = most_strips * most_time

-- when the bench work of a batch of the plan starts, and when the batch finishes: at most as if all mounts and bench times came after the last strip is ready
abbrev pub begin_cap : ℕ
begin_cap = ready_cap + mounts_cap + bench_cap

-- when the bench work of a block starts that has further mounts put before it
abbrev pub block_cap : ℕ
block_cap = begin_cap + mounts_cap

-- when the bench is free after some strips of a block
abbrev pub free_cap : ℕ
free_cap = block_cap + bench_cap

-- when a batch that is tried there finishes
abbrev pub finish_cap : ℕ
finish_cap = free_cap + mount_cap + bench_cap

-- when one batch of all strips after that batch finishes
abbrev pub end_cap : ℕ
end_cap = finish_cap + mount_cap + bench_cap

-- the weights of all strips
abbrev pub weights_cap : ℕ
weights_cap = most_strips * most_weight

-- the figure of a batch that is tried
abbrev pub batch_cap : ℕ
batch_cap = weights_cap * finish_cap

-- the least figure of the strips after it: an entry of a row
abbrev pub least_cap : ℕ
least_cap = weights_cap * end_cap
