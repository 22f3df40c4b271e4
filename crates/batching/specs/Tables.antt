-- What the functions ask and do: the tables hold the values of the recursion, said of the lists behind the slices.
-- x: the strips that are batched. row: one row of least figures, after strip p at p. late: figures of the batches that wait for their last strip, batch i, q at
-- width i + q.
use Rattle.std.specs.Prelude.{◌≡◌, List, ◌∷◌, ℕ, ◌+◌, ◌*◌, ◌-◌, ◌≤◌, ◌<◌, length, get_or}
use Rattle.batching.specs.Least.{Instance, bench_start, finish_of}
use Rattle.batching.specs.Chosen.{batch_of}
use Rattle.batching.specs.Index.{least_at, closed_at, chosen_at}
use Rattle.batching.specs.Caps.{begin_cap, block_cap, free_cap, finish_cap, least_cap}
use Rattle.batching.specs.declared.input.Strips.{Strips}

-- entries for the strips from 0 to 40; a row of them for each strip from 0 to 39
abbrev pub width : ℕ
width = 41

abbrev pub late_length : ℕ
late_length = 1_640

-- the instance that the slices give
abbrev pub instance_in : Strips → Instance
instance_in x = record {
  strips = x.count;
  mount = x.mount;
  ready = λ q. get_or x.ready.now (q - 1) 0;
  bench = λ i q. get_or x.bench_sums.now q 0 - get_or x.bench_sums.now i 0;
  weight = λ i q. get_or x.weight_sums.now q 0 - get_or x.weight_sums.now i 0;
}

-- what the tables hold where the bench is free at `free` after strip i
pub record Ahead (x : Strips) (late row : List ℕ) (free i : ℕ) : Type 0 where
  pub row_at : (p : ℕ) → i < p → p ≤ x.count → get_or row p 0 ≡ least_at (instance_in x) p (free + x.mount + (get_or x.bench_sums.now p 0 - get_or x.bench_sums.now i 0))
  pub late_at : (q : ℕ) → i < q → q ≤ x.count → get_or late (width * i + q) 0 ≡ closed_at (instance_in x) (get_or x.ready.now (q - 1) 0) i q

-- the figure of the batch of the strips after i up to q whose bench work starts at `begin`, with what the row has after it
unfoldable pub closed_figure : Strips → List ℕ → ℕ → ℕ → ℕ → ℕ
closed_figure x row begin i q = (get_or x.weight_sums.now q 0 - get_or x.weight_sums.now i 0) * (begin + (get_or x.bench_sums.now q 0 - get_or x.bench_sums.now i 0)) + get_or row q 0

-- what `closed_figure` asks: that there is such a batch, that the row reaches so far, and that a finish and what the row has are not too large
pub record ClosedFigurePre (x : Strips) (row : List ℕ) (begin i q : ℕ) : Type 0 where
  pub rises : i ≤ q
  pub last : q ≤ x.count
  pub row_long : q < length row
  pub most_finish_holds : begin + (get_or x.bench_sums.now q 0 - get_or x.bench_sums.now i 0) ≤ finish_cap
  pub most_rest : get_or row q 0 ≤ least_cap

-- what `choose_batch` asks
pub record ChooseBatchPre (x : Strips) (late row : List ℕ) (free i : ℕ) : Type 0 where
  pub ahead : Ahead x late row free i
  pub late_long : late_length ≤ length late
  pub row_long : x.count < length row
  pub most_free_holds : free ≤ free_cap
  pub inside : i < x.count

-- what `candidate` asks
pub record CandidatePre (x : Strips) (late row : List ℕ) (free i q : ℕ) : Type 0 where
  pub from : ChooseBatchPre x late row free i
  pub first : i < q
  pub last : q ≤ x.count

-- the entries lo .. x.count of a row: the least figures after strip p, where the bench works from `begin` on with no pause since strip i
pub record RowIs (x : Strips) (row : List ℕ) (begin i lo : ℕ) : Type 0 where
  pub at : (p : ℕ) → lo ≤ p → p ≤ x.count → get_or row p 0 ≡ least_at (instance_in x) p (begin + (get_or x.bench_sums.now p 0 - get_or x.bench_sums.now i 0))

-- the entries of `late` for batches of the strips after lo or a later strip
pub record LateFrom (x : Strips) (late : List ℕ) (lo : ℕ) : Type 0 where
  pub at : (i q : ℕ) → lo ≤ i → i < q → q ≤ x.count → get_or late (width * i + q) 0 ≡ closed_at (instance_in x) (get_or x.ready.now (q - 1) 0) i q

-- what `fill_row` asks
pub record FillRowPre (x : Strips) (late row : List ℕ) (begin i lo : ℕ) : Type 0 where
  pub later : LateFrom x late lo
  pub late_long : late_length ≤ length late
  pub next : RowIs x row (begin + x.mount) i (lo + 1)
  pub row_long : x.count < length row
  pub most_begin : begin ≤ block_cap
  pub from : i ≤ lo
  pub inside : lo < x.count

-- what `fill_row` and `fill_block` do: the entries lo .. x.count are written, the others are as they were
pub record RowFilled (x : Strips) (row₀ row₁ : List ℕ) (begin i lo : ℕ) : Type 0 where
  pub row : RowIs x row₁ begin i lo
  pub len : length row₁ ≡ length row₀
  pub below : (p : ℕ) → p < lo → get_or row₁ p 0 ≡ get_or row₀ p 0
  pub above : (p : ℕ) → x.count < p → get_or row₁ p 0 ≡ get_or row₀ p 0

-- what `fill_block` asks
pub record FillBlockPre (x : Strips) (late row : List ℕ) (begin i lo : ℕ) : Type 0 where
  pub later : LateFrom x late lo
  pub late_long : late_length ≤ length late
  pub row_long : x.count < length row
  pub from : i ≤ lo
  pub inside : lo ≤ x.count
  pub most_begin : begin ≤ begin_cap

-- what `fill_late_after` asks, and does: the entries of the batches of the strips after i are written, the others are as they were
pub record FillLateAfterPre (x : Strips) (late row : List ℕ) (i : ℕ) : Type 0 where
  pub later : LateFrom x late (i + 1)
  pub late_long : late_length ≤ length late
  pub row_long : x.count < length row
  pub inside : i < x.count

pub record LateAfter (x : Strips) (late₀ late₁ : List ℕ) (i : ℕ) : Type 0 where
  pub at : (q : ℕ) → i < q → q ≤ x.count → get_or late₁ (width * i + q) 0 ≡ closed_at (instance_in x) (get_or x.ready.now (q - 1) 0) i q
  pub kept : (k : ℕ) → ((q : ℕ) → i < q → q ≤ x.count → k ≡ width * i + q → ⊥) → get_or late₁ k 0 ≡ get_or late₀ k 0

-- what `fill_late` does: the entries of all batches are written, the others are as they were
pub record LateFilled (x : Strips) (late₀ late₁ : List ℕ) : Type 0 where
  pub all : LateFrom x late₁ 0
  pub len : length late₁ ≡ length late₀
  pub kept : (k : ℕ) → ((i q : ℕ) → i < q → q ≤ x.count → k ≡ width * i + q → ⊥) → get_or late₁ k 0 ≡ get_or late₀ k 0

-- what `first_batch` asks
pub record FirstBatchPre (x : Strips) (late : List ℕ) (free i : ℕ) : Type 0 where
  pub later : LateFrom x late i
  pub late_long : late_length ≤ length late
  pub most_free_holds : free + x.mount ≤ begin_cap
  pub inside : i < x.count

-- what `choose_batch` and `first_batch` find: the last strip q of the first batch of those taken after strip i, and the least figure
pub record First (x : Strips) (free i q least : ℕ) : Type 0 where
  pub first : i < q
  pub last : q ≤ x.count
  pub taken : chosen_at (instance_in x) i free
      ≡ batch_of (instance_in x) free i q ∷ chosen_at (instance_in x) q (finish_of (instance_in x) free i q)
  pub figure : least ≡ least_at (instance_in x) i free
  pub closed : least ≡ closed_at (instance_in x) (bench_start x.mount free (get_or x.ready.now (q - 1) 0)) i q
