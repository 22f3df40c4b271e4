-- The rules as they are checked member by member, in order. Equivalent.antt of crate rules_laws shows that they say the same as the rules. Those of the mosaic
-- take the ceiling as a parameter, because its lower bound is shown along the batches; those of sorting and flight are needed at 10,000,000 alone.
use Rattle.std.specs.Prelude.{ℕ, ◌+◌, ◌-◌, ◌*◌, ◌≤◌, ◌<◌, ◌≡◌, List, [], ◌∷◌, length, get_or, set}
use Rattle.order.specs.Passes.{pass_at}
use Rattle.base.specs.Sums.{sum_after}
use Rattle.sheet.specs.Limits.{ceiling}
use Rattle.sheet.specs.declared.MosaicSection.{MosaicSection}
use Rattle.sheet.specs.declared.SortingSection.{SortingSection}
use Rattle.sheet.specs.declared.FlightSection.{FlightSection}
use Rattle.rules.specs.Mosaic.{BatchUnder}
use Rattle.rules.specs.Sorting.{strips_of, scan_end, desk_finish, JobLawful}
use Rattle.rules.specs.Flight.{passes_at, DelayKept, Clear, OrderAllowed}
use Rattle.rules.specs.declared.Batch.{Batch}
use Rattle.rules.specs.declared.Job.{Job}
use Rattle.rules.specs.declared.Passes.{Passes}
use Rattle.running.specs.declared.Desks.{Desks}

-- A batch may follow the batch before it (`no_batch` before the first), under the ceiling c.
pub record BatchFollowsUnder (c : ℕ) (m : MosaicSection) (before b : Batch) : Type 0 where
  pub lawful : BatchUnder c m before b
  pub known : b.last ≤ m.strips

pub data MosaicRunsUnder (c : ℕ) (m : MosaicSection) : Batch → List Batch → Type 0 where
  none : {before : Batch} → before.last ≡ m.strips → MosaicRunsUnder c m before []
  more : {before b : Batch} {bs : List Batch} → BatchFollowsUnder c m before b → MosaicRunsUnder c m b bs → MosaicRunsUnder c m before (b ∷ bs)

-- The same under the ceiling of 10,000,000.
abbrev pub BatchFollows : MosaicSection → Batch → Batch → Type 0
BatchFollows m before b = BatchFollowsUnder ceiling m before b

abbrev pub MosaicRuns : MosaicSection → Batch → List Batch → Type 0
MosaicRuns m before bs = MosaicRunsUnder ceiling m before bs

-- the weight of the batch of the strips after i up to q: the sum of their weights
unfoldable pub batch_weight : MosaicSection → ℕ → ℕ → ℕ
batch_weight m i q = sum_after m.weight i (q - i)

-- A job may follow. `d` says how many strips each desk has had, and from when on each desk and the scanner are free.
pub record JobFollows (s : SortingSection) (d : Desks) (j : Job) : Type 0 where
  pub lawful : JobLawful s j
  pub in_turn : j.number ≡ get_or d.done (j.desk - 1) 0 + 1
  pub known : j.number ≤ strips_of s j.desk
  pub one_scan : d.scanner ≤ j.scan
  pub one_job : get_or d.free (j.desk - 1) 0 ≤ j.start

-- the desks and the scanner before the first job, and after one more
unfoldable pub free_desks : Desks
free_desks = record { done = 0 ∷ 0 ∷ 0 ∷ []; free = 0 ∷ 0 ∷ 0 ∷ []; scanner = 0 }

unfoldable pub after_job : SortingSection → Desks → Job → Desks
after_job s d j =
    record {
      done = set d.done (j.desk - 1) j.number;
      free = set d.free (j.desk - 1) (desk_finish s j);
      scanner = scan_end s j;
    }

-- every strip has had its job
pub record AllDone (s : SortingSection) (d : Desks) : Type 0 where
  pub all : (desk : ℕ) → 1 ≤ desk → desk ≤ s.desks → get_or d.done (desk - 1) 0 ≡ strips_of s desk

pub data SortingRuns (s : SortingSection) : Desks → List Job → Type 0 where
  none : {d : Desks} → AllDone s d → SortingRuns s d []
  more : {d : Desks} {j : Job} {js : List Job} → JobFollows s d j → SortingRuns s (after_job s d j) js → SortingRuns s d (j ∷ js)

-- The passes of block i have a delay in its window and end by the ceiling.
pub record BlockFollows (f : FlightSection) (i : ℕ) (p : Passes) : Type 0 where
  pub known : i < f.blocks
  pub delay_kept : DelayKept f i p
  pub within : p.second + get_or f.second i 0 ≤ ceiling

-- What is checked at the head of a flight: every block there, the order proper and as given, each pass at least the turn after the one before it in the order.
pub record FlightHead (f : FlightSection) (order : ℕ) (ps : List Passes) : Type 0 where
  pub every_block : length ps ≡ f.blocks
  pub allowed : OrderAllowed f order
  pub in_order : (k : ℕ) → k + 1 < 2 * f.blocks → Clear f ps (pass_at f.blocks order k) (pass_at f.blocks order (k + 1))

pub record FlightRuns (f : FlightSection) (order : ℕ) (ps : List Passes) : Type 0 where
  pub members : (i : ℕ) → i < length ps → BlockFollows f i (passes_at ps i)
  pub head : FlightHead f order ps
