-- The heads and members of a plan, read from its bytes: the numbers that a form gives for the field at an offset (crate plan_format).
use Rattle.std.specs.Prelude.{ℕ, zero, suc, ◌+◌, ◌*◌, ◌^◌, ◌<◌, ◌≡◌, List, [], ◌∷◌, get_or}
use Rattle.plan_format.specs.Format.{Form, size_of, width_of, values_from, batch_form, job_form, flight_head_form, passes_form}
use Rattle.rules.specs.declared.Batch.{Batch}
use Rattle.rules.specs.declared.Job.{Job}
use Rattle.rules.specs.declared.Passes.{Passes}

-- the figure that a head of a form states, its first number, and the order number of a flight's head
unfoldable pub figure_from : Form → List ℕ → ℕ → ℕ
figure_from head plan at = get_or (values_from head plan at) 0 0

unfoldable pub order_from : List ℕ → ℕ → ℕ
order_from plan at = get_or (values_from flight_head_form plan at) 1 0

-- a member by its values, in the order in which they are written (crate rules, specs/Plan.antt)
abbrev pub batch_of_values : List ℕ → Batch
batch_of_values values = record { last = get_or values 0 0; start = get_or values 1 0; finish = get_or values 2 0 }

abbrev pub job_of_values : List ℕ → Job
job_of_values values = record { desk = get_or values 0 0; number = get_or values 1 0; scan = get_or values 2 0; start = get_or values 3 0 }

abbrev pub passes_of_values : List ℕ → Passes
passes_of_values values = record { first = get_or values 0 0; second = get_or values 1 0 }

-- the member at an offset
unfoldable pub batch_from : List ℕ → ℕ → Batch
batch_from plan at = batch_of_values (values_from batch_form plan at)

unfoldable pub job_from : List ℕ → ℕ → Job
job_from plan at = job_of_values (values_from job_form plan at)

unfoldable pub passes_from : List ℕ → ℕ → Passes
passes_from plan at = passes_of_values (values_from passes_form plan at)

-- so many members of a size from an offset on
unfoldable pub members_from : {A : Type 0} → (List ℕ → ℕ → A) → ℕ → List ℕ → ℕ → ℕ → List A
members_from read size plan at zero = []
members_from read size plan at (suc n) = read plan at ∷ members_from read size plan (at + size) n

abbrev pub batches_from : List ℕ → ℕ → ℕ → List Batch
batches_from plan at n = members_from batch_from (size_of batch_form) plan at n

abbrev pub jobs_from : List ℕ → ℕ → ℕ → List Job
jobs_from plan at n = members_from job_from (size_of job_form) plan at n

abbrev pub blocks_from : List ℕ → ℕ → ℕ → List Passes
blocks_from plan at n = members_from passes_from (size_of passes_form) plan at n

-- members whose values fit their widths
pub record BatchFits (b : Batch) : Type 0 where
  pub last : b.last < 2 ^ (8 * width_of batch_form 0)
  pub start : b.start < 2 ^ (8 * width_of batch_form 1)
  pub finish : b.finish < 2 ^ (8 * width_of batch_form 2)

pub record JobFits (j : Job) : Type 0 where
  pub desk : j.desk < 2 ^ (8 * width_of job_form 0)
  pub number : j.number < 2 ^ (8 * width_of job_form 1)
  pub scan : j.scan < 2 ^ (8 * width_of job_form 2)
  pub start : j.start < 2 ^ (8 * width_of job_form 3)

pub record PassesFits (p : Passes) : Type 0 where
  pub first : p.first < 2 ^ (8 * width_of passes_form 0)
  pub second : p.second < 2 ^ (8 * width_of passes_form 1)

-- what reading a member answers: the member, whose values fit their widths
pub record BatchRead (plan : List ℕ) (at : ℕ) (b : Batch) : Type 0 where
  pub is : b ≡ batch_from plan at
  pub fits : BatchFits b

pub record JobRead (plan : List ℕ) (at : ℕ) (j : Job) : Type 0 where
  pub is : j ≡ job_from plan at
  pub fits : JobFits j

pub record PassesRead (plan : List ℕ) (at : ℕ) (p : Passes) : Type 0 where
  pub is : p ≡ passes_from plan at
  pub fits : PassesFits p
