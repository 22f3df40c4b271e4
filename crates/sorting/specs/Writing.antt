-- How the plan is written: one job after another, each from the state that the list has reached.
use Rattle.std.specs.Prelude.{◌≡◌, ℕ, zero, suc, ◌+◌, ◌≤◌, length, set, take, replicate}
use mathlib.Core.List.{List}
use Rattle.base.specs.Listed.{listed}
use Rattle.rules.specs.Sorting.{no_job}
use Rattle.rules.specs.declared.Job.{Job}
use Rattle.interleaving.specs.declared.State.{State}
use Rattle.interleaving.specs.declared.Incumbent.{Incumbent}
use Rattle.interleaving.specs.Instance.{Instance}
use Rattle.interleaving.specs.Search.{start_state, first_best}
use Rattle.interleaving.specs.Caps.{StepPre, StepCapped}
use Rattle.sorting.specs.declared.SortingPlan.{SortingPlan}
use Rattle.sorting.specs.Plan.{job_of, jobs_of_list, jobs_of_plan}
use Rattle.sorting.specs.Chosen.{chosen_desk, chosen_state}

-- a plan with one more job
unfoldable pub with_job : List ℕ → State → ℕ → SortingPlan → SortingPlan
with_job J s d p = record { figure = p.figure; count = p.count + 1; jobs = set p.jobs p.count (job_of J s d) }

-- the plan of the chosen list with its first i jobs written, and with all of them
unfoldable pub written_to : List ℕ → ℕ → SortingPlan
written_to J zero = record { figure = (first_best J).figure; count = 0; jobs = replicate 18 no_job }
written_to J (suc i) = with_job J (chosen_state J i) (chosen_desk J i) (written_to J i)

abbrev pub written_plan : List ℕ → SortingPlan
written_plan J = written_to J (start_state J).left

pub record NextJobPre (J : List ℕ) (s : State) (d : ℕ) : Type 0 where
  pub serves : StepPre J s d
  pub capped : StepCapped J s d

-- what the plan's writer asks and gives
pub record PlanOfPre (J : List ℕ) (b : Incumbent) : Type 0 where
  pub jobs : Instance J
  pub best : b ≡ first_best J

pub record Written (J : List ℕ) (b : Incumbent) (r : SortingPlan) : Type 0 where
  pub exact : r ≡ written_plan J
  pub figure : r.figure ≡ b.figure
  pub jobs : jobs_of_plan r ≡ jobs_of_list J b.path
  pub count : r.count ≡ (start_state J).left

-- job i of the chosen list
abbrev pub chosen_job : List ℕ → ℕ → Job
chosen_job J i = job_of J (chosen_state J i) (chosen_desk J i)

-- the loop
pub record Begun (J : List ℕ) (b : Incumbent) (p : SortingPlan) (s : State) : Type 0 where
  pub jobs : Instance J
  pub best : b ≡ first_best J
  pub within : p.count ≤ (start_state J).left
  pub state : s ≡ chosen_state J p.count
  pub exact : p ≡ written_to J p.count
  pub sized : length p.jobs ≡ 18
  pub figure : p.figure ≡ b.figure
  pub listed : take p.count p.jobs ≡ listed p.count (chosen_job J)
