-- The rules of the sorting (01, "The three sets of rules"; 02, Req 09, for weights). Desks, and strips within a desk, are numbered from 1; jobs are listed in
-- scanner order. In the literature: a differentiation flowshop, one machine and then a machine for each kind of job.
use Rattle.std.specs.Prelude.{ℕ, ◌+◌, ◌-◌, ◌*◌, ◌≤◌, ◌<◌, ◌≡◌, cond, List, length, get_or, eqb}
use Rattle.sheet.specs.Limits.{ceiling}
use Rattle.sheet.specs.declared.SortingSection.{SortingSection}
use Rattle.base.specs.Sums.{sum_over}
use Rattle.rules.specs.declared.Job.{Job}

-- the strips of a desk
unfoldable pub strips_of : SortingSection → ℕ → ℕ
strips_of s desk = get_or s.counts (desk - 1) 0

-- where the times and the weight of a desk's strip stand
unfoldable pub slot : ℕ → ℕ → ℕ
slot desk number = 6 * (desk - 1) + (number - 1)

unfoldable pub scan_time : SortingSection → Job → ℕ
scan_time s j = get_or s.scan (slot j.desk j.number) 0

unfoldable pub desk_time : SortingSection → Job → ℕ
desk_time s j = get_or s.desk (slot j.desk j.number) 0

-- the weight of a strip (02, Req 09)
unfoldable pub job_weight : SortingSection → Job → ℕ
job_weight s j = get_or s.weight (slot j.desk j.number) 0

unfoldable pub scan_end : SortingSection → Job → ℕ
scan_end s j = j.scan + scan_time s j

unfoldable pub desk_finish : SortingSection → Job → ℕ
desk_finish s j = j.start + desk_time s j

-- job i of a list, from 0
unfoldable pub no_job : Job
no_job = record { desk = 0; number = 0; scan = 0; start = 0 }

unfoldable pub job_at : List Job → ℕ → Job
job_at js i = get_or js i no_job

-- the jobs of a desk among the first n
unfoldable pub jobs_of : List Job → ℕ → ℕ → ℕ
jobs_of js desk n = sum_over n (λ i. cond (eqb (job_at js i).desk desk) 1 0)

-- what the rules ask of a job by itself, under the ceiling c
pub record JobUnder (c : ℕ) (s : SortingSection) (j : Job) : Type 0 where
  pub least_desk : 1 ≤ j.desk
  pub most_desk : j.desk ≤ s.desks
  -- "A desk takes its strips .. each after its scan."
  pub after_scan : scan_end s j ≤ j.start
  -- "all starts and finishes are whole numbers from 0" to the ceiling; no other start or finish of a strip is above its desk's finish
  pub within : desk_finish s j ≤ c

-- a timetable of the sorting under the ceiling c
pub record SortingUnder (c : ℕ) (s : SortingSection) (js : List Job) : Type 0 where
  pub each : (i : ℕ) → i < length js → JobUnder c s (job_at js i)
  -- "One scanner takes one strip at a time, in any interleaving that keeps each desk's order": each job is its desk's next strip, and every strip has its job
  pub in_turn : (i : ℕ) → i < length js → (job_at js i).number ≡ jobs_of js (job_at js i).desk i + 1
  pub all_strips : (desk : ℕ) → 1 ≤ desk → desk ≤ s.desks → jobs_of js desk (length js) ≡ strips_of s desk
  pub one_scan : (i j : ℕ) → i < j → j < length js → scan_end s (job_at js i) ≤ (job_at js j).scan
  -- "A desk takes its strips in order, one at a time"
  pub one_job : (i j : ℕ) → i < j → j < length js → (job_at js i).desk ≡ (job_at js j).desk → desk_finish s (job_at js i) ≤ (job_at js j).start

-- "In an allowed plan all starts and finishes are whole numbers from 0 to 10,000,000": the same under that ceiling
abbrev pub JobLawful : SortingSection → Job → Type 0
JobLawful s j = JobUnder ceiling s j

abbrev pub SortingLawful : SortingSection → List Job → Type 0
SortingLawful s js = SortingUnder ceiling s js

-- "Figure: the sum of desk finishing times over strips." 02, Req 09: "The figure becomes the sum of weight × completion." (in the literature: the sum of
-- weighted completion times)
unfoldable pub sorting_figure : SortingSection → List Job → ℕ
sorting_figure s js = sum_over (length js) (λ i. job_weight s (job_at js i) * desk_finish s (job_at js i))
