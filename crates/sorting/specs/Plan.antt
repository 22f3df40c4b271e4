-- The least figure and the chosen jobs of a sorting section, by the search over interleavings without any cut (crate interleaving).
use Rattle.std.specs.Prelude.{List, ◌++◌, ℕ, zero, suc, ◌+◌, ◌-◌, ◌/◌, ◌%◌, ◌^◌, max, get_or}
use Rattle.base.specs.Listed.{listed}
use Rattle.sheet.specs.declared.SortingSection.{SortingSection}
use Rattle.rules.specs.Sorting.{no_job}
use Rattle.rules.specs.declared.Job.{Job}
use Rattle.interleaving.specs.declared.State.{State}
use Rattle.interleaving.specs.Search.{scanned, step_of, start_state, first_best}
use Rattle.sorting.specs.declared.SortingPlan.{SortingPlan}

-- the section as the search reads it: strips of each desk, scan times, desk times and weights
unfoldable pub instance_of : SortingSection → List ℕ
instance_of s = s.counts ++ (s.scan ++ (s.desk ++ s.weight))

-- the figure of the first best interleaving (in the literature: the least sum of weighted completion times)
unfoldable pub least_figure : SortingSection → ℕ
least_figure s = (first_best (instance_of s)).figure

-- the desk, from 1, at place i, from 0, of the scanner list of n strips that has the number p
unfoldable pub listed_desk : ℕ → ℕ → ℕ → ℕ
listed_desk p n i = p / 4 ^ (n - suc i) % 4

-- what s becomes once the desks f 0, f 1, .. f (i - 1), from 0, have each done their next strip
unfoldable pub reached : List ℕ → State → (ℕ → ℕ) → ℕ → State
reached J s f zero = s
reached J s f (suc i) = step_of J (reached J s f i) (f i)

-- the job of the next strip of desk d, from 0: it is scanned once the scanner is free, and done once it is scanned and its desk is free
unfoldable pub job_of : List ℕ → State → ℕ → Job
job_of J s d = record { desk = d + 1; number = get_or s.taken d 0 + 1; scan = s.time; start = max (get_or s.free d 0) (scanned J s d) }

-- the jobs of the scanner list that has the number p
unfoldable pub jobs_of_list : List ℕ → ℕ → List Job
jobs_of_list J p =
    listed (start_state J).left
    (λ i. job_of J (reached J (start_state J) (λ k. listed_desk p (start_state J).left k - 1) i) (listed_desk p (start_state J).left i - 1))

unfoldable pub chosen_jobs : SortingSection → List Job
chosen_jobs s = jobs_of_list (instance_of s) (first_best (instance_of s)).path

-- the jobs of a plan: the first entries of its array
unfoldable pub jobs_of_plan : SortingPlan → List Job
jobs_of_plan p = listed p.count (λ k. get_or p.jobs k no_job)
