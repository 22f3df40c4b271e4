-- The contract of the planner.
use Rattle.std.specs.Prelude.{◌≡◌, List, ℕ, ◌*◌, ◌≤◌, length}
use Rattle.sheet.specs.Limits.{most_desks, most_strips_of_desk, table_length}
use Rattle.sheet.specs.declared.SortingSection.{SortingSection}
use Rattle.sheet.specs.Sound.{SortingSound}
use Rattle.sorting.specs.declared.SortingPlan.{SortingPlan}
use Rattle.sorting.specs.Plan.{instance_of, least_figure, chosen_jobs, jobs_of_plan}
use Rattle.sorting.specs.Writing.{written_plan}
use Rattle.sorting_search.specs.Found as search

-- a sound section, and a working table of the length that the search takes
pub record PlanSortingPre (s : SortingSection) (table : List ℕ) : Type 0 where
  pub sound : SortingSound s
  pub size : length table ≡ table_length

-- the plan is the written one: it holds the chosen jobs and the least figure; the table keeps its length, holds what the search says of it (Used), and is the
-- caller's to clear
pub record Planned (s : SortingSection) (table after : List ℕ) (r : SortingPlan) : Type 0 where
  pub plan : r ≡ written_plan (instance_of s)
  pub figure : r.figure ≡ least_figure s
  pub jobs : jobs_of_plan r ≡ chosen_jobs s
  pub count : r.count ≡ length (chosen_jobs s)
  pub most : r.count ≤ most_desks * most_strips_of_desk
  pub size : length after ≡ length table
  pub working : search.Used (instance_of s) table after (least_figure s)
