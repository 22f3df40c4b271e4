-- The rules of the sorting, by index and as they run over the jobs, say the same.
-- After the first k jobs the desks' counts are the jobs of each desk, and each free time is the least that no earlier job of that desk passes (Reached).
-- Both ways a job that follows leads on to the next such state.
use Rattle.std.specs.Prelude.{◌≡◌, List, [], ◌∷◌, ℕ, ◌+◌, ◌-◌, ◌*◌, ◌≤◌, ◌<◌}
use Rattle.std.proofs.Common.{◌∙◌}
use Rattle.sheet.specs.declared.SortingSection.{SortingSection}
use Rattle.rules.specs.Sorting.{job_weight, desk_finish}
use Rattle.rules.specs.declared.Job.{Job}

-- the figure, job by job
unfoldable pub weighted_finishes : SortingSection → List Job → ℕ
weighted_finishes s [] = 0
weighted_finishes s (j ∷ js) = job_weight s j * desk_finish s j + weighted_finishes s js
