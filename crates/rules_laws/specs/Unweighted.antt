-- Where every strip has the weight 1, the figures are those of 01: "the sum of completions over strips", and "the sum of desk finishing times over strips" (02,
-- Req 09: "A sheet of unweighted strips has the figures it had").
use Rattle.std.specs.Prelude.{ℕ, ◌+◌, ◌-◌, ◌*◌, ◌<◌, ◌≡◌, List, length}
use Rattle.std.proofs.Common.{◌∙◌}
use Rattle.sheet.specs.declared.MosaicSection.{MosaicSection}
use Rattle.sheet.specs.declared.SortingSection.{SortingSection}
use Rattle.base.specs.Sums.{sum_over}
use Rattle.rules.specs.Mosaic.{completion}
use Rattle.rules.specs.Sorting.{desk_finish, job_at}
use Rattle.rules.specs.declared.Batch.{Batch}
use Rattle.rules.specs.declared.Job.{Job}

-- 01: "Figure: the sum of completions over strips."
unfoldable pub completion_sum : MosaicSection → List Batch → ℕ
completion_sum m bs = sum_over m.strips (λ j. completion bs (j + 1))

-- 01: "Figure: the sum of desk finishing times over strips."
unfoldable pub finish_sum : SortingSection → List Job → ℕ
finish_sum s js = sum_over (length js) (λ i. desk_finish s (job_at js i))
