-- Where every strip has the weight 1, the figures are those of 01: "the sum of completions over strips", and "the sum of desk finishing times over strips" (02,
-- Req 09: "A sheet of unweighted strips has the figures it had").
use Rattle.std.specs.Prelude.{ℕ, ◌+◌, ◌-◌, ◌*◌, ◌<◌, ◌≡◌, List, length, get_or}
use Rattle.std.proofs.Common.{ap, ◌∙◌, arith}
use Rattle.sheet.specs.declared.MosaicSection.{MosaicSection}
use Rattle.sheet.specs.declared.SortingSection.{SortingSection}
use Rattle.base.specs.SumLaws.{sum_same}
use Rattle.rules.specs.Mosaic.{strip_weight, mosaic_figure}
use Rattle.rules.specs.Sorting.{strips_of, slot, job_weight, job_at, SortingLawful, sorting_figure}
use Rattle.rules.specs.declared.Batch.{Batch}
use Rattle.rules.specs.declared.Job.{Job}
use Rattle.rules_laws.proofs.SortingRunning.{number_known}
use Rattle.rules_laws.specs.Unweighted.{completion_sum, finish_sum}

once : (w x : ℕ) → w ≡ 1 → w * x ≡ x
once w x e = ap (λ (n : ℕ). n * x) e ∙ omega arith

pub mosaic_unweighted : (m : MosaicSection) (bs : List Batch) → ((j : ℕ) → j < m.strips → get_or m.weight j 0 ≡ 1) → mosaic_figure m bs ≡ completion_sum m bs
unfolding mosaic_figure strip_weight completion_sum
mosaic_unweighted m bs one = sum_same m.strips _ _ (λ j l. once _ _ (ap (λ (i : ℕ). get_or m.weight i 0) (first j) ∙ one j l))
  where
    first : (j : ℕ) → j + 1 - 1 ≡ j
    first j = omega arith

pub sorting_unweighted : (s : SortingSection) (js : List Job) → SortingLawful s js → ((d k : ℕ) → k < get_or s.counts d 0 → get_or s.weight (6 * d + k) 0 ≡ 1)
    → sorting_figure s js ≡ finish_sum s js
unfolding sorting_figure job_weight slot finish_sum strips_of
sorting_unweighted s js L one =
    sum_same (length js) _ _ (λ i l. once _ _ (one ((job_at js i).desk - 1) ((job_at js i).number - 1) (omega (arith, number_known s js L i l, L.in_turn i l))))
