-- The figure of a lawful sorting fits the bytes of its head.
use Rattle.std.specs.Prelude.{◌≡◌, length}
use Rattle.std.proofs.Common.{◌∙◌, arith}
use mathlib.Core.List.{List, [], ◌∷◌}
use Prim.Native.Nat.{◌+◌, ◌-◌, ◌*◌, ◌^◌, ◌≤◌, ◌<◌}
use Rattle.std.proofs.Math.Nat.{mul-le-mul}
use Rattle.sheet.specs.Limits.{ceiling, most_weight, most_desks, most_strips_of_desk}
use Rattle.sheet.specs.Sound.{SortingSound}
use Rattle.sheet.specs.declared.SortingSection.{SortingSection}
use Rattle.rules.specs.Sorting.{job_weight, desk_finish, job_at, SortingLawful, sorting_figure}
use Rattle.running.specs.Running.{none, more}
use Rattle.plan_format.specs.Format.{width_of, EachFits, sorting_head_form}
use Rattle.rules.specs.declared.Job.{Job}
use Rattle.base.specs.SumLaws.{sum_most}
use Rattle.rules_laws.proofs.Fits.{jobs_most}

module _ (s : SortingSection) (js : List Job) (sound : SortingSound s) (L : SortingLawful s js) where
  pub sorting_figure_most : sorting_figure s js ≤ most_desks * most_strips_of_desk * (most_weight * ceiling)
  unfolding sorting_figure job_weight
  sorting_figure_most =
      omega (arith, sum_most (length js) (most_weight * ceiling) (λ i. job_weight s (job_at js i) * desk_finish s (job_at js i)) (λ i l. mul-le-mul (sound.most_weight_holds _) (L.each i l).within), jobs_most s js sound L)

  pub sorting_head_fits : EachFits sorting_head_form.widths (sorting_figure s js ∷ [])
  sorting_head_fits =
      let h : sorting_figure s js < 2 ^ (8 * width_of sorting_head_form 0) = omega (arith, sorting_figure_most) in
      EachFits.more h EachFits.none
