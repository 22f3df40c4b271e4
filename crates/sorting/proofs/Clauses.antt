-- The contract of the planner.
use Rattle.std.specs.Prelude.{◌≡◌, refl, List, ℕ, length}
use Rattle.std.proofs.Common.{sym, ap, subst, ◌∙◌, arith}
use Rattle.sheet.specs.declared.SortingSection.{SortingSection}
use Rattle.interleaving.specs.declared.Incumbent.{Incumbent}
use Rattle.interleaving.specs.Search.{first_best, start_state}
use Rattle.sorting.specs.declared.SortingPlan.{SortingPlan}
use Rattle.sorting.specs.Plan.{instance_of, least_figure, jobs_of_list, chosen_jobs}
use Rattle.sorting.proofs.Lawful.{chosen_length}
use Rattle.sorting.proofs.Theorems.{sorting_count}
use Rattle.sorting.proofs.InstanceLaws.{instance_sound}
use Rattle.sorting.specs.Writing.{written_plan, PlanOfPre, Written}
use Rattle.sorting_search.specs.Found as search
use Rattle.sorting.specs.Clauses.{PlanSortingPre, Planned}

-- what is known once the instance is written, and once the search is done
pub search_pre : {s : SortingSection} {J M : List ℕ} → PlanSortingPre s M → J ≡ instance_of s → search.BestInterleavingPre J M
search_pre {s} {J} {M} h e = record { jobs = rw e (instance_sound s h.sound); size = h.size }

pub plan_of_pre : {s : SortingSection} {J M N : List ℕ} {b : Incumbent} → PlanSortingPre s M → J ≡ instance_of s → search.Found J M N b → PlanOfPre J b
plan_of_pre {s} {J} {M} {N} {b} h e f = record { jobs = rw e (instance_sound s h.sound); best = f.found }

chosen_is : (s : SortingSection) → chosen_jobs s ≡ jobs_of_list (instance_of s) (first_best (instance_of s)).path
unfolding chosen_jobs
chosen_is s = refl

pub planned : {s : SortingSection} {J M N : List ℕ} {b : Incumbent} {r : SortingPlan} → PlanSortingPre s M → J ≡ instance_of s → search.Found J M N b
    → Written J b r → Planned s M N r
unfolding least_figure
planned {s} {J} {M} {N} {b} {r} h e f w = record {
  plan = w.exact ∙ ap written_plan e;
  figure = w.figure ∙ least;
  jobs = w.jobs ∙ ap (λ (x : Incumbent). jobs_of_list J x.path) f.found ∙ same;
  count = count;
  most = omega (arith, count, sorting_count s h.sound);
  size = f.table.holds.size ∙ sym h.size;
  working = subst (search.Used (instance_of s) M N) least (subst (λ (x : List ℕ). search.Used x M N b.figure) e f.table);
}
  where
    least : b.figure ≡ (first_best (instance_of s)).figure
    least = ap (λ (x : Incumbent). x.figure) (f.found ∙ ap first_best e)

    count : r.count ≡ length (chosen_jobs s)
    count = w.count ∙ ap (λ (x : List ℕ). (start_state x).left) e ∙ sym (chosen_length s h.sound)

    same : jobs_of_list J (first_best J).path ≡ chosen_jobs s
    same = ap (λ (x : List ℕ). jobs_of_list x (first_best x).path) e ∙ sym (chosen_is s)
