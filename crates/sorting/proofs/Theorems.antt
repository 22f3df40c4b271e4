-- What the planner's choice is, against the rules of the sorting (crate rules), for every sound section.
use Rattle.std.specs.Prelude.{◌≡◌, refl, List, [], ◌∷◌, ℕ, ◌*◌, ◌≤◌, ◌<◌, length, get_or}
use Rattle.std.proofs.Common.{sym, ap, ◌∙◌, arith}
use Rattle.sheet.specs.Limits.{most_desks, most_strips_of_desk}
use Rattle.sheet.specs.declared.SortingSection.{SortingSection}
use Rattle.sheet.specs.Sound.{SortingSound}
use Rattle.rules.specs.declared.Job.{Job}
use Rattle.base.specs.Sums.{sum_over}
use Rattle.base.specs.LeastFigure.{NoLarger}
use Rattle.rules.specs.Sorting.{job_at, job_weight, desk_finish, SortingUnder, SortingLawful, sorting_figure}
use Rattle.rules.specs.ScannerList.{scanner_list, ComesBefore}
use Rattle.rules_laws.specs.ScannerList.{FirstParting}
use Rattle.rules_laws.proofs.ScannerList.{list_length, list_at, same_desks}
use Rattle.interleaving.specs.Search.{start_state}
use Rattle.interleaving.proofs.Consistent.{consistent_start}
use Rattle.sorting.specs.Plan.{instance_of, least_figure, chosen_jobs}
use Rattle.sorting.proofs.InstanceLaws.{instance_sound, count_at}
use Rattle.sorting.specs.Lawful.{latest_finish}
use Rattle.sorting.proofs.Lawful.{chosen_length, chosen_early, chosen_lawful, chosen_figure}
use Rattle.sorting.proofs.Least.{lawful_least, lawful_length, lawful_later, lawful_first}

-- The chosen jobs are a timetable of the section.
pub sorting_lawful : (s : SortingSection) → SortingSound s → SortingLawful s (chosen_jobs s)
sorting_lawful s sound = chosen_lawful s sound

-- Their figure is the least figure.
pub sorting_figure_lem : (s : SortingSection) → SortingSound s → sorting_figure s (chosen_jobs s) ≡ least_figure s
sorting_figure_lem s sound = chosen_figure s sound

-- No timetable has a smaller one, with any interleaving, any idle time of scanner and desks and any ceiling.
pub sorting_least : {c : ℕ} (s : SortingSection) → SortingSound s → (js : List Job) → SortingUnder c s js → least_figure s ≤ sorting_figure s js
sorting_least s sound js law = lawful_least s sound js law

-- 02, Req 01: "for each section's timetable that would pass it there is one within it of no larger figure": for each that obeys the rules under any ceiling
pub sorting_ceiling : {c : ℕ} (s : SortingSection) → SortingSound s → (js : List Job) → SortingUnder c s js
    → NoLarger (SortingLawful s) (sorting_figure s) js
sorting_ceiling s sound js law = record {
  timetable = chosen_jobs s;
  obeys = sorting_lawful s sound;
  no_larger = omega (arith, sorting_figure_lem s sound, sorting_least s sound js law);
}

-- Every timetable has as many jobs, one for each strip.
pub sorting_length : {c : ℕ} (s : SortingSection) → SortingSound s → (js : List Job) → SortingUnder c s js → length js ≡ length (chosen_jobs s)
sorting_length s sound js law = lawful_length s sound js law ∙ sym (chosen_length s sound)

-- Each scan and each desk job starts as early as the scanner list allows: no sooner in any timetable with the same list.
pub sorting_earliest : {c : ℕ} (s : SortingSection) → SortingSound s → (js : List Job) → SortingUnder c s js → scanner_list js ≡ scanner_list (chosen_jobs s)
    → (i : ℕ) → i < length js → ((job_at (chosen_jobs s) i).scan ≤ (job_at js i).scan) × ((job_at (chosen_jobs s) i).start ≤ (job_at js i).start)
sorting_earliest s sound js law same i l = lawful_later s sound js law (λ k m. same_desks js (chosen_jobs s) same k) i l

-- where a timetable of the least figure parts from the chosen jobs first, the chosen desk has the lower number
pub chosen_before : {c : ℕ} (s : SortingSection) → SortingSound s → (js : List Job) → SortingUnder c s js → sorting_figure s js ≡ least_figure s
    → FirstParting (λ i. (job_at js i).desk) (λ i. (job_at (chosen_jobs s) i).desk) (length js) → ComesBefore (scanner_list (chosen_jobs s)) (scanner_list js)
chosen_before s sound js law least p =
    let long = sorting_length s sound js law in
    record {
      place = p.place;
      in_both = (
        omega (arith, list_length (chosen_jobs s), list_length js, long, p.within),
        omega (arith, list_length (chosen_jobs s), list_length js, long, p.within),
      );
      same = λ i l. omega (arith, list_at (chosen_jobs s) i, list_at js i, p.same i l);
      lower =
          omega (arith, list_at (chosen_jobs s) p.place, list_at js p.place, p.other, lawful_first s sound js law least p.place p.within p.same);
    }

pub sorting_count : (s : SortingSection) → SortingSound s → length (chosen_jobs s) ≤ most_desks * most_strips_of_desk
sorting_count s sound = omega (arith, chosen_length s sound, (consistent_start (instance_of s) (instance_sound s sound)).fits.left)

-- The ceiling is never met: no desk job ends later than 18 scans and 18 desk jobs take.
pub sorting_early : (s : SortingSection) → SortingSound s → (i : ℕ) → i < length (chosen_jobs s) → desk_finish s (job_at (chosen_jobs s) i) ≤ latest_finish
sorting_early s sound i l = chosen_early s sound i (omega (arith, chosen_length s sound))

-- A section without strips has figure 0 and no job.
pub sorting_absent : (s : SortingSection) → SortingSound s → ((d : ℕ) → d < 3 → get_or s.counts d 0 ≡ 0) → (least_figure s ≡ 0) × (chosen_jobs s ≡ [])
unfolding sorting_figure sum_over start_state
sorting_absent s sound none =
    (sym (sorting_figure_lem s sound) ∙ ap (λ (n : ℕ). sum_over n (λ i. job_weight s (job_at (chosen_jobs s) i) * desk_finish s (job_at (chosen_jobs s) i))) no_job_lem, empty (chosen_jobs s) no_job_lem)
  where
    no_strip : (d : ℕ) → d < 3 → get_or (instance_of s) d 0 ≡ 0
    no_strip d l = count_at s sound d l ∙ none d l

    no_job_lem : length (chosen_jobs s) ≡ 0
    no_job_lem = omega (arith, chosen_length s sound, no_strip 0 (omega arith), no_strip 1 (omega arith), no_strip 2 (omega arith))

    empty : (js : List Job) → length js ≡ 0 → js ≡ []
    empty [] e = refl
    empty (x ∷ js) e = absurd (omega arith)
