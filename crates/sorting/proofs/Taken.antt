-- The chosen list comes before every other best list, so the chosen jobs are what is to be taken, and nothing else is.
use Rattle.std.specs.Prelude.{◌≡◌, List, ◌⊎◌, ℕ, ◌<◌, length}
use Rattle.std.proofs.Common.{sym, ◌∙◌, inl, inr, arith, ext_get_or}
use Rattle.sheet.specs.declared.SortingSection.{SortingSection}
use Rattle.sheet.specs.Sound.{SortingSound}
use Rattle.rules.specs.declared.Job.{Job}
use Rattle.rules.specs.Sorting.{no_job, job_at, SortingUnder, sorting_figure}
use Rattle.rules.specs.ScannerList.{scanner_list, SameOrAfter, SortingTaken}
use Rattle.rules_laws.specs.ScannerList.{FirstParting}
use Rattle.rules_laws.proofs.ScannerList.{same_list, same_desks, first_parting, before_one_way, same_numbers}
use Rattle.rules_laws.proofs.ScannerList.{same_job}
use Rattle.sorting.specs.Plan.{least_figure, chosen_jobs}
use Rattle.sorting.proofs.Theorems.{sorting_lawful, sorting_figure_lem, sorting_least, sorting_length, sorting_earliest, chosen_before}

-- 02, Req 03: a timetable of the least figure has the scanner list of the chosen jobs, or a list that comes after it.
pub sorting_first : {c : ℕ} (s : SortingSection) → SortingSound s → (js : List Job) → SortingUnder c s js → sorting_figure s js ≡ least_figure s
    → SameOrAfter (scanner_list js) (scanner_list (chosen_jobs s))
sorting_first s sound js law least = go (first_parting (λ i. (job_at js i).desk) (λ i. (job_at (chosen_jobs s) i).desk) (length js))
  where
    go : ((i : ℕ) → i < length js → (job_at js i).desk ≡ (job_at (chosen_jobs s) i).desk)
        ⊎ FirstParting (λ i. (job_at js i).desk) (λ i. (job_at (chosen_jobs s) i).desk) (length js)
        → SameOrAfter (scanner_list js) (scanner_list (chosen_jobs s))
    go (inl same) = inl (same_list js (chosen_jobs s) (sorting_length s sound js law) same)
    go (inr p) = inr (chosen_before s sound js law least p)

-- So the chosen jobs are what is to be taken ..
pub sorting_taken : (s : SortingSection) → SortingSound s → SortingTaken s (chosen_jobs s)
sorting_taken s sound = record {
  lawful = sorting_lawful s sound;
  best = λ ks law. omega (arith, sorting_figure_lem s sound, sorting_least s sound ks law);
  comes_first = λ ks law same. sorting_first s sound ks law (same ∙ sorting_figure_lem s sound);
  starts_early = λ ks law same i l. sorting_earliest s sound ks law same i (omega (arith, sorting_length s sound ks law));
}

-- .. and nothing else is: two timetables that are each to be taken have the same figure, so the same list, so the same starts.
pub sorting_taken_once : (s : SortingSection) → SortingSound s → (js ks : List Job) → SortingTaken s js → SortingTaken s ks → js ≡ ks
unfolding job_at
sorting_taken_once s sound js ks a b = go (a.comes_first ks b.lawful (sym figures)) (b.comes_first js a.lawful figures)
  where
    figures : sorting_figure s js ≡ sorting_figure s ks
    figures = omega (arith, a.best ks b.lawful, b.best js a.lawful)

    long : length js ≡ length ks
    long = sorting_length s sound js a.lawful ∙ sym (sorting_length s sound ks b.lawful)

    equal : scanner_list ks ≡ scanner_list js → js ≡ ks
    equal same = ext_get_or no_job js ks long (λ i l. at i l)
      where
        at : (i : ℕ) → i < length js → job_at js i ≡ job_at ks i
        at i l =
            let js_early = a.starts_early ks b.lawful same i l in
            let ks_early = b.starts_early js a.lawful (sym same) i (omega (arith, long)) in
            same_job (job_at js i) (job_at ks i) (same_desks js ks (sym same) i) (same_numbers s js ks a.lawful b.lawful long (sym same) i l)
            (omega (arith, js_early, ks_early)) (omega (arith, js_early, ks_early))

    go : SameOrAfter (scanner_list ks) (scanner_list js) → SameOrAfter (scanner_list js) (scanner_list ks) → js ≡ ks
    go (inl same) q = equal same
    go (inr p) (inl same) = equal (sym same)
    go (inr p) (inr q) = absurd (before_one_way (scanner_list js) (scanner_list ks) p q)

pub sorting_taken_only : (s : SortingSection) → SortingSound s → (js : List Job) → SortingTaken s js → js ≡ chosen_jobs s
sorting_taken_only s sound js a = sorting_taken_once s sound js (chosen_jobs s) a (sorting_taken s sound)
