-- Which of several best sortings is taken (02, Req 03, "Same sheet, same scanner list"). This is no rule: a timetable that obeys the rules of the sorting is
-- allowed, whatever its scanner list.
use Rattle.std.specs.Prelude.{ℕ, ◌≤◌, ◌<◌, ◌≡◌, List, [], ◌∷◌, ◌⊎◌, length, get_or}
use Rattle.sheet.specs.declared.SortingSection.{SortingSection}
use Rattle.rules.specs.declared.Job.{Job}
use Rattle.rules.specs.Sorting.{job_at, SortingLawful, sorting_figure}

-- the scanner list of a timetable: the desk of each strip, in scanner order. Which strip of the desk it is follows, since a desk's strips come in their order.
unfoldable pub scanner_list : List Job → List ℕ
scanner_list [] = []
scanner_list (j ∷ js) = j.desk ∷ scanner_list js

-- "the lower desk number at the first place where they part": the list l has it against the list m (in the literature: l is lexicographically smaller; lists of
-- one section are equally long, so neither is a beginning of the other)
pub record ComesBefore (l m : List ℕ) : Type 0 where
  pub place : ℕ
  pub in_both : (place < length l) × (place < length m)
  pub same : (i : ℕ) → i < place → get_or l i 0 ≡ get_or m i 0
  pub lower : get_or l place 0 < get_or m place 0

-- m is l, or comes after it
abbrev pub SameOrAfter : List ℕ → List ℕ → Type 0
SameOrAfter m l = (m ≡ l) ⊎ ComesBefore l m

-- what is asked of the sorting that is taken, against every timetable of the section
pub record SortingTaken (s : SortingSection) (js : List Job) : Type 0 where
  pub lawful : SortingLawful s js
  -- "Among best sorting plans": no timetable has a smaller figure
  pub best : (ks : List Job) → SortingLawful s ks → sorting_figure s js ≤ sorting_figure s ks
  -- "take the one whose scanner list has the lower desk number at the first place where they part": every list of the same figure is this one or comes after it
  pub comes_first : (ks : List Job) → SortingLawful s ks → sorting_figure s ks ≡ sorting_figure s js
      → SameOrAfter (scanner_list ks) (scanner_list js)
  -- 01: "The planner starts every mount, scan, desk job and pass as early as its batches or order allow": no timetable with the same list starts one sooner
  pub starts_early : (ks : List Job) → SortingLawful s ks → scanner_list ks ≡ scanner_list js → (i : ℕ) → i < length js
      → ((job_at js i).scan ≤ (job_at ks i).scan) × ((job_at js i).start ≤ (job_at ks i).start)
