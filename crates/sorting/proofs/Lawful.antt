-- The chosen jobs are a lawful timetable, and their figure is the least figure. Each job is read off the state that the list has reached.
use Rattle.std.specs.Prelude.{◌≡◌, List, length}
use Rattle.std.proofs.Math.Path.{refl, sym, ap, ap₂, subst}
use Rattle.std.proofs.Common.{◌∙◌, le_refl, arith}
use Prim.Native.Nat.{ℕ, zero, suc, ◌+◌, ◌-◌, ◌*◌, ◌≤◌, ◌<◌, max}
use Rattle.std.proofs.Math.Decide.{dec_lt, ℕ_discrete}
use Rattle.std.proofs.Math.ListN.{get_or}
use Rattle.sheet.specs.Limits.{most_time, most_desks, most_strips_of_desk}
use Rattle.sheet.specs.declared.SortingSection.{SortingSection}
use Rattle.sheet.specs.Sound.{SortingSound}
use Rattle.rules.specs.declared.Job.{Job}
use Rattle.base.specs.Listed.{listed_length, listed_at}
use Rattle.base.specs.Sums.{sum_over}
use Rattle.rules.specs.Sorting.{job_at, jobs_of, no_job, strips_of, job_weight, scan_end, desk_finish, SortingLawful, sorting_figure}
use Rattle.interleaving.specs.declared.State.{State}
use Rattle.interleaving.specs.Instance.{Instance, weight_of}
use Rattle.interleaving.specs.Search.{scanned, finish, step_of, start_state}
use Rattle.interleaving.proofs.SearchLaws.{max_left, max_right, max_least}
use Rattle.interleaving.specs.Consistent.{Consistent}
use Rattle.interleaving.proofs.Consistent.{consistent_start}
use Rattle.sorting.specs.Plan.{instance_of, least_figure, reached, job_of, jobs_of_list, chosen_jobs}
use Rattle.sorting.proofs.InstanceLaws.{instance_sound, scan_of_lem, desk_of_lem}
use Rattle.sorting.proofs.Route.{rises, reached_consistent, reached_left, reached_lengths, step_time, step_cost, free_same, free_other, taken_is}
use Rattle.sorting.specs.Chosen.{chosen_desk, chosen_state, Chosen}
use Rattle.sorting.proofs.Chosen.{chosen}
use Rattle.sorting.proofs.Times.{scan_time_lem, desk_time_lem, job_weight_lem, strips_of_lem, no_strips, start_taken, start_free, start_time, start_cost}
use Rattle.sorting.specs.Lawful.{latest_finish}

-- a job starts once its scan ends and its desk is free, and no later
module _ (J : List ℕ) (s : State) (d : ℕ) where
  job_after_scan : scanned J s d ≤ (job_of J s d).start
  unfolding job_of
  job_after_scan = max_right (get_or s.free d 0) (scanned J s d)

  job_after_desk : get_or s.free d 0 ≤ (job_of J s d).start
  unfolding job_of
  job_after_desk = max_left (get_or s.free d 0) (scanned J s d)

  pub job_start : (job_of J s d).start ≡ max (get_or s.free d 0) (scanned J s d)
  unfolding job_of
  job_start = refl

-- all desks of a consistent state with no strip left are through
pub all_taken : (J : List ℕ) (s : State) → Consistent J s → s.left ≡ 0 → (d : ℕ) → d < 3 → get_or s.taken d 0 ≡ get_or J d 0
all_taken J s g e zero p = omega (arith, g.left, g.within 0 p)
all_taken J s g e (suc zero) p = omega (arith, g.left, g.within 1 p)
all_taken J s g e (suc (suc zero)) p = omega (arith, g.left, g.within 2 p)
all_taken J s g e (suc (suc (suc d))) p = absurd (omega arith)

module _ (s : SortingSection) (h : SortingSound s) where
  abbrev J : List ℕ
  J = instance_of s

  abbrev N : ℕ
  N = (start_state (instance_of s)).left

  abbrev F : ℕ → ℕ
  F = chosen_desk (instance_of s)

  abbrev S : ℕ → State
  S = chosen_state (instance_of s)

  j : Instance J
  j = instance_sound s h

  way : Chosen J
  way = chosen J j

  pub chosen_length : length (chosen_jobs s) ≡ N
  unfolding chosen_jobs jobs_of_list
  chosen_length = listed_length N _

  pub chosen_at_lem : (i : ℕ) → i < N → job_at (chosen_jobs s) i ≡ job_of J (S i) (F i)
  unfolding chosen_jobs jobs_of_list job_at
  chosen_at_lem i l = listed_at N _ i no_job l

  pub desk_is : (i : ℕ) → i < N → (job_at (chosen_jobs s) i).desk ≡ F i + 1
  unfolding job_of
  desk_is i l = ap (λ (q : Job). q.desk) (chosen_at_lem i l)

  number_is : (i : ℕ) → i < N → (job_at (chosen_jobs s) i).number ≡ get_or (S i).taken (F i) 0 + 1
  unfolding job_of
  number_is i l = ap (λ (q : Job). q.number) (chosen_at_lem i l)

  pub scan_is : (i : ℕ) → i < N → (job_at (chosen_jobs s) i).scan ≡ (S i).time
  unfolding job_of
  scan_is i l = ap (λ (q : Job). q.scan) (chosen_at_lem i l)

  pub start_is : (i : ℕ) → i < N → (job_at (chosen_jobs s) i).start ≡ (job_of J (S i) (F i)).start
  start_is i l = ap (λ (q : Job). q.start) (chosen_at_lem i l)

  consistent : (i : ℕ) → i ≤ N → Consistent J (S i)
  consistent = reached_consistent J j (start_state J) (consistent_start J j) F N way.serves

  lengths : (i : ℕ) → (length (S i).free ≡ 3) × (length (S i).taken ≡ 3)
  lengths = reached_lengths J (start_state J) F (consistent_start J j).fits.frees (consistent_start J j).fits.takens

  desk_low : (i : ℕ) → i < N → F i < 3
  desk_low i l = (way.serves i l).0

  in_slot : (i : ℕ) → i < N → F i * 6 + get_or (S i).taken (F i) 0 < 18
  in_slot i l = omega (arith, way.serves i l, j.few (F i) (desk_low i l))

  scan_end_lem : (i : ℕ) → i < N → scan_end s (job_at (chosen_jobs s) i) ≡ scanned J (S i) (F i)
  unfolding scan_end
  scan_end_lem i l =
      omega (arith, scan_is i l, scan_time_lem s h (job_at (chosen_jobs s) i) (F i) (get_or (S i).taken (F i) 0) (desk_is i l) (number_is i l) (in_slot i l))

  finish_is : (i : ℕ) → i < N → desk_finish s (job_at (chosen_jobs s) i) ≡ finish J (S i) (F i)
  unfolding desk_finish
  finish_is i l =
      omega (arith, start_is i l, job_start J (S i) (F i), desk_time_lem s h (job_at (chosen_jobs s) i) (F i) (get_or (S i).taken (F i) 0) (desk_is i l) (number_is i l) (in_slot i l))

  -- the scanner's time and each desk's free time never fall
  time_next : (i : ℕ) → (S (suc i)).time ≡ scanned J (S i) (F i)
  unfolding reached
  time_next i = step_time J (S i) (F i)

  time_mono : (i k : ℕ) → i ≤ k → (S i).time ≤ (S k).time
  time_mono i k l = rises (λ x. (S x).time) k (λ x m. omega (arith, time_next x)) i k l (le_refl _)

  free_next : (i d : ℕ) → i < N → get_or (S i).free d 0 ≤ get_or (S (suc i)).free d 0
  unfolding reached
  free_next i d l = go (ℕ_discrete d (F i))
    where
      go : Dec (d ≡ F i) → get_or (S i).free d 0 ≤ get_or (step_of J (S i) (F i)).free d 0
      go (yes e) =
          subst (λ (x : ℕ). get_or (S i).free x 0 ≤ get_or (step_of J (S i) (F i)).free x 0) (sym e)
          (omega (arith, free_same J (S i) (F i) (omega (arith, lengths i, desk_low i l)), max_left (get_or (S i).free (F i) 0) (scanned J (S i) (F i))))
      go (no e) = omega (arith, free_other J (S i) (F i) d e)

  free_mono : (i k d : ℕ) → i ≤ k → k ≤ N → get_or (S i).free d 0 ≤ get_or (S k).free d 0
  free_mono i k d l m = rises (λ x. get_or (S x).free d 0) N (λ x q. free_next x d q) i k l m

  free_after : (i : ℕ) → i < N → get_or (S (suc i)).free (F i) 0 ≡ finish J (S i) (F i)
  unfolding reached
  free_after i l = free_same J (S i) (F i) (omega (arith, lengths i, desk_low i l))

  -- no time passes what the strips so far can take
  record Early (x : State) (i : ℕ) : Type 0 where
    pub time : x.time ≤ i * most_time
    pub free : (d : ℕ) → get_or x.free d 0 ≤ i * (2 * most_time)

  finish_early : (i : ℕ) → i < N → Early (S i) i → finish J (S i) (F i) ≤ suc i * (2 * most_time)
  finish_early i l e =
      let k : ℕ = get_or (S i).taken (F i) 0 in
      let scan : scanned J (S i) (F i) ≤ i * (2 * most_time) + most_time
      = omega (arith, e.time, scan_of_lem s h (F i) k (in_slot i l), h.most_scan (F i * 6 + k)) in
      let start = max_least (get_or (S i).free (F i) 0) (scanned J (S i) (F i)) (i * (2 * most_time) + most_time) (omega (arith, e.free (F i))) scan in
      omega (arith, start, desk_of_lem s h (F i) k (in_slot i l), h.most_desk (F i * 6 + k))

  early : (i : ℕ) → i ≤ N → Early (S i) i
  unfolding reached
  early zero l = record { time = omega (arith, start_time J); free = λ d. omega (arith, start_free J d) }
  early (suc i) l = next (early i (omega arith)) (omega arith)
    where
      next : Early (S i) i → i < N → Early (step_of J (S i) (F i)) (suc i)
      next e m = record {
        time =
            omega (arith, step_time J (S i) (F i), e.time, scan_of_lem s h (F i) (get_or (S i).taken (F i) 0) (in_slot i m), h.most_scan (F i * 6 + get_or (S i).taken (F i) 0));
        free = λ d. at d (ℕ_discrete d (F i));
      }
        where
          at : (d : ℕ) → Dec (d ≡ F i) → get_or (step_of J (S i) (F i)).free d 0 ≤ suc i * (2 * most_time)
          at d (yes q) =
              subst (λ (x : ℕ). get_or (step_of J (S i) (F i)).free x 0 ≤ suc i * (2 * most_time)) (sym q)
              (omega (arith, free_same J (S i) (F i) (omega (arith, lengths i, desk_low i m)), finish_early i m e))
          at d (no q) = omega (arith, free_other J (S i) (F i) d q, e.free d)

  few_strips : N ≤ most_desks * most_strips_of_desk
  few_strips = (consistent_start J j).fits.left

  pub chosen_early : (i : ℕ) → i < N → desk_finish s (job_at (chosen_jobs s) i) ≤ latest_finish
  chosen_early i l = omega (arith, finish_is i l, finish_early i l (early i (omega arith)), few_strips)

  taken : (i : ℕ) → i ≤ N → (d : ℕ) → d < 3 → get_or (S i).taken d 0 ≡ jobs_of (chosen_jobs s) (d + 1) i
  taken =
      taken_is J (start_state J) F (chosen_jobs s) N (consistent_start J j).fits.frees (consistent_start J j).fits.takens (start_taken J)
      (λ i l. (desk_is i l, desk_low i l))

  none_left : (S N).left ≡ 0
  none_left = omega (arith, reached_left J j (start_state J) (consistent_start J j) F N way.serves N (le_refl _))

  of_section : (i : ℕ) → i < N → F i + 1 ≤ s.desks
  of_section i l = go (dec_lt (F i) s.desks)
    where
      go : Dec (F i < s.desks) → F i + 1 ≤ s.desks
      go (yes p) = omega arith
      go (no p) = absurd (omega (arith, way.serves i l, no_strips s h (F i) (desk_low i l) (omega arith)))

  in_turn : (i : ℕ) → i < N → (job_at (chosen_jobs s) i).number ≡ jobs_of (chosen_jobs s) (job_at (chosen_jobs s) i).desk i + 1
  in_turn i l =
      number_is i l ∙ ap (λ (x : ℕ). x + 1) (taken i (omega arith) (F i) (desk_low i l) ∙ ap (λ (x : ℕ). jobs_of (chosen_jobs s) x i) (sym (desk_is i l)))

  all_strips : (desk : ℕ) → 1 ≤ desk → desk ≤ s.desks → jobs_of (chosen_jobs s) desk N ≡ strips_of s desk
  all_strips desk p q =
      subst (λ (x : ℕ). jobs_of (chosen_jobs s) x N ≡ strips_of s x) back
      (sym (taken N (le_refl _) (desk - 1) low) ∙ all_taken J (S N) (consistent N (le_refl _)) none_left (desk - 1) low ∙ sym (strips_of_lem s h (desk - 1) low))
    where
      back : desk - 1 + 1 ≡ desk
      back = omega arith

      low : desk - 1 < 3
      low = omega (arith, h.most_desks_holds)

  one_job : (i k : ℕ) → i < k → k < N → (job_at (chosen_jobs s) i).desk ≡ (job_at (chosen_jobs s) k).desk
      → desk_finish s (job_at (chosen_jobs s) i) ≤ (job_at (chosen_jobs s) k).start
  one_job i k l m e =
      omega (arith, finish_is i (omega arith), free_after i (omega arith), free_mono (suc i) k (F i) (omega arith) (omega arith), ap (λ (x : ℕ). get_or (S k).free x 0) same, job_after_desk J (S k) (F k), start_is k m)
    where
      same : F i ≡ F k
      same = omega (arith, desk_is i (omega arith), desk_is k m)

  pub chosen_lawful : SortingLawful s (chosen_jobs s)
  chosen_lawful = record {
    each = λ i l. record {
      least_desk = omega (arith, desk_is i (at i l));
      most_desk = omega (arith, desk_is i (at i l), of_section i (at i l));
      after_scan = omega (arith, scan_end_lem i (at i l), start_is i (at i l), job_after_scan J (S i) (F i));
      within = omega (arith, chosen_early i (at i l));
    };
    in_turn = λ i l. in_turn i (at i l);
    all_strips = λ desk p q. ap (jobs_of (chosen_jobs s) desk) chosen_length ∙ all_strips desk p q;
    one_scan = λ i k l m. omega (arith, scan_end_lem i (omega (arith, at k m)), time_next i, time_mono (suc i) k (omega arith), scan_is k (at k m));
    one_job = λ i k l m e. one_job i k l (at k m) e;
  }
    where
      at : (i : ℕ) → i < length (chosen_jobs s) → i < N
      at i l = subst (λ (n : ℕ). i < n) chosen_length l

  -- the figure is the cost that the search has summed up
  weight_is : (i : ℕ) → i < N → job_weight s (job_at (chosen_jobs s) i) ≡ weight_of J (F i) (get_or (S i).taken (F i) 0)
  weight_is i l = job_weight_lem s h (job_at (chosen_jobs s) i) (F i) (get_or (S i).taken (F i) 0) (desk_is i l) (number_is i l) (in_slot i l)

  cost_is : (i : ℕ) → i ≤ N → (S i).cost ≡ sum_over i (λ k. job_weight s (job_at (chosen_jobs s) k) * desk_finish s (job_at (chosen_jobs s) k))
  unfolding reached sum_over
  cost_is zero l = start_cost J
  cost_is (suc i) l = step_cost J (S i) (F i) ∙ next (cost_is i (omega arith)) (omega arith)
    where
      next : (S i).cost ≡ sum_over i (λ k. job_weight s (job_at (chosen_jobs s) k) * desk_finish s (job_at (chosen_jobs s) k)) → i < N
          → (S i).cost + weight_of J (F i) (get_or (S i).taken (F i) 0) * finish J (S i) (F i)
          ≡ sum_over i (λ k. job_weight s (job_at (chosen_jobs s) k) * desk_finish s (job_at (chosen_jobs s) k))
          + job_weight s (job_at (chosen_jobs s) i) * desk_finish s (job_at (chosen_jobs s) i)
      next e m = ap₂ (λ (x y : ℕ). x + y) e (sym (ap₂ (λ (x y : ℕ). x * y) (weight_is i m) (finish_is i m)))

  pub chosen_figure : sorting_figure s (chosen_jobs s) ≡ least_figure s
  unfolding sorting_figure least_figure
  chosen_figure = ap (λ (n : ℕ). sum_over n (λ k. job_weight s (job_at (chosen_jobs s) k) * desk_finish s (job_at (chosen_jobs s) k))) chosen_length ∙ sym (cost_is N (le_refl _)) ∙ way.cost
