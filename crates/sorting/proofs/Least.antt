-- No timetable has a smaller figure, under any ceiling; none with the same scanner list starts anything sooner, and of those with the least figure the chosen
-- one has the first list.
-- The search's states along a timetable's own list are never later than the timetable.
use Rattle.std.specs.Prelude.{◌≡◌, List}
use Rattle.std.proofs.Common.{sym, ap, ◌∙◌, le_refl, le_trans, div-mul-le_self, le-div_iff_mul-le, arith}
use Rattle.std.proofs.Math.Path.{subst}
use Prim.Native.Nat.{ℕ, zero, suc, ◌+◌, ◌-◌, ◌*◌, ◌^◌, ◌/◌, ◌≤◌, ◌<◌, max}
use Rattle.std.proofs.Math.Nat.{mul-le-mul_left, one-le-pow}
use Rattle.std.proofs.Math.Decide.{dec_lt, ℕ_discrete}
use Rattle.std.proofs.Math.ListN.{length, get_or}
use Rattle.sheet.specs.declared.SortingSection.{SortingSection}
use Rattle.sheet.specs.Sound.{SortingSound}
use Rattle.rules.specs.declared.Job.{Job}
use Rattle.base.specs.Sums.{sum_over}
use Rattle.rules.specs.Sorting.{job_at, jobs_of, job_weight, scan_end, desk_finish, SortingUnder, sorting_figure}
use Rattle.rules_laws.proofs.SortingRunning.{jobs_same, jobs_mono}
use Rattle.interleaving.specs.declared.State.{State}
use Rattle.interleaving.specs.Instance.{Instance, scan_of, desk_of}
use Rattle.interleaving.specs.Search.{scanned, finish, step_of, start_state, no_incumbent, first_best, Completes}
use Rattle.interleaving.proofs.SearchLaws.{max_least, search_bound}
use Rattle.interleaving.specs.Consistent.{Consistent}
use Rattle.interleaving.proofs.Consistent.{consistent_start}
use Rattle.interleaving.proofs.Completion.{bound_completes, search_first, step_path}
use Rattle.sorting.specs.Plan.{instance_of, least_figure, reached, chosen_jobs}
use Rattle.sorting.proofs.InstanceLaws.{instance_sound}
use Rattle.sorting.specs.Route.{Serves}
use Rattle.sorting.proofs.Route.{reached_same, reached_next, reached_consistent, reached_left, reached_lengths, reached_rest, path_begins}
use Rattle.sorting.proofs.Route.{step_time, step_cost, free_same, free_other, taken_is}
use Rattle.sorting.specs.Chosen.{chosen_desk, chosen_state}
use Rattle.sorting.proofs.Chosen.{chosen}
use Rattle.sorting.proofs.Times.{scan_time_lem, desk_time_lem, job_weight_lem, strips_of_lem, no_strips, start_taken, start_free, start_time, start_cost}
use Rattle.sorting.proofs.Lawful.{job_start, desk_is, scan_is, start_is}

none_over : (J : List ℕ) (s : State) → Consistent J s → ((d : ℕ) → d < 3 → get_or J d 0 ≤ get_or s.taken d 0) → s.left ≡ 0
none_over J s g h = omega (arith, g.left, h 0 (omega arith), h 1 (omega arith), h 2 (omega arith))

div_mono : (a b k : ℕ) → 0 < k → a ≤ b → a / k ≤ b / k
div_mono a b k p l = (le-div_iff_mul-le p).1 (le_trans (div-mul-le_self a k) l)

module _ {c : ℕ} (s : SortingSection) (h : SortingSound s) (js : List Job) (law : SortingUnder c s js) where
  abbrev J : List ℕ
  J = instance_of s

  -- the desk, from 0, at place i of the timetable's list, and the state that its list has reached
  abbrev G : ℕ → ℕ
  G i = (job_at js i).desk - 1

  abbrev T : ℕ → State
  T = reached (instance_of s) (start_state (instance_of s)) G

  j : Instance J
  j = instance_sound s h

  desk_of_job : (i : ℕ) → i < length js → ((job_at js i).desk ≡ G i + 1) × (G i < 3)
  desk_of_job i l = (omega (arith, (law.each i l).least_desk), omega (arith, (law.each i l).least_desk, (law.each i l).most_desk, h.most_desks_holds))

  taken : (i : ℕ) → i ≤ length js → (d : ℕ) → d < 3 → get_or (T i).taken d 0 ≡ jobs_of js (d + 1) i
  taken = taken_is J (start_state J) G js (length js) (consistent_start J j).fits.frees (consistent_start J j).fits.takens (start_taken J) desk_of_job

  all_of : (d : ℕ) → d < 3 → d < s.desks → jobs_of js (d + 1) (length js) ≡ get_or J d 0
  all_of d p l = law.all_strips (d + 1) (omega arith) (omega arith) ∙ strips_of_lem s h d p

  serves : Serves J (start_state J) G (length js)
  serves i l = (
    (desk_of_job i l).1,
    omega (arith, taken i (omega arith) (G i) (desk_of_job i l).1, jobs_same js (G i + 1) i (desk_of_job i l).0, later i l, all_of (G i) (desk_of_job i l).1 (omega (arith, (law.each i l).least_desk, (law.each i l).most_desk))),
  )
    where
      later : (i : ℕ) → i < length js → jobs_of js (G i + 1) (suc i) ≤ jobs_of js (G i + 1) (length js)
      later i l = subst (λ (n : ℕ). jobs_of js (G i + 1) (suc i) ≤ jobs_of js (G i + 1) n) there (jobs_mono js (G i + 1) (suc i) (length js - suc i))
        where
          there : suc i + (length js - suc i) ≡ length js
          there = omega arith

  consistent : (i : ℕ) → i ≤ length js → Consistent J (T i)
  consistent = reached_consistent J j (start_state J) (consistent_start J j) G (length js) serves

  none_left : (T (length js)).left ≡ 0
  none_left = none_over J (T (length js)) (consistent (length js) (le_refl _)) (λ d p. at d p (dec_lt d s.desks))
    where
      at : (d : ℕ) → d < 3 → Dec (d < s.desks) → get_or J d 0 ≤ get_or (T (length js)).taken d 0
      at d p (yes l) = omega (arith, taken (length js) (le_refl _) d p, all_of d p l)
      at d p (no l) = omega (arith, no_strips s h d p (omega arith))

  pub lawful_length : length js ≡ (start_state J).left
  lawful_length = omega (arith, reached_left J j (start_state J) (consistent_start J j) G (length js) serves (length js) (le_refl _), none_left)

  completes : Completes J (start_state J).left (start_state J) (T (length js))
  unfolding reached
  completes =
      subst (λ (k : ℕ). Completes J k (start_state J) (T (length js))) lawful_length
      (reached_rest J (start_state J) G (length js) serves (length js) 0 (omega arith))

  lengths : (i : ℕ) → (length (T i).free ≡ 3) × (length (T i).taken ≡ 3)
  lengths = reached_lengths J (start_state J) G (consistent_start J j).fits.frees (consistent_start J j).fits.takens

  number_is : (i : ℕ) → i < length js → (job_at js i).number ≡ get_or (T i).taken (G i) 0 + 1
  number_is i l =
      law.in_turn i l ∙ ap (λ (x : ℕ). x + 1) (ap (λ (x : ℕ). jobs_of js x i) (desk_of_job i l).0 ∙ sym (taken i (omega arith) (G i) (desk_of_job i l).1))

  in_slot : (i : ℕ) → i < length js → G i * 6 + get_or (T i).taken (G i) 0 < 18
  in_slot i l = omega (arith, serves i l, j.few (G i) (desk_of_job i l).1)

  scan_end_lem : (i : ℕ) → i < length js → scan_end s (job_at js i) ≡ (job_at js i).scan + scan_of J (G i) (get_or (T i).taken (G i) 0)
  unfolding scan_end
  scan_end_lem i l = omega (arith, scan_time_lem s h (job_at js i) (G i) (get_or (T i).taken (G i) 0) (desk_of_job i l).0 (number_is i l) (in_slot i l))

  finish_of_lem : (i : ℕ) → i < length js → desk_finish s (job_at js i) ≡ (job_at js i).start + desk_of J (G i) (get_or (T i).taken (G i) 0)
  unfolding desk_finish
  finish_of_lem i l = omega (arith, desk_time_lem s h (job_at js i) (G i) (get_or (T i).taken (G i) 0) (desk_of_job i l).0 (number_is i l) (in_slot i l))

  -- the state is no later than the timetable's jobs from i on
  record Ahead (x : State) (i : ℕ) : Type 0 where
    pub time : (k : ℕ) → i ≤ k → k < length js → x.time ≤ (job_at js k).scan
    pub free : (k : ℕ) → i ≤ k → k < length js → get_or x.free (G k) 0 ≤ (job_at js k).start
    pub cost : x.cost ≤ sum_over i (λ k. job_weight s (job_at js k) * desk_finish s (job_at js k))

  start_ahead : (i : ℕ) → i < length js → Ahead (T i) i → max (get_or (T i).free (G i) 0) (scanned J (T i) (G i)) ≤ (job_at js i).start
  start_ahead i l a =
      max_least (get_or (T i).free (G i) 0) (scanned J (T i) (G i)) (job_at js i).start (a.free i (le_refl _) l)
      (omega (arith, a.time i (le_refl _) l, scan_end_lem i l, (law.each i l).after_scan))

  finish_ahead : (i : ℕ) → i < length js → Ahead (T i) i → finish J (T i) (G i) ≤ desk_finish s (job_at js i)
  finish_ahead i l a = omega (arith, start_ahead i l a, finish_of_lem i l)

  ahead : (i : ℕ) → i ≤ length js → Ahead (T i) i
  unfolding reached sum_over
  ahead zero l = record {
    time = λ k p q. omega (arith, start_time J);
    free = λ k p q. omega (arith, start_free J (G k));
    cost = omega (arith, start_cost J);
  }
  ahead (suc i) l = next (ahead i (omega arith)) (omega arith)
    where
      next : Ahead (T i) i → i < length js → Ahead (step_of J (T i) (G i)) (suc i)
      next a m = record {
        time = λ k p q. omega (arith, step_time J (T i) (G i), a.time i (le_refl _) m, scan_end_lem i m, law.one_scan i k (omega arith) q);
        free = λ k p q. at k p q (ℕ_discrete (G k) (G i));
        cost =
            rw (step_cost J (T i) (G i), ← job_weight_lem s h (job_at js i) (G i) (get_or (T i).taken (G i) 0) (desk_of_job i m).0 (number_is i m) (in_slot i m))
            (omega (arith, a.cost, mul-le-mul_left (job_weight s (job_at js i)) (finish_ahead i m a)));
      }
        where
          at : (k : ℕ) → suc i ≤ k → k < length js → Dec (G k ≡ G i) → get_or (step_of J (T i) (G i)).free (G k) 0 ≤ (job_at js k).start
          at k p q (yes e) =
              subst (λ (x : ℕ). get_or (step_of J (T i) (G i)).free x 0 ≤ (job_at js k).start) (sym e)
              (omega (arith, free_same J (T i) (G i) (omega (arith, lengths i, desk_of_job i m)), finish_ahead i m a, law.one_job i k (omega arith) q (omega (arith, desk_of_job i m, desk_of_job k q))))
          at k p q (no e) = omega (arith, free_other J (T i) (G i) (G k) e, a.free k (omega arith) q)

  cost_ahead : (T (length js)).cost ≤ sorting_figure s js
  unfolding sorting_figure
  cost_ahead = (ahead (length js) (le_refl _)).cost

  below : least_figure s ≤ (T (length js)).cost
  unfolding least_figure first_best
  below = bound_completes J (start_state J).left (start_state J) _ (search_bound J (start_state J).left (start_state J) no_incumbent) (T (length js)) completes

  pub lawful_least : least_figure s ≤ sorting_figure s js
  lawful_least = le_trans below cost_ahead

  -- the same desks up to place i reach the same state
  same_state : (i : ℕ) → i ≤ length js → ((k : ℕ) → k < i → (job_at js k).desk ≡ (job_at (chosen_jobs s) k).desk) → T i ≡ chosen_state J i
  same_state i l same = reached_same J (start_state J) G (chosen_desk J) i (λ k m. at k m (same k m))
    where
      at : (k : ℕ) → k < i → (job_at js k).desk ≡ (job_at (chosen_jobs s) k).desk → G k ≡ chosen_desk J k
      at k m e = omega (arith, desk_is s h k (omega (arith, lawful_length)))

  module _ (same : (i : ℕ) → i < length js → (job_at js i).desk ≡ (job_at (chosen_jobs s) i).desk) (i : ℕ) (l : i < length js) where
    state : T i ≡ chosen_state J i
    state = same_state i (omega arith) (λ k m. same k (omega arith))

    desk : G i ≡ chosen_desk J i
    desk = omega (arith, same i l, desk_is s h i (omega (arith, lawful_length)))

    pub lawful_later : ((job_at (chosen_jobs s) i).scan ≤ (job_at js i).scan) × ((job_at (chosen_jobs s) i).start ≤ (job_at js i).start)
    lawful_later = (
      omega (arith, scan_is s h i (omega (arith, lawful_length)), ap (λ (x : State). x.time) state, (ahead i (omega arith)).time i (le_refl _) l),
      omega (arith, start_is s h i (omega (arith, lawful_length)), job_start J (chosen_state J i) (chosen_desk J i), ap (λ (x : State). max (get_or x.free (G i) 0) (scanned J x (G i))) state, ap (λ (d : ℕ). max (get_or (chosen_state J i).free d 0) (scanned J (chosen_state J i) d)) desk, start_ahead i l (ahead i (omega arith))),
    )

  module _ (least : sorting_figure s js ≡ least_figure s) where
    -- the chosen list's number is no more than that of this list
    first : (first_best J).path ≤ (T (length js)).path
    unfolding first_best least_figure
    first = search_first J (start_state J).left (start_state J) no_incumbent (omega arith) (T (length js)) completes (omega (arith, below, cost_ahead, least))

    module _ (i : ℕ) (l : i < length js) (same : (k : ℕ) → k < i → (job_at js k).desk ≡ (job_at (chosen_jobs s) k).desk) where
      -- the digits behind place i cut off
      begins : (chosen_state J (suc i)).path ≤ (T (suc i)).path
      begins =
          omega (arith, path_begins J (start_state J) (chosen_desk J) (start_state J).left (chosen J j).serves (suc i) (omega (arith, lawful_length)), path_begins J (start_state J) G (length js) serves (suc i) (omega arith), shorter)
        where
          whole : (chosen_state J (start_state J).left).path ≤ (T (length js)).path
          whole = omega (arith, first, (chosen J j).path)

          shorter : (chosen_state J (start_state J).left).path / 4 ^ ((start_state J).left - suc i) ≤ (T (length js)).path / 4 ^ (length js - suc i)
          shorter =
              subst (λ (n : ℕ). (chosen_state J (start_state J).left).path / 4 ^ (n - suc i) ≤ (T (length js)).path / 4 ^ (length js - suc i)) lawful_length
              (div_mono (chosen_state J (start_state J).left).path (T (length js)).path (4 ^ (length js - suc i)) (one-le-pow (length js - suc i) 4 (omega arith)) whole)

      pub lawful_first : (job_at (chosen_jobs s) i).desk ≤ (job_at js i).desk
      lawful_first =
          omega (arith, begins, desk_is s h i (omega (arith, lawful_length)), desk_of_job i l, ap (λ (x : State). x.path) (reached_next J (start_state J) (chosen_desk J) i), ap (λ (x : State). x.path) (reached_next J (start_state J) G i), step_path J (chosen_state J i) (chosen_desk J i), step_path J (T i) (G i), ap (λ (x : State). x.path) (same_state i (omega arith) same))
