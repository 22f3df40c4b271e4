-- The rules of the sorting, by index and as they run over the jobs, say the same.
-- After the first k jobs the desks' counts are the jobs of each desk, and each free time is the least that no earlier job of that desk passes (Reached).
-- Both ways a job that follows leads on to the next such state.
use Rattle.std.specs.Prelude.{◌≡◌, Bool, cond, List, [], ◌∷◌, ℕ, zero, suc, ◌+◌, ◌-◌, ◌*◌, ◌≤◌, ◌<◌, length, get_or, eqb}
use Rattle.std.proofs.Math.Path.{refl, ap}
use Rattle.std.proofs.Common.{sym, subst, ◌∙◌, le_refl, le_trans, eq-eqb, ne_eqb}
use Rattle.std.proofs.Math.Decide.{ℕ_discrete}
use native.Mathlib.Omega.{arith}
use Rattle.std.proofs.Math.ListN.{length-set}
use Rattle.std.proofs.Math.Seq.{get_or-set_same, get_or-set_other}
use Rattle.sheet.specs.declared.SortingSection.{SortingSection}
use Rattle.sheet.specs.Sound.{SortingSound}
use Rattle.base.specs.Sums.{sum_over}
use Rattle.rules.specs.Sorting.{strips_of, job_weight, scan_end, desk_finish, no_job, job_at, jobs_of, SortingLawful, sorting_figure}
use Rattle.running.specs.Running.{JobFollows, free_desks, after_job, AllDone, SortingRuns, none, more}
use Rattle.rules.specs.declared.Job.{Job}
use Rattle.running.specs.declared.Desks.{Desks}
use Rattle.base.specs.SumLaws.{sum_first}
use Rattle.rules_laws.specs.SortingRunning.{weighted_finishes}

-- the jobs of a desk, one job more
pub jobs_same : (js : List Job) (desk i : ℕ) → (job_at js i).desk ≡ desk → jobs_of js desk (suc i) ≡ jobs_of js desk i + 1
unfolding jobs_of sum_over
jobs_same js desk i e = ap (λ (b : Bool). sum_over i (λ k. cond (eqb (job_at js k).desk desk) 1 0) + cond b 1 0) (eq-eqb (job_at js i).desk desk e)

pub jobs_other : (js : List Job) (desk i : ℕ) → ((job_at js i).desk ≡ desk → ⊥) → jobs_of js desk (suc i) ≡ jobs_of js desk i
unfolding jobs_of sum_over
jobs_other js desk i n = ap (λ (b : Bool). sum_over i (λ k. cond (eqb (job_at js k).desk desk) 1 0) + cond b 1 0) (ne_eqb (job_at js i).desk desk n) ∙ none_more
  where
    none_more : sum_over i (λ k. cond (eqb (job_at js k).desk desk) 1 0) + 0 ≡ sum_over i (λ k. cond (eqb (job_at js k).desk desk) 1 0)
    none_more = omega arith

jobs_next : (js : List Job) (desk i : ℕ) → jobs_of js desk i ≤ jobs_of js desk (suc i)
jobs_next js desk i = go (ℕ_discrete (job_at js i).desk desk)
  where
    go : Dec ((job_at js i).desk ≡ desk) → jobs_of js desk i ≤ jobs_of js desk (suc i)
    go (yes e) = omega (arith, jobs_same js desk i e)
    go (no e) = omega (arith, jobs_other js desk i e)

pub jobs_mono : (js : List Job) (desk i d : ℕ) → jobs_of js desk i ≤ jobs_of js desk (i + d)
jobs_mono js desk i zero = ap_le (omega arith)
  where
    ap_le : i ≡ i + 0 → jobs_of js desk i ≤ jobs_of js desk (i + 0)
    ap_le e = subst (λ (n : ℕ). jobs_of js desk i ≤ jobs_of js desk n) e (le_refl _)
jobs_mono js desk i (suc d) = subst (λ (n : ℕ). jobs_of js desk i ≤ jobs_of js desk n) next (le_trans (jobs_mono js desk i d) (jobs_next js desk (i + d)))
  where
    next : suc (i + d) ≡ i + suc d
    next = omega arith

-- the desks and the scanner after the first k jobs
record Reached (s : SortingSection) (js : List Job) (k : ℕ) (d : Desks) : Type 0 where
  pub done_length : length d.done ≡ 3
  pub free_length : length d.free ≡ 3
  pub done : (desk : ℕ) → desk < 3 → get_or d.done desk 0 ≡ jobs_of js (desk + 1) k
  pub free_above : (i desk : ℕ) → i < k → (job_at js i).desk ≡ desk + 1 → desk_finish s (job_at js i) ≤ get_or d.free desk 0
  pub free_least : (desk t : ℕ) → desk < 3 → ((i : ℕ) → i < k → (job_at js i).desk ≡ desk + 1 → desk_finish s (job_at js i) ≤ t) → get_or d.free desk 0 ≤ t
  pub scanner_above : (i : ℕ) → i < k → scan_end s (job_at js i) ≤ d.scanner
  pub scanner_least : (t : ℕ) → ((i : ℕ) → i < k → scan_end s (job_at js i) ≤ t) → d.scanner ≤ t

none_free : (desk : ℕ) → desk < 3 → ◌≡◌ {A = ℕ} (get_or (0 ∷ 0 ∷ 0 ∷ []) desk 0) 0
none_free zero l = refl
none_free (suc zero) l = refl
none_free (suc (suc zero)) l = refl
none_free (suc (suc (suc d))) l = absurd (omega arith)

module _ (s : SortingSection) (js : List Job) where
  first : (i : ℕ) → job_at js (0 + i) ≡ get_or js i no_job
  unfolding job_at
  first i = ap (job_at js) (omega arith)

  reached_none : Reached s js 0 free_desks
  unfolding free_desks jobs_of sum_over
  reached_none = record {
    done_length = refl;
    free_length = refl;
    done = λ desk l. none_free desk l;
    free_above = λ i desk l e. absurd (omega arith);
    free_least = λ desk t l h. omega (arith, none_free desk l);
    scanner_above = λ i l. absurd (omega arith);
    scanner_least = λ t h. omega arith;
  }

  module _ (k : ℕ) (d : Desks) (r : Reached s js k d) (j : Job) (at : job_at js k ≡ j) (f : JobFollows s d j) (few : j.desk < 4) where
    slot_low : j.desk - 1 < 3
    slot_low = omega (arith, f.lawful.least_desk)

    slot_back : j.desk - 1 + 1 ≡ j.desk
    slot_back = omega (arith, f.lawful.least_desk)

    desk_at : (job_at js k).desk ≡ j.desk
    desk_at = ap (λ (x : Job). x.desk) at

    finish_at : desk_finish s (job_at js k) ≡ desk_finish s j
    finish_at = ap (desk_finish s) at

    finish_later : j.start ≤ desk_finish s j
    unfolding desk_finish
    finish_later = omega arith

    scan_later : j.scan ≤ scan_end s j
    unfolding scan_end
    scan_later = omega arith

    free_same : get_or (after_job s d j).free (j.desk - 1) 0 ≡ desk_finish s j
    unfolding after_job
    free_same = get_or-set_same d.free (j.desk - 1) (desk_finish s j) 0 (omega (arith, slot_low, r.free_length))

    free_other : (desk : ℕ) → (desk ≡ j.desk - 1 → ⊥) → get_or (after_job s d j).free desk 0 ≡ get_or d.free desk 0
    unfolding after_job
    free_other desk n = get_or-set_other d.free (j.desk - 1) desk (desk_finish s j) 0 n

    done_same : get_or (after_job s d j).done (j.desk - 1) 0 ≡ j.number
    unfolding after_job
    done_same = get_or-set_same d.done (j.desk - 1) j.number 0 (omega (arith, slot_low, r.done_length))

    done_other : (desk : ℕ) → (desk ≡ j.desk - 1 → ⊥) → get_or (after_job s d j).done desk 0 ≡ get_or d.done desk 0
    unfolding after_job
    done_other desk n = get_or-set_other d.done (j.desk - 1) desk j.number 0 n

    lengths : (length (after_job s d j).done ≡ 3) × (length (after_job s d j).free ≡ 3)
    unfolding after_job
    lengths = (length-set d.done (j.desk - 1) j.number ∙ r.done_length, length-set d.free (j.desk - 1) (desk_finish s j) ∙ r.free_length)

    scanner_is : (after_job s d j).scanner ≡ scan_end s j
    unfolding after_job
    scanner_is = refl

    done_next : (desk : ℕ) → desk < 3 → get_or (after_job s d j).done desk 0 ≡ jobs_of js (desk + 1) (suc k)
    done_next desk l = go (ℕ_discrete desk (j.desk - 1))
      where
        go : Dec (desk ≡ j.desk - 1) → get_or (after_job s d j).done desk 0 ≡ jobs_of js (desk + 1) (suc k)
        go (yes e) =
            subst (λ (x : ℕ). get_or (after_job s d j).done x 0 ≡ jobs_of js (x + 1) (suc k)) (sym e)
            (omega (arith, done_same, f.in_turn, r.done (j.desk - 1) slot_low, jobs_same js (j.desk - 1 + 1) k (desk_at ∙ sym slot_back)))
        go (no n) = omega (arith, done_other desk n, r.done desk l, jobs_other js (desk + 1) k (λ e. n (omega (arith, desk_at, e))))

    -- a job so far is the new one or an earlier one
    free_above_next : (i desk : ℕ) → i < suc k → (job_at js i).desk ≡ desk + 1 → desk_finish s (job_at js i) ≤ get_or (after_job s d j).free desk 0
    free_above_next i desk l e = go (ℕ_discrete i k) (ℕ_discrete desk (j.desk - 1))
      where
        earlier : i < k → Dec (desk ≡ j.desk - 1) → desk_finish s (job_at js i) ≤ get_or (after_job s d j).free desk 0
        earlier h (yes q) =
            subst (λ (x : ℕ). desk_finish s (job_at js i) ≤ get_or (after_job s d j).free x 0) (sym q)
            (omega (arith, free_same, finish_later, f.one_job, r.free_above i (j.desk - 1) h (e ∙ ap (λ (x : ℕ). x + 1) q)))
        earlier h (no n) = omega (arith, free_other desk n, r.free_above i desk h e)

        go : Dec (i ≡ k) → Dec (desk ≡ j.desk - 1) → desk_finish s (job_at js i) ≤ get_or (after_job s d j).free desk 0
        go (yes p) (yes q) =
            subst (λ (x : ℕ). desk_finish s (job_at js i) ≤ get_or (after_job s d j).free x 0) (sym q)
            (omega (arith, free_same, finish_at, ap (λ (x : ℕ). desk_finish s (job_at js x)) p))
        go (yes p) (no n) = absurd (n (omega (arith, desk_at, e, ap (λ (x : ℕ). (job_at js x).desk) p)))
        go (no p) q = earlier (omega arith) q

    free_least_next : (desk t : ℕ) → desk < 3 → ((i : ℕ) → i < suc k → (job_at js i).desk ≡ desk + 1 → desk_finish s (job_at js i) ≤ t)
        → get_or (after_job s d j).free desk 0 ≤ t
    free_least_next desk t l h = go (ℕ_discrete desk (j.desk - 1))
      where
        go : Dec (desk ≡ j.desk - 1) → get_or (after_job s d j).free desk 0 ≤ t
        go (yes q) =
            subst (λ (x : ℕ). get_or (after_job s d j).free x 0 ≤ t) (sym q)
            (omega (arith, free_same, finish_at, h k (omega arith) (desk_at ∙ sym slot_back ∙ ap (λ (x : ℕ). x + 1) (sym q))))
        go (no n) = omega (arith, free_other desk n, r.free_least desk t l (λ i p e. h i (omega arith) e))

    scanner_above_next : (i : ℕ) → i < suc k → scan_end s (job_at js i) ≤ (after_job s d j).scanner
    scanner_above_next i l = go (ℕ_discrete i k)
      where
        go : Dec (i ≡ k) → scan_end s (job_at js i) ≤ (after_job s d j).scanner
        go (yes p) = omega (arith, scanner_is, ap (λ (x : ℕ). scan_end s (job_at js x)) p, ap (scan_end s) at)
        go (no p) = omega (arith, scanner_is, scan_later, f.one_scan, r.scanner_above i (omega arith))

    reached_next : Reached s js (suc k) (after_job s d j)
    reached_next = record {
      done_length = lengths.0;
      free_length = lengths.1;
      done = done_next;
      free_above = free_above_next;
      free_least = free_least_next;
      scanner_above = scanner_above_next;
      scanner_least = λ t h. omega (arith, scanner_is, ap (scan_end s) at, h k (omega arith));
    }

  -- a job's number is that of one of its desk's strips
  pub number_known : SortingLawful s js → (k : ℕ) → k < length js → (job_at js k).number ≤ strips_of s (job_at js k).desk
  number_known L k l =
      omega (arith, L.in_turn k l, jobs_same js (job_at js k).desk k refl, rest, L.all_strips (job_at js k).desk (L.each k l).least_desk (L.each k l).most_desk)
    where
      all : suc k + (length js - suc k) ≡ length js
      all = omega arith

      rest : jobs_of js (job_at js k).desk (suc k) ≤ jobs_of js (job_at js k).desk (length js)
      rest =
          subst (λ (n : ℕ). jobs_of js (job_at js k).desk (suc k) ≤ jobs_of js (job_at js k).desk n) all
          (jobs_mono js (job_at js k).desk (suc k) (length js - suc k))

  -- a lawful job follows where the earlier ones have led
  module _ (sound : SortingSound s) (L : SortingLawful s js) where
    lawful_follows : (k : ℕ) (d : Desks) → Reached s js k d → k < length js → JobFollows s d (job_at js k)
    lawful_follows k d r l = record {
      lawful = L.each k l;
      in_turn = L.in_turn k l ∙ ap (λ (x : ℕ). x + 1) (sym done_is);
      known = number_known L k l;
      one_scan = r.scanner_least (job_at js k).scan (λ i p. L.one_scan i k p l);
      one_job = r.free_least ((job_at js k).desk - 1) (job_at js k).start low (λ i p e. L.one_job i k p l (e ∙ back));
    }
      where
        least : 1 ≤ (job_at js k).desk
        least = (L.each k l).least_desk

        most : (job_at js k).desk ≤ s.desks
        most = (L.each k l).most_desk

        low : (job_at js k).desk - 1 < 3
        low = omega (arith, least, most, sound.most_desks_holds)

        back : (job_at js k).desk - 1 + 1 ≡ (job_at js k).desk
        back = omega (arith, least)

        done_is : get_or d.done ((job_at js k).desk - 1) 0 ≡ jobs_of js (job_at js k).desk k
        done_is = r.done ((job_at js k).desk - 1) low ∙ ap (λ (x : ℕ). jobs_of js x k) back

    lawful_done : (d : Desks) → Reached s js (length js) d → AllDone s d
    lawful_done d r =
        record {
          all =
              λ desk p q. r.done (desk - 1) (omega (arith, sound.most_desks_holds)) ∙ ap (λ (x : ℕ). jobs_of js x (length js)) (omega arith) ∙ L.all_strips desk p q;
        }

    run_from : (rest : List Job) (k : ℕ) (d : Desks) → length js ≡ k + length rest → ((i : ℕ) → i < length rest → job_at js (k + i) ≡ get_or rest i no_job)
        → Reached s js k d → SortingRuns s d rest
    run_from [] k d e h r = none (lawful_done d (subst (λ (n : ℕ). Reached s js n d) (omega arith) r))
    run_from (j ∷ rest) k d e h r =
        more f
        (run_from rest (suc k) (after_job s d j) (omega arith) (λ i l. later i l) (reached_next k d r j at f (omega (arith, f.lawful.most_desk, sound.most_desks_holds))))
      where
        at : job_at js k ≡ j
        at = ap (job_at js) (omega arith) ∙ h 0 (omega arith)

        f : JobFollows s d j
        f = subst (JobFollows s d) at (lawful_follows k d r (omega arith))

        later : (i : ℕ) → i < length rest → job_at js (suc k + i) ≡ get_or rest i no_job
        later i l = ap (job_at js) (omega arith) ∙ h (suc i) (omega arith)

    pub lawful_runs : SortingRuns s free_desks js
    lawful_runs = run_from js 0 free_desks (omega arith) (λ i l. first i) reached_none

  -- where a run leads: before each job a state that the earlier ones have led to, and a job that follows it
  record FollowsAt (k : ℕ) : Type 0 where
    pub desks : Desks
    pub reached : Reached s js k desks
    pub follows : JobFollows s desks (job_at js k)

  record DoneAtEnd : Type 0 where
    pub desks : Desks
    pub reached : Reached s js (length js) desks
    pub done : AllDone s desks

  module _ (sound : SortingSound s) where
    record Told (k : ℕ) : Type 0 where
      pub each : (i : ℕ) → k ≤ i → i < length js → FollowsAt i
      pub end : DoneAtEnd

    told_more : (k : ℕ) (d : Desks) (j : Job) → job_at js k ≡ j → Reached s js k d → JobFollows s d j → Told (suc k) → Told k
    told_more k d j at r f later = record { each = λ i p q. go i p q (ℕ_discrete i k); end = later.end }
      where
        here : FollowsAt k
        here = record { desks = d; reached = r; follows = subst (JobFollows s d) (sym at) f }

        go : (i : ℕ) → k ≤ i → i < length js → Dec (i ≡ k) → FollowsAt i
        go i p q (yes x) = subst FollowsAt (sym x) here
        go i p q (no x) = later.each i (omega arith) q

    told_from : (rest : List Job) (k : ℕ) (d : Desks) → length js ≡ k + length rest → ((i : ℕ) → i < length rest → job_at js (k + i) ≡ get_or rest i no_job)
        → Reached s js k d → SortingRuns s d rest → Told k
    told_from [] k d e h r (none a) = record {
      each = λ i p q. absurd (omega arith);
      end = record { desks = d; reached = subst (λ (n : ℕ). Reached s js n d) (omega arith) r; done = a };
    }
    told_from (j ∷ rest) k d e h r (more f R) =
        let at : job_at js k ≡ j = ap (job_at js) (omega arith) ∙ h 0 (omega arith) in
        told_more k d j at r f
        (told_from rest (suc k) (after_job s d j) (omega arith) (λ i l. ap (job_at js) (omega arith) ∙ h (suc i) (omega arith)) (reached_next k d r j at f (omega (arith, f.lawful.most_desk, sound.most_desks_holds))) R)

    pub runs_lawful : SortingRuns s free_desks js → SortingLawful s js
    runs_lawful R = record {
      each = λ i l. (at i l).follows.lawful;
      in_turn =
          λ i l. (at i l).follows.in_turn ∙ ap (λ (x : ℕ). x + 1) ((at i l).reached.done ((job_at js i).desk - 1) (low i l) ∙ ap (λ (x : ℕ). jobs_of js x i) (back i l));
      all_strips = λ desk p q. all desk p q;
      one_scan = λ i j p l. le_trans ((at j l).reached.scanner_above i p) (at j l).follows.one_scan;
      one_job = λ i j p l e. le_trans ((at j l).reached.free_above i ((job_at js j).desk - 1) p (e ∙ sym (back j l))) (at j l).follows.one_job;
    }
      where
        told : Told 0
        told = told_from js 0 free_desks (omega arith) (λ i l. first i) reached_none R

        at : (i : ℕ) → i < length js → FollowsAt i
        at i l = told.each i (omega arith) l

        low : (i : ℕ) (l : i < length js) → (job_at js i).desk - 1 < 3
        low i l = omega (arith, (at i l).follows.lawful.least_desk, (at i l).follows.lawful.most_desk, sound.most_desks_holds)

        back : (i : ℕ) (l : i < length js) → (job_at js i).desk - 1 + 1 ≡ (job_at js i).desk
        back i l = omega (arith, (at i l).follows.lawful.least_desk)

        all : (desk : ℕ) → 1 ≤ desk → desk ≤ s.desks → jobs_of js desk (length js) ≡ strips_of s desk
        all desk p q =
            ap (λ (x : ℕ). jobs_of js x (length js)) (omega arith)
            ∙ sym (told.end.reached.done (desk - 1) (omega (arith, sound.most_desks_holds)))
            ∙ told.end.done.all desk p q

pub weighted_finishes_lem : (s : SortingSection) (js : List Job) → sorting_figure s js ≡ weighted_finishes s js
unfolding sorting_figure weighted_finishes sum_over job_at
weighted_finishes_lem s [] = refl
weighted_finishes_lem s (j ∷ js) =
    sum_first (length js) (λ i. job_weight s (job_at (j ∷ js) i) * desk_finish s (job_at (j ∷ js) i))
    ∙ ap (λ (n : ℕ). job_weight s j * desk_finish s j + n) (weighted_finishes_lem s js)
