-- How the plan is written: one job after another, each from the state that the list has reached.
use Rattle.std.specs.Prelude.{◌≡◌, ℕ, suc, ◌+◌, ◌-◌, ◌^◌, ◌/◌, ◌%◌, ◌≤◌, ◌<◌, max, length, get_or, set, take, replicate}
use Rattle.std.proofs.Math.Path.{refl, ap}
use Rattle.std.proofs.Common.{sym, subst, ◌∙◌, pow-suc, div-one, add-one}
use mathlib.Core.List.{List, [], ◌∷◌, ◌++◌}
use Rattle.std.proofs.Math.Nat.{div-div-eq-div-mul}
use native.Mathlib.Omega.{arith}
use Rattle.std.proofs.Math.ListN.{length-set}
use Rattle.std.proofs.lemmas.List.{take_more_set}
use Rattle.base.specs.Listed.{listed, listed_taken}
use Rattle.rules.specs.Sorting.{no_job}
use Rattle.rules.specs.declared.Job.{Job}
use Rattle.interleaving.specs.declared.State.{State}
use Rattle.interleaving.specs.declared.Incumbent.{Incumbent}
use Rattle.interleaving.specs.Instance.{scan_of}
use Rattle.interleaving.specs.Search.{step_of, start_state, first_best}
use Rattle.interleaving.proofs.SearchLaws.{step_left}
use Rattle.interleaving.specs.Caps.{StepPre}
use Rattle.interleaving.proofs.CapLaws.{step_pre_capped}
use Rattle.interleaving.specs.Consistent.{Consistent}
use Rattle.interleaving.proofs.Consistent.{consistent_start}
use Rattle.sorting.specs.declared.SortingPlan.{SortingPlan}
use Rattle.sorting.specs.Plan.{reached, job_of, listed_desk, jobs_of_list, jobs_of_plan}
use Rattle.sorting.proofs.Route.{reached_next, reached_consistent, reached_left}
use Rattle.sorting.specs.Chosen.{chosen_desk, chosen_state, Chosen}
use Rattle.sorting.proofs.Chosen.{chosen}
use Rattle.sorting.specs.Writing.{with_job, written_to, NextJobPre, PlanOfPre, Written, chosen_job, Begun}

-- digit: what is left of a number once its last i digits are cut off
pub digit_start : (p : ℕ) → p ≡ p / 4 ^ 0
digit_start p = sym (div-one p)

pub digit_more : (p i r : ℕ) → r ≡ p / 4 ^ i → r / 4 ≡ p / 4 ^ (i + 1)
digit_more p i r e = rw (e, add-one i, pow-suc 4 i) (div-div-eq-div-mul p (4 ^ i) 4)

pub job_is_next : (J : List ℕ) (s : State) (d : ℕ) {x m : ℕ} → x ≡ scan_of J d (get_or s.taken d 0) → m ≡ max (get_or s.free d 0) (s.time + x)
    → record { desk = d + 1; number = get_or s.taken d 0 + 1; scan = s.time; start = m } ≡ job_of J s d
unfolding job_of
job_is_next J s d p e = rw (e, p)

pub begun_start : {J : List ℕ} {b : Incumbent} {s : State} → PlanOfPre J b → s ≡ start_state J
    → Begun J b (record { figure = b.figure; count = 0; jobs = replicate 18 (record { desk = 0; number = 0; scan = 0; start = 0 }) }) s
unfolding reached listed written_to no_job
begun_start h e = record {
  jobs = h.jobs;
  best = h.best;
  within = omega arith;
  state = e;
  exact = ap (λ (x : Incumbent). record { figure = x.figure; count = 0; jobs = replicate 18 no_job }) h.best;
  sized = refl;
  figure = refl;
  listed = refl;
}

-- what holds where a job is written: the digit is the desk, from 1, of the chosen list
record Next (J : List ℕ) (p : SortingPlan) (s : State) (digit : ℕ) : Type 0 where
  pub least : 1 ≤ digit
  pub most : digit ≤ 3
  pub desk : digit - 1 ≡ chosen_desk J p.count
  pub more : p.count < (start_state J).left
  pub room : p.count < 18
  pub serves : StepPre J s (digit - 1)

module _ {J : List ℕ} {b : Incumbent} {p : SortingPlan} {s : State} where
  left_is : Begun J b p s → s.left + p.count ≡ (start_state J).left
  left_is h =
      ap (λ (x : State). x.left + p.count) h.state
      ∙ reached_left J h.jobs (start_state J) (consistent_start J h.jobs) (chosen_desk J) (start_state J).left (chosen J h.jobs).serves p.count h.within

  consistent_is : Begun J b p s → Consistent J s
  consistent_is h =
      subst (Consistent J) (sym h.state)
      (reached_consistent J h.jobs (start_state J) (consistent_start J h.jobs) (chosen_desk J) (start_state J).left (chosen J h.jobs).serves p.count h.within)

  next : {digit : ℕ} → Begun J b p s → 0 < s.left → digit ≡ b.path / 4 ^ (s.left - 1) % 4 → Next J p s digit
  unfolding listed_desk
  next {digit} h l e = made (left_is h) (chosen J h.jobs)
    where
      made : s.left + p.count ≡ (start_state J).left → Chosen J → Next J p s digit
      made left way = record {
        least = omega (arith, is, way.digit p.count more);
        most = omega (arith, is, way.digit p.count more, way.serves p.count more);
        desk = ap (λ (x : ℕ). x - 1) is;
        more = more;
        room = omega (arith, left, (consistent_start J h.jobs).fits.left);
        serves = record {
          jobs = h.jobs;
          capped = (consistent_is h).fits;
          desk = rw is (way.serves p.count more).0;
          strip = rw (is, h.state) (way.serves p.count more).1;
          left = l;
        };
      }
        where
          more : p.count < (start_state J).left
          more = omega arith

          place : s.left - 1 ≡ (start_state J).left - suc p.count
          place = omega arith

          is : digit ≡ listed_desk (first_best J).path (start_state J).left p.count
          is = e ∙ ap (λ (x : ℕ). b.path / 4 ^ x % 4) place ∙ ap (λ (x : Incumbent). x.path / 4 ^ ((start_state J).left - suc p.count) % 4) h.best

module _ (J : List ℕ) (s : State) (d : ℕ) (p : SortingPlan) where
  with_job_listed : length p.jobs ≡ 18 → p.count < 18 → take (p.count + 1) (with_job J s d p).jobs ≡ take p.count p.jobs ++ (job_of J s d ∷ [])
  unfolding with_job
  with_job_listed z room = take_more_set p.jobs p.count (job_of J s d) (omega arith)

  with_job_sized : length (with_job J s d p).jobs ≡ length p.jobs
  unfolding with_job
  with_job_sized = length-set p.jobs p.count (job_of J s d)

  with_job_count : (with_job J s d p).count ≡ p.count + 1
  unfolding with_job
  with_job_count = refl

  with_job_figure : (with_job J s d p).figure ≡ p.figure
  unfolding with_job
  with_job_figure = refl

module _ {J : List ℕ} {b : Incumbent} {p : SortingPlan} {s : State} {digit : ℕ} where
  job_is : Begun J b p s → Next J p s digit → job_of J s (digit - 1) ≡ chosen_job J p.count
  job_is h w = ap (λ (x : State). job_of J x (digit - 1)) h.state ∙ ap (job_of J (chosen_state J p.count)) w.desk

  state_is : Begun J b p s → Next J p s digit → step_of J s (digit - 1) ≡ chosen_state J (suc p.count)
  state_is h w =
      ap (λ (x : State). step_of J x (digit - 1)) h.state
      ∙ ap (step_of J (chosen_state J p.count)) w.desk
      ∙ sym (reached_next J (start_state J) (chosen_desk J) p.count)

  jobs_are : Begun J b p s → Next J p s digit → take (p.count + 1) (with_job J s (digit - 1) p).jobs ≡ listed (p.count + 1) (chosen_job J)
  unfolding listed
  jobs_are h w =
      with_job_listed J s (digit - 1) p h.sized w.room
      ∙ ap (λ (l : List Job). l ++ (job_of J s (digit - 1) ∷ [])) h.listed
      ∙ ap (λ (x : Job). listed p.count (chosen_job J) ++ (x ∷ [])) (job_is h w)
      ∙ sym (ap (λ (n : ℕ). listed n (chosen_job J)) (add-one p.count))

  plan_is : Begun J b p s → Next J p s digit → with_job J s (digit - 1) p ≡ written_to J (suc p.count)
  unfolding written_to
  plan_is h w =
      ap (with_job J s (digit - 1)) h.exact
      ∙ ap (λ (x : State). with_job J x (digit - 1) (written_to J p.count)) h.state
      ∙ ap (λ (d : ℕ). with_job J (chosen_state J p.count) d (written_to J p.count)) w.desk

  begun_next : Begun J b p s → Next J p s digit → Begun J b (with_job J s (digit - 1) p) (step_of J s (digit - 1))
  begun_next h w = record {
    jobs = h.jobs;
    best = h.best;
    within = omega (arith, next, w.more);
    state = state_is h w ∙ ap (chosen_state J) (sym next);
    exact = plan_is h w ∙ ap (written_to J) (sym next);
    sized = with_job_sized J s (digit - 1) p ∙ h.sized;
    figure = with_job_figure J s (digit - 1) p ∙ h.figure;
    listed =
        ap (λ (n : ℕ). take n (with_job J s (digit - 1) p).jobs) (with_job_count J s (digit - 1) p)
        ∙ jobs_are h w
        ∙ ap (λ (n : ℕ). listed n (chosen_job J)) (sym (with_job_count J s (digit - 1) p));
  }
    where
      next : (with_job J s (digit - 1) p).count ≡ suc p.count
      next = with_job_count J s (digit - 1) p ∙ add-one p.count

  begun_more : {q : SortingPlan} {t : State} → Begun J b p s → Next J p s digit → q ≡ with_job J s (digit - 1) p → t ≡ step_of J s (digit - 1) → Begun J b q t
  begun_more {q} {t} h w e f = subst (λ (x : SortingPlan). Begun J b x t) (sym e) (subst (Begun J b (with_job J s (digit - 1) p)) (sym f) (begun_next h w))

-- there is room where a strip is left
pub loop_room : {J : List ℕ} {b : Incumbent} {p : SortingPlan} {s : State} → Begun J b p s → 0 < s.left → p.count < 18
loop_room {J} h l = omega (arith, left_is h, (consistent_start J h.jobs).fits.left)

-- the same from what the loop knows
module _ {J : List ℕ} {b : Incumbent} {p : SortingPlan} {s : State} {digit : ℕ} where
  pub loop_digit : Begun J b p s → 0 < s.left → digit ≡ b.path / 4 ^ (s.left - 1) % 4 → 1 ≤ digit
  loop_digit h l e = (next h l e).least

  pub loop_next_job_pre : Begun J b p s → 0 < s.left → digit ≡ b.path / 4 ^ (s.left - 1) % 4 → NextJobPre J s (digit - 1)
  loop_next_job_pre h l e = let w = next h l e in record { serves = w.serves; capped = step_pre_capped w.serves }

  pub loop_serves : Begun J b p s → 0 < s.left → digit ≡ b.path / 4 ^ (s.left - 1) % 4 → StepPre J s (digit - 1)
  loop_serves h l e = (next h l e).serves

  pub loop_falls : {t : State} → Begun J b p s → 0 < s.left → digit ≡ b.path / 4 ^ (s.left - 1) % 4 → t ≡ step_of J s (digit - 1) → t.left < s.left
  loop_falls {t} h l e f = omega (arith, ap (λ (x : State). x.left) f, step_left J s (digit - 1))

  pub loop_more : {job : Job} {t : State} → Begun J b p s → 0 < s.left → digit ≡ b.path / 4 ^ (s.left - 1) % 4 → job ≡ job_of J s (digit - 1)
      → t ≡ step_of J s (digit - 1) → Begun J b (record { figure = p.figure; count = p.count + 1; jobs = set p.jobs p.count job }) t
  unfolding with_job
  loop_more h l e f g = begun_more h (next h l e) (ap (λ (j : Job). record { figure = p.figure; count = p.count + 1; jobs = set p.jobs p.count j }) f) g

pub begun_end : {J : List ℕ} {b : Incumbent} {p : SortingPlan} {s : State} → Begun J b p s → s.left ≤ 0 → Written J b p
unfolding jobs_of_plan jobs_of_list
begun_end {J} {b} {p} {s} h l = record {
  exact = h.exact ∙ ap (written_to J) count;
  figure = h.figure;
  jobs =
      listed_taken p.count p.jobs no_job (omega (arith, h.sized, h.within, (consistent_start J h.jobs).fits.left))
      ∙ h.listed ∙ ap (λ (n : ℕ). listed n (chosen_job J)) count ∙ ap (λ (x : Incumbent). jobs_of_list J x.path) (sym h.best);
  count = count;
}
  where
    count : p.count ≡ (start_state J).left
    count = omega (arith, left_is h)
