-- A section that is judged without fault keeps its rules, as they run over its members, and states their figure; and the other way round.
-- By induction over the members left, from any progress of the judging.
use Prim.Native.Nat.{ℕ, zero, suc, ◌+◌, ◌*◌, ◌≤◌, ◌<◌}
use Rattle.std.specs.Prelude.{◌≡◌, refl, Bool, true, false, List, [], ◌∷◌, length}
use Rattle.std.proofs.Math.Path.{sym, ap, subst}
use Rattle.std.proofs.Common.{◌∙◌}
use Rattle.std.proofs.Math.Decide.{ℕ_discrete}
use native.Mathlib.Omega.{arith}
use borrow.Author.Tests.{eq-eqb, eqb-true}
use Rattle.base.specs.Branch.{check, passed}
use Rattle.sheet.specs.Refusals.{rule_broken}
use Rattle.sheet.specs.declared.Sheet.{Sheet}
use Rattle.sheet.specs.declared.MosaicSection.{MosaicSection}
use Rattle.sheet.specs.declared.SortingSection.{SortingSection}
use Rattle.rules.specs.Flight.{no_passes, passes_at, flight_figure}
use Rattle.plan_format.specs.Format.{size_of, mosaic_head_form, sorting_head_form, flight_head_form, passes_form}
use Rattle.plan_read.specs.PlanRead.{figure_from, order_from, batch_from, job_from, passes_from, members_from, batches_from, jobs_from, blocks_from}
use Rattle.plan_read.specs.Laws.{member_at, length_from}
use Rattle.running.specs.Running.{BatchFollows, MosaicRunsUnder, MosaicRuns, JobFollows, AllDone, SortingRuns, after_job, BlockFollows, FlightRuns}
use Rattle.rules.specs.declared.Batch.{Batch}
use Rattle.rules.specs.declared.Job.{Job}
use Rattle.running.specs.declared.Desks.{Desks}
use Rattle.rules_laws.specs.MosaicRunning.{running_figure}
use Rattle.rules_laws.specs.SortingRunning.{weighted_finishes}
use Rattle.judge_rules.specs.Follows.{flight_head}
use Rattle.judge_layout.specs.Layout.{verdict}
use Rattle.judge_layout.specs.declared.Part.{Part}
use Rattle.judge_members.specs.Members.{head_form, member_form, member_place, member_follows, after_batch, after_strip, after_member, head_follows, figure_of}
use Rattle.judge_members.specs.Members.{head_number}
use Rattle.judge_members.specs.declared.Progress.{Progress}
use Rattle.judge.specs.Judged.{section_from}
use Rattle.judge.specs.Loops.{member_next, member_wrong}
use Rattle.judge_laws.proofs.Tests.{true_batch, batch_true, true_job, job_true, true_done, done_true, true_block, block_true, true_head, head_true}

-- what the first member and the others keep
first_batch : {m : MosaicSection} {before b : Batch} {bs : List Batch} → MosaicRuns m before (b ∷ bs) → BatchFollows m before b × MosaicRuns m b bs
first_batch (MosaicRunsUnder.more f r) = (f, r)

no_batch_lem : {m : MosaicSection} {before : Batch} → MosaicRuns m before [] → before.last ≡ m.strips
no_batch_lem (MosaicRunsUnder.none e) = e

first_job : {s : SortingSection} {d : Desks} {j : Job} {js : List Job} → SortingRuns s d (j ∷ js) → JobFollows s d j × SortingRuns s (after_job s d j) js
first_job (SortingRuns.more f r) = (f, r)

no_job_lem : {s : SortingSection} {d : Desks} → SortingRuns s d [] → AllDone s d
no_job_lem (SortingRuns.none a) = a

broken : (place : ℕ) → (verdict rule_broken place).number ≡ 0 → ⊥
unfolding verdict
broken place e = omega arith

module _ (s : Sheet) (plan : List ℕ) (section : ℕ) (part : Part) where
  member_judged : (n k : ℕ) (st : Progress) → (section_from (suc n) s plan section part k st).number ≡ 0
      → (member_follows s plan section k (member_place section part.head k) st ≡ true)
      × ((section_from n s plan section part (k + 1) (after_member s plan section (member_place section part.head k) st)).number ≡ 0)
  member_judged n k st e = go (member_follows s plan section k (member_place section part.head k) st) refl
    where
      go : (b : Bool) → member_follows s plan section k (member_place section part.head k) st ≡ b
          → (member_follows s plan section k (member_place section part.head k) st ≡ true)
          × ((section_from n s plan section part (k + 1) (after_member s plan section (member_place section part.head k) st)).number ≡ 0)
      go true p = (p, sym (ap (λ v. v.number) (member_next n s plan section part k st p)) ∙ e)
      go false p = absurd (broken (member_place section part.head k) (sym (ap (λ v. v.number) (member_wrong n s plan section part k st p)) ∙ e))

  judged_member : (n k : ℕ) (st : Progress) → member_follows s plan section k (member_place section part.head k) st ≡ true
      → (section_from n s plan section part (k + 1) (after_member s plan section (member_place section part.head k) st)).number ≡ 0
      → (section_from (suc n) s plan section part k st).number ≡ 0
  judged_member n k st h e = ap (λ v. v.number) (member_next n s plan section part k st h) ∙ e

  head_judged : (k : ℕ) (st : Progress) → (section_from 0 s plan section part k st).number ≡ 0
      → (head_follows s plan section part st ≡ true) × (figure_from (head_form section) plan part.head ≡ figure_of s plan section part st)
  unfolding section_from verdict head_number
  head_judged k st e =
      let p = passed _ _ _ tt e in
      let q = passed _ _ _ tt p.1 in
      (p.0, eqb-true _ _ q.0)

  judged_head : (k : ℕ) (st : Progress) → head_follows s plan section part st ≡ true
      → figure_from (head_form section) plan part.head ≡ figure_of s plan section part st
      → (section_from 0 s plan section part k st).number ≡ 0
  unfolding section_from verdict head_number check
  judged_head k st h e = rw (h, eq-eqb _ _ e)

-- the place of the next member
next_place : (section head k : ℕ) → member_place section head (k + 1) ≡ member_place section head k + size_of (member_form section)
unfolding member_place
next_place section head k = omega (arith, times_more k (size_of (member_form section)))
  where
    times_more : (n m : ℕ) → (n + 1) * m ≡ n * m + m
    times_more n m = omega arith

pub regroup : (a b c : ℕ) → a + b + c ≡ a + (b + c)
regroup a b c = omega arith

-- The mosaic.
module _ (s : Sheet) (plan : List ℕ) (part : Part) where
  -- a list of batches keeps the rules and has the figure that the head states
  pub record MosaicTrue (st : Progress) (bs : List Batch) : Type 0 where
    pub runs : MosaicRuns s.mosaic st.before bs
    pub figure : figure_from mosaic_head_form plan part.head ≡ st.figure + running_figure s.mosaic st.before bs

  pub batches_more : (n k : ℕ)
      → batches_from plan (member_place 1 part.head k) (suc n)
      ≡ batch_from plan (member_place 1 part.head k) ∷ batches_from plan (member_place 1 part.head (k + 1)) n
  unfolding members_from member_form
  batches_more n k = ap (λ at. batch_from plan (member_place 1 part.head k) ∷ batches_from plan at n) (sym (next_place 1 part.head k))

  pub mosaic_judged : (n k : ℕ) (st : Progress) → (section_from n s plan 1 part k st).number ≡ 0
      → MosaicTrue st (batches_from plan (member_place 1 part.head k) n)
  unfolding members_from running_figure head_form head_follows figure_of member_follows after_member after_batch
  mosaic_judged zero k st e =
      let h = head_judged s plan 1 part k st e in
      record { runs = MosaicRunsUnder.none (eqb-true _ _ h.0); figure = h.1 ∙ omega arith }
  mosaic_judged (suc n) k st e =
      let h = member_judged s plan 1 part n k st e in
      let b = batch_from plan (member_place 1 part.head k) in
      let r = mosaic_judged n (k + 1) (after_batch s st b) h.1 in
      subst (MosaicTrue st) (sym (batches_more n k))
      (record { runs = MosaicRunsUnder.more (true_batch s.mosaic st.before b h.0) r.runs; figure = r.figure ∙ regroup _ _ _ })

  pub judged_mosaic : (n k : ℕ) (st : Progress) → MosaicTrue st (batches_from plan (member_place 1 part.head k) n)
      → (section_from n s plan 1 part k st).number ≡ 0
  unfolding members_from running_figure head_form head_follows figure_of member_follows after_member after_batch
  judged_mosaic zero k st t = judged_head s plan 1 part k st (eq-eqb _ _ (no_batch_lem t.runs)) (t.figure ∙ omega arith)
  judged_mosaic (suc n) k st t =
      let b = batch_from plan (member_place 1 part.head k) in
      let u = subst (MosaicTrue st) (batches_more n k) t in
      let f = first_batch u.runs in
      judged_member s plan 1 part n k st (batch_true s.mosaic st.before b f.0)
      (judged_mosaic n (k + 1) (after_batch s st b) (record { runs = f.1; figure = u.figure ∙ sym (regroup _ _ _) }))

-- The sorting.
module _ (s : Sheet) (plan : List ℕ) (part : Part) where
  pub record SortingTrue (st : Progress) (js : List Job) : Type 0 where
    pub runs : SortingRuns s.sorting st.desks js
    pub figure : figure_from sorting_head_form plan part.head ≡ st.figure + weighted_finishes s.sorting js

  pub jobs_more : (n k : ℕ)
      → jobs_from plan (member_place 2 part.head k) (suc n)
      ≡ job_from plan (member_place 2 part.head k) ∷ jobs_from plan (member_place 2 part.head (k + 1)) n
  unfolding members_from member_form
  jobs_more n k = ap (λ at. job_from plan (member_place 2 part.head k) ∷ jobs_from plan at n) (sym (next_place 2 part.head k))

  pub sorting_judged : (n k : ℕ) (st : Progress) → (section_from n s plan 2 part k st).number ≡ 0
      → SortingTrue st (jobs_from plan (member_place 2 part.head k) n)
  unfolding members_from weighted_finishes head_form head_follows figure_of member_follows after_member after_strip
  sorting_judged zero k st e =
      let h = head_judged s plan 2 part k st e in
      record { runs = SortingRuns.none (true_done s.sorting st.desks h.0); figure = h.1 ∙ omega arith }
  sorting_judged (suc n) k st e =
      let h = member_judged s plan 2 part n k st e in
      let j = job_from plan (member_place 2 part.head k) in
      let r = sorting_judged n (k + 1) (after_strip s st j) h.1 in
      subst (SortingTrue st) (sym (jobs_more n k))
      (record { runs = SortingRuns.more (true_job s.sorting st.desks j h.0) r.runs; figure = r.figure ∙ regroup _ _ _ })

  pub judged_sorting : (n k : ℕ) (st : Progress) → SortingTrue st (jobs_from plan (member_place 2 part.head k) n)
      → (section_from n s plan 2 part k st).number ≡ 0
  unfolding members_from weighted_finishes head_form head_follows figure_of member_follows after_member after_strip
  judged_sorting zero k st t = judged_head s plan 2 part k st (done_true s.sorting st.desks (no_job_lem t.runs)) (t.figure ∙ omega arith)
  judged_sorting (suc n) k st t =
      let j = job_from plan (member_place 2 part.head k) in
      let u = subst (SortingTrue st) (jobs_more n k) t in
      let f = first_job u.runs in
      judged_member s plan 2 part n k st (job_true s.sorting st.desks j f.0)
      (judged_sorting n (k + 1) (after_strip s st j) (record { runs = f.1; figure = u.figure ∙ sym (regroup _ _ _) }))

-- The flight.
module _ (s : Sheet) (plan : List ℕ) (part : Part) where
  pub record FlightTrue : Type 0 where
    pub runs : FlightRuns s.flight (order_from plan part.head) (blocks_from plan (part.head + size_of flight_head_form) part.members)
    pub figure : figure_from flight_head_form plan part.head ≡ flight_figure s.flight (blocks_from plan (part.head + size_of flight_head_form) part.members)

  -- the blocks left from block k on, and the head
  record BlocksTrue (n k : ℕ) : Type 0 where
    pub blocks : (i : ℕ) → k ≤ i → i < k + n → BlockFollows s.flight i (passes_from plan (member_place 3 part.head i))
    pub head : flight_head s.flight part.members (order_from plan part.head) (blocks_from plan (part.head + size_of flight_head_form) part.members)
        ≡ true
    pub figure : figure_from flight_head_form plan part.head ≡ flight_figure s.flight (blocks_from plan (part.head + size_of flight_head_form) part.members)

  blocks_judged : (n k : ℕ) (st : Progress) → (section_from n s plan 3 part k st).number ≡ 0 → BlocksTrue n k
  unfolding head_form head_follows figure_of member_follows after_member
  blocks_judged zero k st e =
      let h = head_judged s plan 3 part k st e in
      record { blocks = λ i l u. absurd (omega arith); head = h.0; figure = h.1 }
  blocks_judged (suc n) k st e =
      let h = member_judged s plan 3 part n k st e in
      let r = blocks_judged n (k + 1) st h.1 in
      record { blocks = λ i l u. go i l u (true_block s.flight k (passes_from plan (member_place 3 part.head k)) h.0) r.blocks (ℕ_discrete k i); head = r.head; figure = r.figure }
    where
      go : (i : ℕ) → k ≤ i → i < k + suc n → BlockFollows s.flight k (passes_from plan (member_place 3 part.head k))
          → ((i : ℕ) → k + 1 ≤ i → i < k + 1 + n → BlockFollows s.flight i (passes_from plan (member_place 3 part.head i))) → Dec (k ≡ i)
          → BlockFollows s.flight i (passes_from plan (member_place 3 part.head i))
      go i l u f later (yes q) = subst (λ (x : ℕ). BlockFollows s.flight x (passes_from plan (member_place 3 part.head x))) q f
      go i l u f later (no q) = later i (omega arith) (omega arith)

  judged_blocks : (n k : ℕ) (st : Progress) → BlocksTrue n k → (section_from n s plan 3 part k st).number ≡ 0
  unfolding head_form head_follows figure_of member_follows after_member
  judged_blocks zero k st t = judged_head s plan 3 part k st t.head t.figure
  judged_blocks (suc n) k st t =
      judged_member s plan 3 part n k st (block_true s.flight k (passes_from plan (member_place 3 part.head k)) (t.blocks k (omega arith) (omega arith)))
      (judged_blocks n (k + 1) st (record { blocks = λ i l u. t.blocks i (omega arith) (omega arith); head = t.head; figure = t.figure }))

  pass_is : (i : ℕ) → i < part.members
      → passes_at (blocks_from plan (part.head + size_of flight_head_form) part.members) i ≡ passes_from plan (member_place 3 part.head i)
  unfolding passes_at member_place head_form member_form
  pass_is i h =
      member_at passes_from (size_of passes_form) plan (part.head + size_of flight_head_form) part.members i no_passes h ∙ ap (passes_from plan) (omega arith)

  passes_length : length (blocks_from plan (part.head + size_of flight_head_form) part.members) ≡ part.members
  passes_length = length_from passes_from (size_of passes_form) plan (part.head + size_of flight_head_form) part.members

  pub flight_judged : (st : Progress) → (section_from part.members s plan 3 part 0 st).number ≡ 0 → FlightTrue
  flight_judged st e =
      let t = blocks_judged part.members 0 st e in
      record {
        runs =
            record {
              members =
                  λ i l. let h : i < part.members = omega (arith, passes_length) in subst (BlockFollows s.flight i) (sym (pass_is i h)) (t.blocks i (omega arith) (omega arith));
              head =
                  true_head s.flight (order_from plan part.head) (blocks_from plan (part.head + size_of flight_head_form) part.members) part.members
                  (sym passes_length) t.head;
            };
        figure = t.figure;
      }

  pub judged_flight : (st : Progress) → FlightTrue → (section_from part.members s plan 3 part 0 st).number ≡ 0
  judged_flight st t =
      judged_blocks part.members 0 st
      (record {
        blocks = λ i l u. subst (BlockFollows s.flight i) (pass_is i (omega arith)) (t.runs.members i (omega (arith, passes_length)));
        head =
            head_true s.flight (order_from plan part.head) (blocks_from plan (part.head + size_of flight_head_form) part.members) part.members
            (sym passes_length) t.runs.head;
        figure = t.figure;
      })
