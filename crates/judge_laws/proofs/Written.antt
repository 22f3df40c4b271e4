-- In an allowed plan the judge finds no fault: the parts are found where they are written, and the members and figures read are those of the plan.
-- The figures stated are the rules' figures; an absent section has figure 0.
use Rattle.std.specs.Prelude.{ℕ, zero, suc, ◌+◌, ◌*◌, ◌<◌, ◌≡◌, Bool, true, false, cond, get_or, ltb}
use Rattle.std.proofs.Math.Path.{refl, sym, ap, ap₂}
use Rattle.std.proofs.Common.{subst, ◌∙◌}
use mathlib.Core.List.{List, [], ◌∷◌, ◌++◌, append_assoc, append-nil}
use native.Mathlib.Omega.{arith}
use Rattle.std.proofs.Math.ListN.{length}
use borrow.Author.Tests.{ltb-false}
use Rattle.field.specs.Field.{field_bytes}
use Rattle.plan_format.specs.Format.{Form, size_of, form_bytes, mosaic_head_form, batch_form, sorting_head_form, job_form, flight_head_form, passes_form}
use Rattle.sheet.specs.Tags.{plan_batch_tag, plan_strip_tag, plan_block_tag}
use Rattle.sheet.specs.Sound.{SheetSound, strips_in_all}
use Rattle.sheet.specs.declared.Sheet.{Sheet}
use Rattle.base.specs.Sums.{sum_over, greatest_over}
use Rattle.rules.specs.Mosaic.{no_batch, batch_at, mosaic_figure}
use Rattle.rules.specs.Sorting.{no_job, job_at, sorting_figure}
use Rattle.rules.specs.Flight.{no_passes, passes_at, flight_figure}
use Rattle.rules.specs.Plan.{members_bytes, batch_bytes, mosaic_bytes, job_bytes, sorting_bytes, passes_bytes, flight_bytes, if_present, Plan, plan_bytes, PlanLawful}
use Rattle.plan_read.specs.PlanRead.{figure_from, order_from, batches_from, jobs_from, blocks_from}
use Rattle.running.specs.Running.{FlightRuns}
use Rattle.rules.specs.declared.Batch.{Batch}
use Rattle.rules.specs.declared.Job.{Job}
use Rattle.rules.specs.declared.Passes.{Passes}
use Rattle.rules_laws.proofs.Equivalent.{mosaic_runs, mosaic_figure_lem, sorting_runs, sorting_figure_lem, flight_runs}
use Rattle.rules_laws.proofs.Fits.{batch_fits, mosaic_head_fits, jobs_all, job_fits, passes_fits, flight_head_fits}
use Rattle.rules_laws.proofs.SortingFits.{sorting_head_fits}
use Rattle.rules_laws.specs.RoundTrip.{batch_kind, job_kind, passes_kind}
use Rattle.rules_laws.proofs.RoundTrip.{figure_back, order_back}
use Rattle.judge_layout.specs.Layout.{part_by_forms, mosaic_part, sorting_part, flight_part}
use Rattle.judge_layout.specs.declared.Part.{Part}
use Rattle.judge_members.specs.Members.{present, head_form, member_form, member_place, begun}
use Rattle.judge.specs.Judged.{pick_part, part_at, section_verdict, stated_figure}
use Rattle.judge_laws.proofs.Sections.{MosaicTrue, judged_mosaic, SortingTrue, judged_sorting, FlightTrue, judged_flight}
use Rattle.judge_laws.proofs.Laid.{part_written, head_written, members_written}
use Rattle.judge_laws.specs.Outcomes.{LayoutRight, PlanRight}
use Rattle.judge_laws.proofs.Outcomes.{right_present}

-- the values of each head, and the bytes of each section (`mosaic_fields` and its kin) in the form that the laws of Laid.antt speak of
abbrev mosaic_head_values : Sheet → Plan → List ℕ
mosaic_head_values s p = mosaic_figure s.mosaic p.batches ∷ []

abbrev sorting_head_values : Sheet → Plan → List ℕ
sorting_head_values s p = sorting_figure s.sorting p.jobs ∷ []

abbrev flight_head_values : Sheet → Plan → List ℕ
flight_head_values s p = flight_figure s.flight p.passes ∷ p.order ∷ []

abbrev mosaic_piece : Sheet → Plan → List ℕ
mosaic_piece s p = cond (ltb 0 s.mosaic.strips) (form_bytes mosaic_head_form (mosaic_head_values s p) ++ members_bytes batch_bytes p.batches) []

abbrev sorting_piece : Sheet → Plan → List ℕ
sorting_piece s p = cond (ltb 0 (strips_in_all s.sorting)) (form_bytes sorting_head_form (sorting_head_values s p) ++ members_bytes job_bytes p.jobs) []

abbrev flight_piece : Sheet → Plan → List ℕ
flight_piece s p = cond (ltb 0 s.flight.blocks) (form_bytes flight_head_form (flight_head_values s p) ++ members_bytes passes_bytes p.passes) []

-- the first byte of what follows a section
starts : (x : Bool) (head : Form) (values members rest : List ℕ)
    → get_or (cond x (form_bytes head values ++ members) [] ++ rest) 0 0 ≡ cond x head.tag (get_or rest 0 0)
unfolding form_bytes field_bytes
starts true head values members rest = refl
starts false head values members rest = refl

either_other : (x : Bool) (a b tag : ℕ) → (a ≡ tag → ⊥) → (b ≡ tag → ⊥) → cond x a b ≡ tag → ⊥
either_other true a b tag h k e = h e
either_other false a b tag h k e = k e

follows_other : (x : Bool) (head : Form) (values members rest : List ℕ) (tag : ℕ) → (head.tag ≡ tag → ⊥) → (get_or rest 0 0 ≡ tag → ⊥)
    → get_or (cond x (form_bytes head values ++ members) [] ++ rest) 0 0 ≡ tag → ⊥
follows_other x head values members rest tag h k e = either_other x head.tag (get_or rest 0 0) tag h k (sym (starts x head values members rest) ∙ e)

present_members : (x : Bool) (n : ℕ) → x ≡ true → cond x n 0 ≡ n
present_members x n e = rw e

pub no_sum : (n : ℕ) (f : ℕ → ℕ) → n ≡ 0 → 0 ≡ sum_over n f
unfolding sum_over
no_sum zero f e = refl
no_sum (suc n) f e = absurd (omega arith)

pub no_greatest : (n : ℕ) (f : ℕ → ℕ) → n ≡ 0 → 0 ≡ greatest_over n f
unfolding greatest_over
no_greatest zero f e = refl
no_greatest (suc n) f e = absurd (omega arith)

pub by_presence : (x : Bool) (a b : ℕ) → (x ≡ true → a ≡ b) → (x ≡ false → 0 ≡ b) → cond x a 0 ≡ b
by_presence true a b h k = h refl
by_presence false a b h k = k refl

module _ (s : Sheet) (p : Plan) (plan : List ℕ) (sound : SheetSound s) (L : PlanLawful s p) (e : plan ≡ plan_bytes s p) where
  flight_last : plan ≡ mosaic_piece s p ++ sorting_piece s p ++ (flight_piece s p ++ [])
  unfolding plan_bytes if_present mosaic_bytes sorting_bytes flight_bytes
  flight_last = e ∙ ap (λ (l : List ℕ). mosaic_piece s p ++ sorting_piece s p ++ l) (sym (append-nil (flight_piece s p)))

  sorting_next_lem : plan ≡ mosaic_piece s p ++ (sorting_piece s p ++ (flight_piece s p ++ []))
  sorting_next_lem = flight_last ∙ append_assoc (mosaic_piece s p) (sorting_piece s p) (flight_piece s p ++ [])

  flight_other : (tag : ℕ) → 0 < tag → (flight_head_form.tag ≡ tag → ⊥) → get_or (flight_piece s p ++ []) 0 0 ≡ tag → ⊥
  flight_other tag h k =
      follows_other (ltb 0 s.flight.blocks) flight_head_form (flight_head_values s p) (members_bytes passes_bytes p.passes) [] tag k (λ z. omega arith)

  batch_other : get_or (sorting_piece s p ++ (flight_piece s p ++ [])) 0 0 ≡ plan_batch_tag → ⊥
  batch_other =
      follows_other (ltb 0 (strips_in_all s.sorting)) sorting_head_form (sorting_head_values s p) (members_bytes job_bytes p.jobs) (flight_piece s p ++ [])
      plan_batch_tag (λ z. omega arith)
      (flight_other plan_batch_tag (omega arith) (λ z. omega arith))

  strip_other : get_or (flight_piece s p ++ []) 0 0 ≡ plan_strip_tag → ⊥
  strip_other = flight_other plan_strip_tag (omega arith) (λ z. omega arith)

  block_other : ◌≡◌ {A = ℕ} (get_or [] 0 0) plan_block_tag → ⊥
  block_other z = omega arith

  -- the parts
  mosaic_part_lem : mosaic_part s plan
      ≡ record { right = true; head = 0; members = cond (ltb 0 s.mosaic.strips) (length p.batches) 0; end = length (mosaic_piece s p) }
  unfolding mosaic_part batch_kind
  mosaic_part_lem =
      part_written batch_kind plan [] mosaic_head_form (mosaic_head_values s p) p.batches (sorting_piece s p ++ (flight_piece s p ++ [])) refl (omega arith)
      batch_other
      (ltb 0 s.mosaic.strips) sorting_next_lem

  sorting_part_lem : sorting_part s plan
      ≡ record { right = true; head = length (mosaic_piece s p); members = cond (ltb 0 (strips_in_all s.sorting)) (length p.jobs) 0; end = length (mosaic_piece s p ++ sorting_piece s p) }
  unfolding sorting_part job_kind
  sorting_part_lem =
      ap (λ (q : Part). part_by_forms (ltb 0 (strips_in_all s.sorting)) plan q.end sorting_head_form job_form) mosaic_part_lem
      ∙ part_written job_kind plan (mosaic_piece s p) sorting_head_form (sorting_head_values s p) p.jobs (flight_piece s p ++ []) refl (omega arith) strip_other
      (ltb 0 (strips_in_all s.sorting)) sorting_next_lem

  flight_part_lem : flight_part s plan
      ≡ record { right = true; head = length (mosaic_piece s p ++ sorting_piece s p); members = cond (ltb 0 s.flight.blocks) (length p.passes) 0; end = length (mosaic_piece s p ++ sorting_piece s p ++ flight_piece s p) }
  unfolding flight_part passes_kind
  flight_part_lem =
      ap (λ (q : Part). part_by_forms (ltb 0 s.flight.blocks) plan q.end flight_head_form passes_form) sorting_part_lem
      ∙ part_written passes_kind plan (mosaic_piece s p ++ sorting_piece s p) flight_head_form (flight_head_values s p) p.passes [] refl (omega arith) block_other
      (ltb 0 s.flight.blocks) flight_last

  written_layout : LayoutRight s plan
  unfolding plan_bytes if_present mosaic_bytes sorting_bytes flight_bytes
  written_layout =
      record {
        mosaic = ap (λ (q : Part). q.right) mosaic_part_lem;
        sorting = ap (λ (q : Part). q.right) sorting_part_lem;
        flight = ap (λ (q : Part). q.right) flight_part_lem;
        end = ap (λ (q : Part). q.end) flight_part_lem ∙ sym (ap length e);
      }

  -- the mosaic: its members and its figure are read back
  module _ (h : ltb 0 s.mosaic.strips ≡ true) where
    pub batches_read : batches_from plan (member_place 1 (mosaic_part s plan).head 0) (mosaic_part s plan).members ≡ p.batches
    unfolding member_place head_form member_form batch_kind batch_at
    batches_read =
        ap (λ (q : Part). batches_from plan (q.head + size_of mosaic_head_form + 0 * size_of batch_form) q.members) mosaic_part_lem
        ∙ ap (λ (n : ℕ). batches_from plan (size_of mosaic_head_form) n) (present_members (ltb 0 s.mosaic.strips) (length p.batches) h)
        ∙ members_written batch_kind plan [] mosaic_head_form (mosaic_head_values s p) p.batches (sorting_piece s p ++ (flight_piece s p ++ [])) refl (omega arith) batch_other
        (ltb 0 s.mosaic.strips) sorting_next_lem h no_batch (batch_fits s.mosaic p.batches sound.mosaic L.mosaic)

    mosaic_stated : figure_from mosaic_head_form plan (mosaic_part s plan).head ≡ mosaic_figure s.mosaic p.batches
    unfolding batch_kind
    mosaic_stated =
        ap (λ (q : Part). figure_from mosaic_head_form plan q.head) mosaic_part_lem
        ∙ ap (λ (l : List ℕ). figure_from mosaic_head_form l 0)
        (head_written batch_kind plan [] mosaic_head_form (mosaic_head_values s p) p.batches (sorting_piece s p ++ (flight_piece s p ++ [])) refl (omega arith) batch_other
        (ltb 0 s.mosaic.strips) sorting_next_lem h)
        ∙ figure_back [] (members_bytes batch_bytes p.batches ++ (sorting_piece s p ++ (flight_piece s p ++ []))) mosaic_head_form (mosaic_figure s.mosaic p.batches) []
        (mosaic_head_fits s.mosaic p.batches sound.mosaic L.mosaic)

    mosaic_written : MosaicTrue s plan (mosaic_part s plan) begun p.batches
    unfolding begun
    mosaic_written =
        let R = mosaic_runs s.mosaic p.batches L.mosaic in
        record { runs = R; figure = mosaic_stated ∙ omega (arith, mosaic_figure_lem s.mosaic p.batches R) }

  mosaic_right : (section_verdict s plan 1).number ≡ 0
  unfolding present part_at pick_part
  mosaic_right =
      right_present s plan 1
      (λ h. judged_mosaic s plan (mosaic_part s plan) (mosaic_part s plan).members 0 begun
      (subst (λ (bs : List Batch). MosaicTrue s plan (mosaic_part s plan) begun bs) (sym (batches_read h)) (mosaic_written h)))

  -- the sorting
  module _ (h : ltb 0 (strips_in_all s.sorting) ≡ true) where
    pub jobs_read : jobs_from plan (member_place 2 (sorting_part s plan).head 0) (sorting_part s plan).members ≡ p.jobs
    unfolding member_place head_form member_form job_kind job_at
    jobs_read =
        ap (λ (q : Part). jobs_from plan (q.head + size_of sorting_head_form + 0 * size_of job_form) q.members) sorting_part_lem
        ∙ ap₂ (λ (k n : ℕ). jobs_from plan k n) first (present_members (ltb 0 (strips_in_all s.sorting)) (length p.jobs) h)
        ∙ members_written job_kind plan (mosaic_piece s p) sorting_head_form (sorting_head_values s p) p.jobs (flight_piece s p ++ []) refl (omega arith) strip_other
        (ltb 0 (strips_in_all s.sorting)) sorting_next_lem h no_job (job_fits s.sorting p.jobs sound.sorting L.sorting)
      where
        first : length (mosaic_piece s p) + size_of sorting_head_form + 0 * size_of job_form ≡ length (mosaic_piece s p) + size_of sorting_head_form
        first = omega arith

    sorting_stated : figure_from sorting_head_form plan (sorting_part s plan).head ≡ sorting_figure s.sorting p.jobs
    unfolding job_kind
    sorting_stated =
        ap (λ (q : Part). figure_from sorting_head_form plan q.head) sorting_part_lem
        ∙ ap (λ (l : List ℕ). figure_from sorting_head_form l (length (mosaic_piece s p)))
        (head_written job_kind plan (mosaic_piece s p) sorting_head_form (sorting_head_values s p) p.jobs (flight_piece s p ++ []) refl (omega arith) strip_other
        (ltb 0 (strips_in_all s.sorting)) sorting_next_lem h)
        ∙ figure_back (mosaic_piece s p) (members_bytes job_bytes p.jobs ++ (flight_piece s p ++ [])) sorting_head_form (sorting_figure s.sorting p.jobs) []
        (sorting_head_fits s.sorting p.jobs sound.sorting L.sorting)

    sorting_written : SortingTrue s plan (sorting_part s plan) begun p.jobs
    unfolding begun
    sorting_written =
        record {
          runs = sorting_runs s.sorting p.jobs sound.sorting L.sorting;
          figure = sorting_stated ∙ omega
              (arith, sorting_figure_lem s.sorting p.jobs);
        }

  sorting_right : (section_verdict s plan 2).number ≡ 0
  unfolding present part_at pick_part
  sorting_right =
      right_present s plan 2
      (λ h. judged_sorting s plan (sorting_part s plan) (sorting_part s plan).members 0 begun
      (subst (λ (js : List Job). SortingTrue s plan (sorting_part s plan) begun js) (sym (jobs_read h)) (sorting_written h)))

  -- the flight
  module _ (h : ltb 0 s.flight.blocks ≡ true) where
    pub passes_read : blocks_from plan ((flight_part s plan).head + size_of flight_head_form) (flight_part s plan).members ≡ p.passes
    unfolding passes_kind passes_at
    passes_read =
        ap (λ (q : Part). blocks_from plan (q.head + size_of flight_head_form) q.members) flight_part_lem
        ∙ ap (λ (n : ℕ). blocks_from plan (length (mosaic_piece s p ++ sorting_piece s p) + size_of flight_head_form) n) (present_members (ltb 0 s.flight.blocks) (length p.passes) h)
        ∙ members_written passes_kind plan (mosaic_piece s p ++ sorting_piece s p) flight_head_form (flight_head_values s p) p.passes [] refl (omega arith) block_other
        (ltb 0 s.flight.blocks) flight_last h no_passes (passes_fits s.flight p.passes sound.flight L.flight)

    flight_plan_lem : plan ≡ mosaic_piece s p ++ sorting_piece s p ++ form_bytes flight_head_form (flight_head_values s p) ++ (members_bytes passes_bytes p.passes ++ [])
    unfolding passes_kind
    flight_plan_lem =
        head_written passes_kind plan (mosaic_piece s p ++ sorting_piece s p) flight_head_form (flight_head_values s p) p.passes [] refl (omega arith) block_other
        (ltb 0 s.flight.blocks) flight_last h

    flight_stated : figure_from flight_head_form plan (flight_part s plan).head ≡ flight_figure s.flight p.passes
    flight_stated =
        ap (λ (q : Part). figure_from flight_head_form plan q.head) flight_part_lem
        ∙ ap (λ (l : List ℕ). figure_from flight_head_form l (length (mosaic_piece s p ++ sorting_piece s p))) flight_plan_lem
        ∙ figure_back (mosaic_piece s p ++ sorting_piece s p) (members_bytes passes_bytes p.passes ++ []) flight_head_form (flight_figure s.flight p.passes) (p.order ∷ [])
        (flight_head_fits s.flight p.passes sound.flight L.flight p.order L.order)

    pub order_stated : order_from plan (flight_part s plan).head ≡ p.order
    order_stated =
        ap (λ (q : Part). order_from plan q.head) flight_part_lem
        ∙ ap (λ (l : List ℕ). order_from l (length (mosaic_piece s p ++ sorting_piece s p))) flight_plan_lem
        ∙ order_back (mosaic_piece s p ++ sorting_piece s p) (members_bytes passes_bytes p.passes ++ []) (flight_figure s.flight p.passes) p.order
        (flight_head_fits s.flight p.passes sound.flight L.flight p.order L.order)

    flight_written : FlightTrue s plan (flight_part s plan)
    flight_written =
        record {
          runs =
              subst (λ (ps : List Passes). FlightRuns s.flight (order_from plan (flight_part s plan).head) ps) (sym passes_read)
              (subst (λ (order : ℕ). FlightRuns s.flight order p.passes) (sym order_stated) (flight_runs s.flight p.order p.passes L.flight L.kept L.order));
          figure = flight_stated ∙ ap (flight_figure s.flight) (sym passes_read);
        }

  flight_right : (section_verdict s plan 3).number ≡ 0
  unfolding present part_at pick_part
  flight_right = right_present s plan 3 (λ h. judged_flight s plan (flight_part s plan) begun (flight_written h))

  pub written_right : PlanRight s plan
  written_right = record { layout = written_layout; sections = record { mosaic = mosaic_right; sorting = sorting_right; flight = flight_right } }

  -- the figures stated are the rules' figures
  pub mosaic_figure_stated : stated_figure s plan 1 ≡ mosaic_figure s.mosaic p.batches
  unfolding stated_figure present head_form part_at pick_part mosaic_figure
  mosaic_figure_stated =
      by_presence (ltb 0 s.mosaic.strips) _ _ mosaic_stated (λ h. no_sum s.mosaic.strips _ (omega (arith, ltb-false 0 s.mosaic.strips h)))

  pub sorting_figure_stated : stated_figure s plan 2 ≡ sorting_figure s.sorting p.jobs
  unfolding stated_figure present head_form part_at pick_part sorting_figure
  sorting_figure_stated =
      by_presence (ltb 0 (strips_in_all s.sorting)) _ _ sorting_stated
      (λ h. no_sum (length p.jobs) _ (omega (arith, jobs_all s.sorting p.jobs sound.sorting L.sorting, ltb-false 0 (strips_in_all s.sorting) h)))

  pub flight_figure_stated : stated_figure s plan 3 ≡ flight_figure s.flight p.passes
  unfolding stated_figure present head_form part_at pick_part flight_figure
  flight_figure_stated =
      by_presence (ltb 0 s.flight.blocks) _ _ flight_stated (λ h. no_greatest (2 * s.flight.blocks) _ (omega (arith, ltb-false 0 s.flight.blocks h)))
