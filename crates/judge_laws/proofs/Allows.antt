-- A plan in which the judge finds no fault is allowed: what is read from it is lawful, and its bytes are those of what is read.
-- A section that is absent has no member, and keeps its rules so.
use Rattle.std.specs.Prelude.{ℕ, zero, suc, ◌+◌, ◌-◌, ◌≤◌, ◌<◌, ◌≡◌, Bool, get_or}
use Rattle.std.proofs.Math.Path.{refl, ap, subst}
use Rattle.std.proofs.Common.{sym, ◌∙◌, arith, ltb-false}
use Rattle.std.proofs.Math.Bool.{true, false, cond}
use mathlib.Core.List.{List, [], ◌∷◌, ◌++◌, append_assoc, append-nil}
use Rattle.std.proofs.Math.ListN.{drop}
use Rattle.std.proofs.Math.Seq.{drop-length}
use Rattle.std.proofs.Math.Dec.{ltb}
use Rattle.field.specs.Field.{field_at}
use Rattle.order.specs.Order.{Proper, is_proper, seconds, never_more_seconds}
use Rattle.order.specs.Decided.{proper_true}
use Rattle.sheet.specs.Sound.{SheetSound, SortingSound, FlightSound, strips_in_all}
use Rattle.sheet.specs.declared.Sheet.{Sheet}
use Rattle.sheet.specs.declared.MosaicSection.{MosaicSection}
use Rattle.sheet.specs.declared.SortingSection.{SortingSection}
use Rattle.sheet.specs.declared.FlightSection.{FlightSection}
use Rattle.rules.specs.Mosaic.{no_batch, mosaic_figure}
use Rattle.rules.specs.Sorting.{strips_of, sorting_figure}
use Rattle.rules.specs.Flight.{flight_figure}
use Rattle.rules.specs.Plan.{members_bytes, batch_bytes, mosaic_bytes, job_bytes, sorting_bytes, passes_bytes, flight_bytes, if_present, plan_bytes, PlanLawful, Allowed}
use Rattle.plan_read.specs.PlanRead.{figure_from, order_from, batch_from, job_from, passes_from, members_from, batches_from, jobs_from, blocks_from}
use Rattle.running.specs.Running.{MosaicRunsUnder, MosaicRuns, free_desks, AllDone, SortingRuns, FlightRuns}
use Rattle.rules.specs.declared.Passes.{Passes}
use Rattle.plan_format.specs.ByteLaws.{AreBytes}
use Rattle.plan_format.specs.Format.{Form, content_length, size_of, form_bytes, mosaic_head_form, batch_form, sorting_head_form, job_form, flight_head_form, passes_form}
use Rattle.rules_laws.proofs.Equivalent.{runs_mosaic, mosaic_figure_lem, runs_sorting, sorting_figure_lem, runs_flight}
use Rattle.rules_laws.specs.RoundTrip.{batch_kind, job_kind, passes_kind}
use Rattle.rules_laws.proofs.RoundTrip.{mosaic_head_stands, sorting_head_stands, flight_head_stands}
use Rattle.judge_layout.specs.Layout.{is_field, part_from, part_of, part_by_forms, mosaic_part, sorting_part, flight_part}
use Rattle.judge_members.specs.Members.{present, head_form, member_form, member_place, begun}
use Rattle.judge.specs.Judged.{pick_part, part_at, section_verdict}
use Rattle.judge.specs.Stated.{stated_batches, stated_jobs, stated_passes, stated_order, stated_plan}
use Rattle.judge_laws.proofs.Sections.{MosaicTrue, mosaic_judged, SortingTrue, sorting_judged, FlightTrue, flight_judged}
use Rattle.judge_laws.proofs.Laid.{part_stands}
use Rattle.judge_laws.specs.Outcomes.{PlanRight}
use Rattle.judge_laws.proofs.Outcomes.{present_right}

-- an absent part has no member
absent_part : (x : Bool) (plan : List ℕ) (at : ℕ) (head member : Form) → x ≡ false → (part_by_forms x plan at head member).members ≡ 0
unfolding part_of
absent_part x plan at head member e = rw e

none_read : {A : Type 0} (read : List ℕ → ℕ → A) (size : ℕ) (plan : List ℕ) (at n : ℕ) → n ≡ 0 → members_from read size plan at n ≡ []
unfolding members_from
none_read read size plan at zero e = refl
none_read read size plan at (suc n) e = absurd (omega arith)

no_batches : (m : MosaicSection) → ltb 0 m.strips ≡ false → MosaicRuns m no_batch []
unfolding no_batch
no_batches m h = MosaicRunsUnder.none {before = no_batch} (omega (arith, ltb-false 0 m.strips h))

module _ (s : Sheet) (plan : List ℕ) where
  -- the mosaic
  mosaic_true : (section_verdict s plan 1).number ≡ 0 → ltb 0 s.mosaic.strips ≡ true → MosaicTrue s plan (mosaic_part s plan) begun (stated_batches s plan)
  unfolding present part_at pick_part stated_batches member_place head_form member_form
  mosaic_true e h =
      subst (λ (at : ℕ). MosaicTrue s plan (mosaic_part s plan) begun (batches_from plan at (mosaic_part s plan).members)) (omega arith)
      (mosaic_judged s plan (mosaic_part s plan) (mosaic_part s plan).members 0 begun (present_right s plan 1 h e))

  pub mosaic_none : ltb 0 s.mosaic.strips ≡ false → stated_batches s plan ≡ []
  unfolding stated_batches mosaic_part
  mosaic_none h = none_read batch_from (size_of batch_form) plan _ _ (absent_part (ltb 0 s.mosaic.strips) plan 0 mosaic_head_form batch_form h)

  pub mosaic_read : (section_verdict s plan 1).number ≡ 0 → MosaicRuns s.mosaic no_batch (stated_batches s plan)
  unfolding begun no_batch
  mosaic_read e = go (ltb 0 s.mosaic.strips) refl
    where
      go : (x : Bool) → ltb 0 s.mosaic.strips ≡ x → MosaicRuns s.mosaic no_batch (stated_batches s plan)
      go true h = (mosaic_true e h).runs
      go false h = rw (mosaic_none h) (no_batches s.mosaic h)

  pub mosaic_figure_read : (section_verdict s plan 1).number ≡ 0 → ltb 0 s.mosaic.strips ≡ true
      → figure_from mosaic_head_form plan (mosaic_part s plan).head ≡ mosaic_figure s.mosaic (stated_batches s plan)
  unfolding begun
  mosaic_figure_read e h = (mosaic_true e h).figure ∙ omega (arith, mosaic_figure_lem s.mosaic (stated_batches s plan) (mosaic_read e))

  -- the sorting
  sorting_true : (section_verdict s plan 2).number ≡ 0 → ltb 0 (strips_in_all s.sorting) ≡ true
      → SortingTrue s plan (sorting_part s plan) begun (stated_jobs s plan)
  unfolding present part_at pick_part stated_jobs member_place head_form member_form
  sorting_true e h =
      subst (λ (at : ℕ). SortingTrue s plan (sorting_part s plan) begun (jobs_from plan at (sorting_part s plan).members)) (omega arith)
      (sorting_judged s plan (sorting_part s plan) (sorting_part s plan).members 0 begun (present_right s plan 2 h e))

  pub sorting_none : ltb 0 (strips_in_all s.sorting) ≡ false → stated_jobs s plan ≡ []
  unfolding stated_jobs sorting_part
  sorting_none h =
      none_read job_from (size_of job_form) plan _ _ (absent_part (ltb 0 (strips_in_all s.sorting)) plan (mosaic_part s plan).end sorting_head_form job_form h)

no_strips : (counts : List ℕ) (i : ℕ) → i < 3 → get_or counts 0 0 + get_or counts 1 0 + get_or counts 2 0 ≤ 0 → get_or counts i 0 ≡ 0
no_strips counts zero l h = omega arith
no_strips counts (suc zero) l h = omega arith
no_strips counts (suc (suc zero)) l h = omega arith
no_strips counts (suc (suc (suc i))) l h = absurd (omega arith)

none_done : (i : ℕ) → ◌≡◌ {A = ℕ} (get_or (0 ∷ 0 ∷ 0 ∷ []) i 0) 0
none_done zero = refl
none_done (suc zero) = refl
none_done (suc (suc zero)) = refl
none_done (suc (suc (suc i))) = refl

all_done_none : (t : SortingSection) → SortingSound t → ltb 0 (strips_in_all t) ≡ false → AllDone t free_desks
unfolding free_desks strips_of strips_in_all
all_done_none t sound h =
    let l = ltb-false _ _ h in
    record { all = λ desk p q. none_done (desk - 1) ∙ sym (no_strips t.counts (desk - 1) (omega (arith, sound.most_desks_holds)) l) }

no_order : (f : FlightSection) → FlightSound f → f.blocks ≡ 0 → (o : Bool) → f.ordered ≡ o
    → Proper f.blocks (cond o f.order 0) × (f.ordered ≡ true → cond o f.order 0 ≡ f.order)
unfolding is_proper seconds never_more_seconds
no_order f sound z true e = (sound.given e, λ h. refl)
no_order f sound z false e = (subst (λ (n : ℕ). Proper n 0) (sym z) (proper_true 0 0 refl), λ h. let y : ◌≡◌ {A = ℕ} 0 1 = cc in absurd (omega arith))

module _ (s : Sheet) (plan : List ℕ) (sound : SheetSound s) where
  pub sorting_read : (section_verdict s plan 2).number ≡ 0 → SortingRuns s.sorting free_desks (stated_jobs s plan)
  unfolding begun
  sorting_read e = go (ltb 0 (strips_in_all s.sorting)) refl
    where
      go : (x : Bool) → ltb 0 (strips_in_all s.sorting) ≡ x → SortingRuns s.sorting free_desks (stated_jobs s plan)
      go true h = (sorting_true s plan e h).runs
      go false h = rw (sorting_none s plan h) (SortingRuns.none (all_done_none s.sorting sound.sorting h))

  pub sorting_figure_read : (section_verdict s plan 2).number ≡ 0 → ltb 0 (strips_in_all s.sorting) ≡ true
      → figure_from sorting_head_form plan (sorting_part s plan).head ≡ sorting_figure s.sorting (stated_jobs s plan)
  unfolding begun
  sorting_figure_read e h = (sorting_true s plan e h).figure ∙ omega (arith, sorting_figure_lem s.sorting (stated_jobs s plan))

  -- the flight
  flight_true : (section_verdict s plan 3).number ≡ 0 → ltb 0 s.flight.blocks ≡ true → FlightTrue s plan (flight_part s plan)
  unfolding present part_at pick_part
  flight_true e h = flight_judged s plan (flight_part s plan) begun (present_right s plan 3 h e)

  pub flight_none : ltb 0 s.flight.blocks ≡ false → stated_passes s plan ≡ []
  unfolding stated_passes flight_part
  flight_none h =
      none_read passes_from (size_of passes_form) plan _ _ (absent_part (ltb 0 s.flight.blocks) plan (sorting_part s plan).end flight_head_form passes_form h)

  no_blocks : ltb 0 s.flight.blocks ≡ false → FlightRuns s.flight (cond s.flight.ordered s.flight.order 0) []
  no_blocks h =
      let z : s.flight.blocks ≡ 0 = omega (arith, ltb-false 0 s.flight.blocks h) in
      let o = no_order s.flight sound.flight z s.flight.ordered refl in
      record {
        members = λ i l. absurd (omega arith);
        head = record { every_block = sym z; allowed = record { proper = o.0; as_given = o.1 }; in_order = λ k l. absurd (omega arith) };
      }

  pub flight_read : (section_verdict s plan 3).number ≡ 0 → FlightRuns s.flight (stated_order s plan) (stated_passes s plan)
  unfolding stated_order stated_passes
  flight_read e = go (ltb 0 s.flight.blocks) refl
    where
      go : (x : Bool) → ltb 0 s.flight.blocks ≡ x
          → FlightRuns s.flight (cond x (order_from plan (flight_part s plan).head) (cond s.flight.ordered s.flight.order 0)) (stated_passes s plan)
      go true h = (flight_true e h).runs
      go false h = subst (λ (ps : List Passes). FlightRuns s.flight (cond s.flight.ordered s.flight.order 0) ps) (sym (flight_none h)) (no_blocks h)

  pub flight_figure_read : (section_verdict s plan 3).number ≡ 0 → ltb 0 s.flight.blocks ≡ true
      → figure_from flight_head_form plan (flight_part s plan).head ≡ flight_figure s.flight (stated_passes s plan)
  unfolding stated_passes
  flight_figure_read e h = (flight_true e h).figure

-- what is stated is lawful
pub stated_lawful : (s : Sheet) (plan : List ℕ) → SheetSound s → PlanRight s plan → PlanLawful s (stated_plan s plan)
unfolding stated_plan
stated_lawful s plan sound r =
    let f = runs_flight s.flight (stated_order s plan) (stated_passes s plan) sound.flight (flight_read s plan sound r.sections.flight) in
    record {
      mosaic = runs_mosaic s.mosaic (stated_batches s plan) (mosaic_read s plan r.sections.mosaic);
      sorting = runs_sorting s.sorting (stated_jobs s plan) sound.sorting (sorting_read s plan sound r.sections.sorting);
      flight = f.0;
      kept = f.1;
      order = f.2;
    }

-- the bytes of a section that is present state its figure
same_bytes : {A : Type 0} (bytes : A → List ℕ) (x : Bool) (a b : A) → (x ≡ true → a ≡ b) → cond x (bytes a) [] ≡ cond x (bytes b) []
same_bytes bytes true a b h = ap bytes (h refl)
same_bytes bytes false a b h = refl

part_head : (x : Bool) (plan : List ℕ) (at : ℕ) (head member : Form) → (part_by_forms x plan at head member).head ≡ at
unfolding part_of part_from
part_head true plan at head member = go (is_field (field_at plan at) head.tag (content_length head))
  where
    go : (b : Bool)
        → (cond b (part_from plan at (content_length head) member.tag (content_length member)) (record { right = false; head = at; members = 0; end = at })).head
        ≡ at
    go true = refl
    go false = refl
part_head false plan at head member = refl

-- the bytes of each section, as its figure and its members are read behind an offset
abbrev mosaic_at : Sheet → List ℕ → ℕ → List ℕ
mosaic_at s plan at =
    form_bytes mosaic_head_form (figure_from mosaic_head_form plan at ∷ [])
    ++ members_bytes batch_bytes (batches_from plan (at + size_of mosaic_head_form) (mosaic_part s plan).members)

abbrev sorting_at : Sheet → List ℕ → ℕ → List ℕ
sorting_at s plan at =
    form_bytes sorting_head_form (figure_from sorting_head_form plan at ∷ [])
    ++ members_bytes job_bytes (jobs_from plan (at + size_of sorting_head_form) (sorting_part s plan).members)

abbrev flight_at : Sheet → List ℕ → ℕ → List ℕ
flight_at s plan at =
    form_bytes flight_head_form (figure_from flight_head_form plan at ∷ order_from plan at ∷ [])
    ++ members_bytes passes_bytes (blocks_from plan (at + size_of flight_head_form) (flight_part s plan).members)

module _ (s : Sheet) (plan : List ℕ) (bytes : AreBytes plan) (sound : SheetSound s) (r : PlanRight s plan) where
  mosaic_head_lem : (mosaic_part s plan).head ≡ 0
  unfolding mosaic_part
  mosaic_head_lem = part_head (ltb 0 s.mosaic.strips) plan 0 mosaic_head_form batch_form

  sorting_head_lem : (sorting_part s plan).head ≡ (mosaic_part s plan).end
  unfolding sorting_part
  sorting_head_lem = part_head (ltb 0 (strips_in_all s.sorting)) plan (mosaic_part s plan).end sorting_head_form job_form

  flight_head_lem : (flight_part s plan).head ≡ (sorting_part s plan).end
  unfolding flight_part
  flight_head_lem = part_head (ltb 0 s.flight.blocks) plan (sorting_part s plan).end flight_head_form passes_form

  mosaic_raw : drop 0 plan ≡ cond (ltb 0 s.mosaic.strips) (mosaic_at s plan 0) [] ++ drop (mosaic_part s plan).end plan
  unfolding batch_kind mosaic_part
  mosaic_raw = part_stands batch_kind plan bytes 0 mosaic_head_form _ (mosaic_head_stands plan bytes 0) (ltb 0 s.mosaic.strips) r.layout.mosaic

  sorting_raw : drop (mosaic_part s plan).end plan
      ≡ cond (ltb 0 (strips_in_all s.sorting)) (sorting_at s plan (mosaic_part s plan).end) [] ++ drop (sorting_part s plan).end plan
  unfolding job_kind sorting_part
  sorting_raw =
      part_stands job_kind plan bytes (mosaic_part s plan).end sorting_head_form _ (sorting_head_stands plan bytes (mosaic_part s plan).end)
      (ltb 0 (strips_in_all s.sorting)) r.layout.sorting

  flight_raw : drop (sorting_part s plan).end plan
      ≡ cond (ltb 0 s.flight.blocks) (flight_at s plan (sorting_part s plan).end) [] ++ drop (flight_part s plan).end plan
  unfolding passes_kind flight_part
  flight_raw =
      part_stands passes_kind plan bytes (sorting_part s plan).end flight_head_form _ (flight_head_stands plan bytes (sorting_part s plan).end)
      (ltb 0 s.flight.blocks) r.layout.flight

  mosaic_stands : drop 0 plan
      ≡ if_present s.mosaic.strips (mosaic_bytes (mosaic_figure s.mosaic (stated_batches s plan)) (stated_batches s plan))
      ++ drop (mosaic_part s plan).end plan
  unfolding if_present mosaic_bytes stated_batches
  mosaic_stands =
      mosaic_raw
      ∙ ap (λ (at : ℕ). cond (ltb 0 s.mosaic.strips) (mosaic_at s plan at) [] ++ drop (mosaic_part s plan).end plan) (sym mosaic_head_lem)
      ∙ ap (λ (l : List ℕ). l ++ drop (mosaic_part s plan).end plan)
      (same_bytes (λ (figure : ℕ). mosaic_bytes figure (stated_batches s plan)) (ltb 0 s.mosaic.strips) _ _ (mosaic_figure_read s plan r.sections.mosaic))

  sorting_stands : drop (mosaic_part s plan).end plan
      ≡ if_present (strips_in_all s.sorting) (sorting_bytes (sorting_figure s.sorting (stated_jobs s plan)) (stated_jobs s plan))
      ++ drop (sorting_part s plan).end plan
  unfolding if_present sorting_bytes stated_jobs
  sorting_stands =
      sorting_raw
      ∙ ap (λ (at : ℕ). cond (ltb 0 (strips_in_all s.sorting)) (sorting_at s plan at) [] ++ drop (sorting_part s plan).end plan) (sym sorting_head_lem)
      ∙ ap (λ (l : List ℕ). l ++ drop (sorting_part s plan).end plan)
      (same_bytes (λ (figure : ℕ). sorting_bytes figure (stated_jobs s plan)) (ltb 0 (strips_in_all s.sorting)) _ _ (sorting_figure_read s plan sound r.sections.sorting))

  order_read : ltb 0 s.flight.blocks ≡ true → order_from plan (flight_part s plan).head ≡ stated_order s plan
  unfolding stated_order
  order_read h = rw h

  flight_stands : drop (sorting_part s plan).end plan
      ≡ if_present s.flight.blocks (flight_bytes (flight_figure s.flight (stated_passes s plan)) (stated_order s plan) (stated_passes s plan))
      ++ drop (flight_part s plan).end plan
  unfolding if_present flight_bytes stated_passes
  flight_stands =
      flight_raw
      ∙ ap (λ (at : ℕ). cond (ltb 0 s.flight.blocks) (flight_at s plan at) [] ++ drop (flight_part s plan).end plan) (sym flight_head_lem)
      ∙ ap (λ (l : List ℕ). l ++ drop (flight_part s plan).end plan)
      (same_bytes (λ (figure : ℕ). flight_bytes figure (order_from plan (flight_part s plan).head) (stated_passes s plan)) (ltb 0 s.flight.blocks) _ _ (flight_figure_read s plan sound r.sections.flight)
      ∙ same_bytes (λ (order : ℕ). flight_bytes (flight_figure s.flight (stated_passes s plan)) order (stated_passes s plan)) (ltb 0 s.flight.blocks) _ _ order_read)

  nothing_behind : drop (flight_part s plan).end plan ≡ []
  nothing_behind = ap (λ (n : ℕ). drop n plan) r.layout.end ∙ drop-length plan

  joined : (a b c d : List ℕ) → d ≡ [] → a ++ (b ++ (c ++ d)) ≡ a ++ b ++ c
  joined a b c d e = rw (e, append-nil c) (sym (append_assoc a b c))

  plan_stands : plan ≡ plan_bytes s (stated_plan s plan)
  unfolding plan_bytes stated_plan
  plan_stands =
      mosaic_stands
      ∙ ap (λ (l : List ℕ). if_present s.mosaic.strips (mosaic_bytes (mosaic_figure s.mosaic (stated_batches s plan)) (stated_batches s plan)) ++ l)
      (sorting_stands
      ∙ ap (λ (l : List ℕ). if_present (strips_in_all s.sorting) (sorting_bytes (sorting_figure s.sorting (stated_jobs s plan)) (stated_jobs s plan)) ++ l) flight_stands)
      ∙ joined (if_present s.mosaic.strips (mosaic_bytes (mosaic_figure s.mosaic (stated_batches s plan)) (stated_batches s plan)))
      (if_present (strips_in_all s.sorting) (sorting_bytes (sorting_figure s.sorting (stated_jobs s plan)) (stated_jobs s plan)))
      (if_present s.flight.blocks (flight_bytes (flight_figure s.flight (stated_passes s plan)) (stated_order s plan) (stated_passes s plan)))
      (drop (flight_part s plan).end plan) nothing_behind

  pub right_allowed : Allowed s plan
  right_allowed = record { plan = stated_plan s plan; lawful = stated_lawful s plan sound r; layout = plan_stands }
