-- The laws that the program's proofs cite: what is written is the chosen plan, each way out of a call is its answer, and the table is cleared.
use Rattle.std.specs.Prelude.{ℕ, ◌+◌, ◌≤◌, ◌<◌, ◌≡◌, true, false, not, take, replicate}
use Rattle.std.proofs.Common.{sym, ◌∙◌, length-take-le}
use Rattle.std.proofs.Math.Path.{ap}
use mathlib.Core.List.{List, ◌++◌}
use native.Mathlib.Omega.{arith}
use Rattle.std.proofs.Math.ListN.{length, drop, length-append}
use borrow.Author.Tests.{lt-ltb, le-ltb, eq-eqb, ne_eqb, not-true, not-false}
use Rattle.field.specs.Put.{put_whole, holding, holding_none, Written}
use Rattle.sheet.specs.Limits.{table_length, plan_length}
use Rattle.sheet.specs.Read.{read_sheet}
use Rattle.sheet.specs.Sound.{MosaicSound, FlightSound, SheetSound, strips_in_all}
use Rattle.sheet.proofs.Theorems.{read_sound}
use Rattle.sheet.specs.Refusals.{table_too_small, buffer_too_small, order_impossible}
use Rattle.sheet.specs.declared.Sheet.{Sheet}
use Rattle.rules.specs.Plan.{plan_bytes, if_present, mosaic_bytes, sorting_bytes, flight_bytes}
use Rattle.rules.specs.Mosaic.{mosaic_figure}
use Rattle.rules.specs.Sorting.{sorting_figure}
use Rattle.rules.specs.Flight.{flight_figure}
use Rattle.rules.specs.declared.Passes.{Passes}
use Rattle.mosaic.specs.Plan.{batches_of}
use Rattle.mosaic.specs.Plan as mosaic
use Rattle.mosaic.specs.Chosen.{chosen_batches}
use Rattle.mosaic.proofs.Theorems.{mosaic_figure_lem}
use Rattle.mosaic.specs.declared.MosaicPlan.{MosaicPlan}
use Rattle.sorting.specs.Plan.{jobs_of_plan, chosen_jobs}
use Rattle.sorting.specs.Clauses as sorting
use Rattle.sorting.proofs.Theorems.{sorting_figure_lem}
use Rattle.sorting.specs.declared.SortingPlan.{SortingPlan}
use Rattle.flight.specs.Choice.{passes_of_plan, chosen_order, chosen_passes, is_possible}
use Rattle.flight.specs.Choice as flight
use Rattle.flight.specs.Theorems.{flight_figure_lem}
use Rattle.flight.specs.declared.FlightPlan.{FlightPlan}
use Rattle.plan_writer.specs.Written.{plan_of}
use Rattle.plan_writer.specs.Written as writer
use Rattle.plan_writer.specs.SectionLaws.{mosaic_long, sorting_long, flight_long}
use Rattle.sheet.specs.Decode.{zeros}
use Rattle.planner.specs.Call.{chosen_plan, sheet_answer, sheet_plan, answer_of, planned_bytes, cleared_to, table_after, Called, PlanWithinPre, Within}
use Rattle.planner.specs.Call.{PlanSectionsPre, Planned}
use Rattle.base.specs.Answer.{answer}
use Rattle.base.specs.declared.Answer.{Answer}

-- a cleared table, in the word of the contract
zeros_are : (n : ℕ) (t : List ℕ) → t ≡ replicate n 0 → t ≡ zeros n
unfolding zeros
zeros_are n t e = e

-- The answers of a sheet that was read, way by way.
module _ (s : Sheet) (plan : List ℕ) where
  pub sheet_refused : (s.number ≡ 0 → ⊥) → Planned s plan plan (answer s.number s.place 0)
  unfolding sheet_answer sheet_plan
  sheet_refused h = record { answer = rw (ne_eqb s.number 0 h); buffer = rw (ne_eqb s.number 0 h) (holding_none plan) }

  impossible : s.number ≡ 0 → is_possible s.flight ≡ false → Planned s plan plan (answer order_impossible s.flight.place 0)
  unfolding sheet_answer sheet_plan
  impossible e h = record { answer = rw (eq-eqb s.number 0 e, h); buffer = rw (eq-eqb s.number 0 e, h) (holding_none plan) }

  pub order_impossible_lem : (f : FlightPlan) → (s.number ≡ 0) → flight.Planned s.flight f → not f.possible ≡ true
      → Planned s plan plan (answer order_impossible s.flight.place 0)
  order_impossible_lem f e p h = impossible e (sym p.possible ∙ not-true f.possible h)

  accepted : (after : List ℕ) (k : ℕ) → s.number ≡ 0 → is_possible s.flight ≡ true → length (plan_bytes s (chosen_plan s)) ≤ length plan
      → Written plan after 0 (plan_bytes s (chosen_plan s)) k
      → Planned s plan after (answer 0 0 k)
  unfolding sheet_answer sheet_plan
  accepted after k e h l w =
      record {
        answer = rw (eq-eqb s.number 0 e, h) (ap (answer 0 0) (w.end ∙ behind));
        buffer = rw (eq-eqb s.number 0 e, h) (w.buffer ∙ put_whole plan (plan_bytes s (chosen_plan s)) l);
      }
    where
      behind : 0 + length (plan_bytes s (chosen_plan s)) ≡ length (plan_bytes s (chosen_plan s))
      behind = omega arith

-- What is written is the chosen plan.
module _ (s : Sheet) (sound : SheetSound s) (possible : is_possible s.flight ≡ true) (m : MosaicPlan) (mosaic_planned : mosaic.Planned s.mosaic m)
    (t : SortingPlan) (table after : List ℕ) (sorting_planned : sorting.Planned s.sorting table after t) (f : FlightPlan)
    (flight_planned : flight.Planned s.flight f) where
  mosaic_same : mosaic_bytes m.figure (batches_of m) ≡ mosaic_bytes (mosaic_figure s.mosaic (chosen_batches s.mosaic)) (chosen_batches s.mosaic)
  mosaic_same = rw (mosaic_figure_lem s.mosaic sound.mosaic, ← mosaic_planned.figure, mosaic_planned.batches)

  sorting_same : sorting_bytes t.figure (jobs_of_plan t) ≡ sorting_bytes (sorting_figure s.sorting (chosen_jobs s.sorting)) (chosen_jobs s.sorting)
  sorting_same = rw (sorting_figure_lem s.sorting sound.sorting, ← sorting_planned.figure, sorting_planned.jobs)

  flight_same : flight_bytes f.figure f.order (passes_of_plan s.flight.blocks f)
      ≡ flight_bytes (flight_figure s.flight (chosen_passes s.flight)) (chosen_order s.flight) (chosen_passes s.flight)
  flight_same =
      ap (λ (x : ℕ). flight_bytes x f.order (passes_of_plan s.flight.blocks f))
      (flight_planned.figure ∙ sym (flight_figure_lem s.flight sound.flight possible))
      ∙ ap (λ (x : ℕ). flight_bytes (flight_figure s.flight (chosen_passes s.flight)) x (passes_of_plan s.flight.blocks f)) flight_planned.order
      ∙ ap (λ (x : List Passes). flight_bytes (flight_figure s.flight (chosen_passes s.flight)) (chosen_order s.flight) x) flight_planned.passes

  plan_same : plan_of s m t f ≡ plan_bytes s (chosen_plan s)
  unfolding plan_of plan_bytes chosen_plan
  plan_same =
      ap
      (λ (l : List ℕ). if_present s.mosaic.strips l ++ if_present (strips_in_all s.sorting) (sorting_bytes t.figure (jobs_of_plan t)) ++ if_present s.flight.blocks (flight_bytes f.figure f.order (passes_of_plan s.flight.blocks f)))
      mosaic_same
      ∙ ap (λ (l : List ℕ). if_present s.mosaic.strips (mosaic_bytes (mosaic_figure s.mosaic (chosen_batches s.mosaic)) (chosen_batches s.mosaic)) ++ if_present (strips_in_all s.sorting) l ++ if_present s.flight.blocks (flight_bytes f.figure f.order (passes_of_plan s.flight.blocks f))) sorting_same
      ∙ ap (λ (l : List ℕ). if_present s.mosaic.strips (mosaic_bytes (mosaic_figure s.mosaic (chosen_batches s.mosaic)) (chosen_batches s.mosaic)) ++ if_present (strips_in_all s.sorting) (sorting_bytes (sorting_figure s.sorting (chosen_jobs s.sorting)) (chosen_jobs s.sorting)) ++ if_present s.flight.blocks l) flight_same

  plan_long : length (plan_of s m t f) ≤ plan_length
  unfolding plan_of
  plan_long =
      omega (
        arith,
        length-append
            (if_present s.mosaic.strips (mosaic_bytes m.figure (batches_of m)) ++ if_present (strips_in_all s.sorting) (sorting_bytes t.figure (jobs_of_plan t)))
            (if_present s.flight.blocks (flight_bytes f.figure f.order (passes_of_plan s.flight.blocks f))),
        length-append (if_present s.mosaic.strips (mosaic_bytes m.figure (batches_of m)))
            (if_present (strips_in_all s.sorting) (sorting_bytes t.figure (jobs_of_plan t))),
        mosaic_long s.mosaic.strips m,
        sorting_long (strips_in_all s.sorting) t,
        flight_long s.flight.blocks f,
        mosaic_planned.few,
        sorting_planned.most,
        sound.flight.most_blocks_holds,
      )

-- What the calls ask.
module _ (s : Sheet) (plan table : List ℕ) (pre : PlanSectionsPre s plan table) (e : s.number ≡ 0) where
  pub plan_flight_pre : FlightSound s.flight
  plan_flight_pre = (pre.sound e).flight

  pub plan_mosaic_pre : MosaicSound s.mosaic
  plan_mosaic_pre = (pre.sound e).mosaic

  pub plan_sorting_pre : sorting.PlanSortingPre s.sorting table
  plan_sorting_pre = record { sound = (pre.sound e).sorting; size = pre.size }

  module _ (m : MosaicPlan) (mosaic_planned : mosaic.Planned s.mosaic m) (t : SortingPlan) (table_end : List ℕ)
      (sorting_planned : sorting.Planned s.sorting table table_end t) where
    pub write_plan_pre : writer.WritePlanPre plan s m t
    write_plan_pre =
        record {
          room = pre.room;
          batches = mosaic_planned.few;
          jobs = sorting_planned.most;
          blocks = (pre.sound e).flight.most_blocks_holds;
          sorting = (pre.sound e).sorting;
        }

    pub sheet_planned : (f : FlightPlan) → flight.Planned s.flight f → not f.possible ≡ false → (after : List ℕ) (k : ℕ)
        → Written plan after 0 (plan_of s m t f) k → Planned s plan after (answer 0 0 k)
    sheet_planned f flight_planned h after k w =
        accepted s plan after k e possible
        (rw (← same) (omega (arith, pre.room, plan_long s (pre.sound e) possible m mosaic_planned t table table_end sorting_planned f flight_planned)))
        (rw same at w)
      where
        possible : is_possible s.flight ≡ true
        possible = sym flight_planned.possible ∙ not-false f.possible h

        same : plan_of s m t f ≡ plan_bytes s (chosen_plan s)
        same = plan_same s (pre.sound e) possible m mosaic_planned t table table_end sorting_planned f flight_planned

-- A call whose buffers are large enough.
pub plan_sections_pre : (sheet plan table : List ℕ) (s : Sheet) → PlanWithinPre plan table → s ≡ read_sheet sheet → PlanSectionsPre s plan table
plan_sections_pre sheet plan table s pre e =
    record { sound = λ z. rw e (read_sound sheet (ap (λ (x : Sheet). x.number) (sym e) ∙ z)); room = pre.room; size = pre.size }

pub call_within : (sheet plan after table used cleared : List ℕ) (s : Sheet) (r : Answer) → PlanWithinPre plan table → s ≡ read_sheet sheet
    → Planned s plan after r → length used ≡ length table → cleared ≡ replicate (length used) 0
    → Within sheet plan after cleared r
call_within sheet plan after table used cleared s r pre e p l z =
    record {
      answer = p.answer ∙ ap sheet_answer e;
      buffer = p.buffer ∙ ap (λ (x : Sheet). holding (sheet_plan x) plan) e;
      table = zeros_are (length used) cleared z ∙ ap zeros
          (l ∙ pre.size);
    }

-- A whole call.
module _ (sheet plan table : List ℕ) where
  pub no_table : length table < table_length → Called sheet plan table plan table (answer table_too_small 0 0)
  unfolding answer_of planned_bytes table_after
  no_table h = record { answer = rw (lt-ltb _ _ h); buffer = rw (lt-ltb _ _ h) (holding_none plan); table = rw (lt-ltb _ _ h) }

  pub no_room : table_length ≤ length table → length plan < plan_length → Called sheet plan table plan table (answer buffer_too_small 0 0)
  unfolding answer_of planned_bytes table_after
  no_room h k =
      record { answer = rw (le-ltb _ _ h, lt-ltb _ _ k); buffer = rw (le-ltb _ _ h, lt-ltb _ _ k) (holding_none plan); table = rw (le-ltb _ _ h, lt-ltb _ _ k) }

  module _ (h : table_length ≤ length table) (k : plan_length ≤ length plan) where
    pub part_long : table_length ≡ length (take table_length table)
    part_long = sym (length-take-le table_length table h)

    pub plan_within_pre : PlanWithinPre plan (take table_length table)
    plan_within_pre = record { room = k; size = length-take-le table_length table h }

    pub called : (after part : List ℕ) (r : Answer) → Within sheet plan after part r → Called sheet plan table after (part ++ drop table_length table) r
    unfolding answer_of planned_bytes table_after cleared_to
    called after part r w =
        record {
          answer = rw (le-ltb _ _ h, le-ltb _ _ k) w.answer;
          buffer = rw (le-ltb _ _ h, le-ltb _ _ k) w.buffer;
          table = rw (le-ltb _ _ h, le-ltb _ _ k) (ap (λ (l : List ℕ). l ++ drop table_length table) w.table);
        }
