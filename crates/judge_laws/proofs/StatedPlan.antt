-- What a plan states. Where the judge finds no fault, the figures that it gives are those of the timetables stated; and an allowed plan states itself.
use Rattle.std.specs.Prelude.{ℕ, ◌+◌, ◌*◌, ◌^◌, ◌≡◌, Bool, List}
use Rattle.std.proofs.Math.Path.{refl, sym}
use Rattle.std.proofs.Common.{ap, ◌∙◌}
use Rattle.std.proofs.Math.Bool.{true, false, cond}
use native.Mathlib.Omega.{arith}
use Rattle.std.proofs.Math.ListN.{length}
use Rattle.std.proofs.Math.Dec.{ltb}
use borrow.Author.Tests.{ltb-false}
use Rattle.sheet.specs.Sound.{SheetSound, strips_in_all}
use Rattle.sheet.specs.declared.Sheet.{Sheet}
use Rattle.rules.specs.Mosaic.{mosaic_figure}
use Rattle.rules.specs.Sorting.{sorting_figure}
use Rattle.rules.specs.Flight.{flight_figure}
use Rattle.rules.specs.Plan.{Plan, plan_bytes, PlanLawful}
use Rattle.plan_format.specs.Format.{size_of, mosaic_head_form, batch_form, sorting_head_form, job_form}
use Rattle.plan_read.specs.PlanRead.{order_from, batches_from, jobs_from}
use Rattle.rules_laws.proofs.Fits.{batches_most, jobs_all}
use Rattle.rules_laws.proofs.Determined.{no_member}
use Rattle.judge_layout.specs.Layout.{mosaic_part, sorting_part, flight_part}
use Rattle.judge_members.specs.Members.{present, head_form, member_form, member_place}
use Rattle.judge.specs.Judged.{pick_part, part_at, stated_figure}
use Rattle.judge.specs.Stated.{stated_batches, stated_jobs, stated_passes, stated_order, stated_plan}
use Rattle.judge_laws.specs.Outcomes.{PlanRight}
use Rattle.judge_laws.proofs.Allows.{mosaic_none, sorting_none, flight_none, mosaic_figure_read, sorting_figure_read, flight_figure_read}
use Rattle.judge_laws.proofs.Written.{no_sum, no_greatest, by_presence, batches_read, jobs_read, passes_read, order_stated}

-- the figures stated are those of the timetables stated; an absent section has figure 0
module _ (s : Sheet) (plan : List ℕ) (sound : SheetSound s) (r : PlanRight s plan) where
  pub mosaic_figure_of : stated_figure s plan 1 ≡ mosaic_figure s.mosaic (stated_batches s plan)
  unfolding stated_figure present head_form part_at pick_part mosaic_figure
  mosaic_figure_of =
      by_presence (ltb 0 s.mosaic.strips) _ _ (mosaic_figure_read s plan r.sections.mosaic)
      (λ h. no_sum s.mosaic.strips _ (omega (arith, ltb-false 0 s.mosaic.strips h)))

  pub sorting_figure_of : stated_figure s plan 2 ≡ sorting_figure s.sorting (stated_jobs s plan)
  unfolding stated_figure present head_form part_at pick_part sorting_figure
  sorting_figure_of =
      by_presence (ltb 0 (strips_in_all s.sorting)) _ _ (sorting_figure_read s plan sound r.sections.sorting)
      (λ h. no_sum (length (stated_jobs s plan)) _ (ap length (sorting_none s plan h)))

  pub flight_figure_of : stated_figure s plan 3 ≡ flight_figure s.flight (stated_passes s plan)
  unfolding stated_figure present head_form part_at pick_part flight_figure
  flight_figure_of =
      by_presence (ltb 0 s.flight.blocks) _ _ (flight_figure_read s plan sound r.sections.flight)
      (λ h. no_greatest (2 * s.flight.blocks) _ (omega (arith, ltb-false 0 s.flight.blocks h)))

-- what is read from the bytes of a lawful plan is the plan
module _ (s : Sheet) (p : Plan) (plan : List ℕ) (sound : SheetSound s) (L : PlanLawful s p) (e : plan ≡ plan_bytes s p) where
  batches_stated : stated_batches s plan ≡ p.batches
  unfolding stated_batches member_place head_form member_form
  batches_stated = go (ltb 0 s.mosaic.strips) refl
    where
      first : (mosaic_part s plan).head + size_of mosaic_head_form ≡ (mosaic_part s plan).head + size_of mosaic_head_form + 0 * size_of batch_form
      first = omega arith

      go : (x : Bool) → ltb 0 s.mosaic.strips ≡ x
          → batches_from plan ((mosaic_part s plan).head + size_of mosaic_head_form) (mosaic_part s plan).members ≡ p.batches
      go true h = ap (λ (at : ℕ). batches_from plan at (mosaic_part s plan).members) first ∙ batches_read s p plan sound L e h
      go false h =
          mosaic_none s plan h
          ∙ sym (no_member p.batches (omega (arith, batches_most s.mosaic p.batches sound.mosaic L.mosaic, ltb-false 0 s.mosaic.strips h)))

  jobs_stated : stated_jobs s plan ≡ p.jobs
  unfolding stated_jobs member_place head_form member_form
  jobs_stated = go (ltb 0 (strips_in_all s.sorting)) refl
    where
      first : (sorting_part s plan).head + size_of sorting_head_form ≡ (sorting_part s plan).head + size_of sorting_head_form + 0 * size_of job_form
      first = omega arith

      go : (x : Bool) → ltb 0 (strips_in_all s.sorting) ≡ x
          → jobs_from plan ((sorting_part s plan).head + size_of sorting_head_form) (sorting_part s plan).members ≡ p.jobs
      go true h = ap (λ (at : ℕ). jobs_from plan at (sorting_part s plan).members) first ∙ jobs_read s p plan sound L e h
      go false h =
          sorting_none s plan h
          ∙ sym (no_member p.jobs (omega (arith, jobs_all s.sorting p.jobs sound.sorting L.sorting, ltb-false 0 (strips_in_all s.sorting) h)))

  passes_stated : stated_passes s plan ≡ p.passes
  unfolding stated_passes
  passes_stated = go (ltb 0 s.flight.blocks) refl
    where
      go : (x : Bool) → ltb 0 s.flight.blocks ≡ x → stated_passes s plan ≡ p.passes
      go true h = passes_read s p plan sound L e h
      go false h =
          flight_none s plan sound h
          ∙ sym (no_member p.passes (omega (arith, L.flight.every_block, ltb-false 0 s.flight.blocks h)))

  -- without blocks the order number is the one given, or 0
  order_of_none : ltb 0 s.flight.blocks ≡ false → (x : Bool) → s.flight.ordered ≡ x → cond x s.flight.order 0 ≡ p.order
  order_of_none h true o = sym (L.order.as_given o)
  order_of_none h false o = omega (arith, L.order.proper.no_higher, ap (λ (k : ℕ). 2 ^ k) none)
    where
      none : 2 * s.flight.blocks ≡ 0
      none = omega (arith, ltb-false 0 s.flight.blocks h)

  order_is_stated : stated_order s plan ≡ p.order
  unfolding stated_order
  order_is_stated = go (ltb 0 s.flight.blocks) refl
    where
      go : (x : Bool) → ltb 0 s.flight.blocks ≡ x
          → cond x (order_from plan (flight_part s plan).head) (cond s.flight.ordered s.flight.order 0) ≡ p.order
      go true h = order_stated s p plan sound L e h
      go false h = order_of_none h s.flight.ordered refl

  pub plan_stated : stated_plan s plan ≡ p
  unfolding stated_plan
  plan_stated = λ i. record { batches = batches_stated i; jobs = jobs_stated i; order = order_is_stated i; passes = passes_stated i }
