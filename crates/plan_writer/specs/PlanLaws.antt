-- The sections of a plan stored one behind the other are the plan, and the buffer has room for each.
use Rattle.std.specs.Prelude.{ℕ, ◌≡◌, List, length}
use Rattle.std.proofs.Common.{ap, ◌∙◌, arith}
use Rattle.field.specs.Put.{length_put, Written, then_written}
use Rattle.sheet.specs.Sound.{strips_in_all}
use Rattle.sheet.specs.declared.Sheet.{Sheet}
use Rattle.rules.specs.Plan.{mosaic_bytes, sorting_bytes, flight_bytes, if_present}
use Rattle.mosaic.specs.Plan.{batches_of}
use Rattle.mosaic.specs.declared.MosaicPlan.{MosaicPlan}
use Rattle.sorting.specs.Plan.{jobs_of_plan}
use Rattle.sorting.specs.declared.SortingPlan.{SortingPlan}
use Rattle.flight.specs.Choice.{passes_of_plan}
use Rattle.flight.specs.declared.FlightPlan.{FlightPlan}
use Rattle.plan_writer.specs.Written.{WriteSortingPre, WriteFlightPre, WritePlanPre, plan_of}
use Rattle.plan_writer.specs.SectionLaws.{mosaic_long, sorting_long}

-- The whole plan: room behind each section, and its sections joined.
module _ (d : List ℕ) (s : Sheet) (m : MosaicPlan) (t : SortingPlan) (asked : WritePlanPre d s m t) where
  module _ (d₁ : List ℕ) (at₁ : ℕ) (w₁ : Written d d₁ 0 (if_present s.mosaic.strips (mosaic_bytes m.figure (batches_of m))) at₁) where
    first_long : length d₁ ≡ length d
    first_long = ap length w₁.buffer ∙ length_put d 0 (if_present s.mosaic.strips (mosaic_bytes m.figure (batches_of m)))

    pub sorting_room : WriteSortingPre d₁ at₁ t
    sorting_room =
        record { few = asked.jobs; room = omega (arith, first_long, w₁.end, mosaic_long s.mosaic.strips m, asked.room, asked.batches, asked.jobs) }

    module _ (d₂ : List ℕ) (strips at₂ : ℕ) (e : strips ≡ strips_in_all s.sorting)
        (w₂ : Written d₁ d₂ at₁ (if_present strips (sorting_bytes t.figure (jobs_of_plan t))) at₂) where
      pub flight_room : WriteFlightPre d₂ at₂ s.flight.blocks
      flight_room =
          record {
            few = asked.blocks;
            room =
                omega (
                  arith,
                  first_long,
                  ap length w₂.buffer ∙ length_put d₁ at₁ (if_present strips (sorting_bytes t.figure (jobs_of_plan t))),
                  w₁.end,
                  w₂.end,
                  mosaic_long s.mosaic.strips m,
                  sorting_long strips t,
                  asked.room,
                  asked.batches,
                  asked.jobs,
                  asked.blocks,
                );
          }

      pub plan_written : (d₃ : List ℕ) (f : FlightPlan) (at₃ : ℕ)
          → Written d₂ d₃ at₂ (if_present s.flight.blocks (flight_bytes f.figure f.order (passes_of_plan s.flight.blocks f))) at₃
          → Written d d₃ 0 (plan_of s m t f) at₃
      unfolding plan_of
      plan_written d₃ f at₃ w₃ =
          rw (← e)
          (then_written d d₂ d₃ 0 at₂ at₃ _ _ (then_written d d₁ d₂ 0 at₁ at₂ _ _ w₁ w₂) w₃)
