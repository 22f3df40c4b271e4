-- What each function of the writer asks and leaves. The layout itself is that of crate rules (specs/Plan.antt).
use Rattle.std.specs.Prelude.{ℕ, ◌+◌, ◌*◌, ◌≤◌, List, ◌++◌, length}
use Rattle.sheet.specs.Limits.{most_strips, most_desks, most_strips_of_desk, most_blocks, plan_length}
use Rattle.sheet.specs.Sound.{SortingSound, strips_in_all}
use Rattle.sheet.specs.declared.Sheet.{Sheet}
use Rattle.plan_format.specs.Format.{size_of, mosaic_head_form, batch_form, sorting_head_form, job_form, flight_head_form, passes_form}
use Rattle.rules.specs.Plan.{mosaic_bytes, sorting_bytes, flight_bytes, if_present}
use Rattle.mosaic.specs.Plan.{batches_of}
use Rattle.mosaic.specs.declared.MosaicPlan.{MosaicPlan}
use Rattle.sorting.specs.Plan.{jobs_of_plan}
use Rattle.sorting.specs.declared.SortingPlan.{SortingPlan}
use Rattle.flight.specs.Choice.{passes_of_plan}
use Rattle.flight.specs.declared.FlightPlan.{FlightPlan}

-- a plan of no more members than a sheet may have, and room for its section
pub record WriteMosaicPre (d : List ℕ) (at : ℕ) (p : MosaicPlan) : Type 0 where
  pub few : p.count ≤ most_strips
  pub room : at + size_of mosaic_head_form + size_of batch_form * p.count ≤ length d

pub record WriteSortingPre (d : List ℕ) (at : ℕ) (p : SortingPlan) : Type 0 where
  pub few : p.count ≤ most_desks * most_strips_of_desk
  pub room : at + size_of sorting_head_form + size_of job_form * p.count ≤ length d

pub record WriteFlightPre (d : List ℕ) (at n : ℕ) : Type 0 where
  pub few : n ≤ most_blocks
  pub room : at + size_of flight_head_form + size_of passes_form * n ≤ length d

-- a plan buffer of the length that every plan fits, and plans of no more members than a sheet may have
pub record WritePlanPre (d : List ℕ) (s : Sheet) (m : MosaicPlan) (t : SortingPlan) : Type 0 where
  pub room : plan_length ≤ length d
  pub batches : m.count ≤ most_strips
  pub jobs : t.count ≤ most_desks * most_strips_of_desk
  pub blocks : s.flight.blocks ≤ most_blocks
  pub sorting : SortingSound s.sorting

-- the bytes of the sections that the sheet has
unfoldable pub plan_of : Sheet → MosaicPlan → SortingPlan → FlightPlan → List ℕ
plan_of s m t f =
    if_present s.mosaic.strips (mosaic_bytes m.figure (batches_of m))
    ++ if_present (strips_in_all s.sorting) (sorting_bytes t.figure (jobs_of_plan t))
    ++ if_present s.flight.blocks (flight_bytes f.figure f.order (passes_of_plan s.flight.blocks f))
