-- What a plan states: the timetable of each section of its sheet, read from the plan's bytes where the sections stand.
use Rattle.std.specs.Prelude.{ℕ, ◌+◌, cond, List, ltb}
use Rattle.sheet.specs.declared.Sheet.{Sheet}
use Rattle.plan_format.specs.Format.{size_of, mosaic_head_form, sorting_head_form, flight_head_form}
use Rattle.rules.specs.Plan.{Plan}
use Rattle.rules.specs.declared.Batch.{Batch}
use Rattle.rules.specs.declared.Job.{Job}
use Rattle.rules.specs.declared.Passes.{Passes}
use Rattle.plan_read.specs.PlanRead.{order_from, batches_from, jobs_from, blocks_from}
use Rattle.judge_layout.specs.Layout.{mosaic_part, sorting_part, flight_part}

unfoldable pub stated_batches : Sheet → List ℕ → List Batch
stated_batches s plan = batches_from plan ((mosaic_part s plan).head + size_of mosaic_head_form) (mosaic_part s plan).members

unfoldable pub stated_jobs : Sheet → List ℕ → List Job
stated_jobs s plan = jobs_from plan ((sorting_part s plan).head + size_of sorting_head_form) (sorting_part s plan).members

unfoldable pub stated_passes : Sheet → List ℕ → List Passes
stated_passes s plan = blocks_from plan ((flight_part s plan).head + size_of flight_head_form) (flight_part s plan).members

-- without blocks: the order that the sheet has, or 0
unfoldable pub stated_order : Sheet → List ℕ → ℕ
stated_order s plan = cond (ltb 0 s.flight.blocks) (order_from plan (flight_part s plan).head) (cond s.flight.ordered s.flight.order 0)

unfoldable pub stated_plan : Sheet → List ℕ → Plan
stated_plan s plan = record { batches = stated_batches s plan; jobs = stated_jobs s plan; order = stated_order s plan; passes = stated_passes s plan }
