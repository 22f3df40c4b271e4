-- What the printer of a whole plan asks and leaves: the lines of its sections, by where they stand in the plan.
use Rattle.std.specs.Prelude.{ℕ, ◌+◌, ◌*◌, ◌≤◌, List, ◌++◌, length}
use Rattle.sheet.specs.Limits.{most_strips, most_desks, most_strips_of_desk, most_blocks, page_length}
use Rattle.plan_format.specs.Format.{size_of, batch_form, job_form, passes_form}
use Rattle.judge.specs.declared.Examined.{Examined}
use Rattle.page_sections.specs.Printed.{mosaic_printed, sorting_printed, flight_printed}

-- the lines of a plan that was examined
unfoldable pub examined_lines : List ℕ → Examined → List (List ℕ)
examined_lines plan e =
    mosaic_printed plan e.mosaic e.judged.mosaic
    ++ sorting_printed plan e.sorting e.judged.sorting
    ++ flight_printed plan e.flight e.judged.flight

-- a page buffer of the length that every page fits, and sections within their plan, with no more members than a sheet may have
pub record PrintSectionsPre (page plan : List ℕ) (e : Examined) : Type 0 where
  pub room : page_length ≤ length page
  pub batches : e.mosaic.members ≤ most_strips
  pub jobs : e.sorting.members ≤ most_desks * most_strips_of_desk
  pub blocks : e.flight.members ≤ most_blocks
  pub mosaic : e.mosaic.head + size_of batch_form * e.mosaic.members ≤ length plan
  pub sorting : e.sorting.head + size_of job_form * e.sorting.members ≤ length plan
  pub flight : e.flight.head + size_of passes_form * e.flight.members ≤ length plan
