-- The page of a plan (02, Req 02): its lines, which crate page_lines says column by column (specs/Line.antt), and its bytes. It is a function of the sheet's
-- sections and of the plan's timetable. The flight's order number is not printed.
use Rattle.std.specs.Prelude.{ℕ, ◌+◌, List, ◌∷◌, ◌++◌, length}
use Rattle.base.specs.Listed.{listed}
use Rattle.sheet.specs.Sound.{strips_in_all}
use Rattle.sheet.specs.declared.Sheet.{Sheet}
use Rattle.rules.specs.Mosaic.{batch_at, mosaic_figure}
use Rattle.rules.specs.Sorting.{job_at, sorting_figure}
use Rattle.rules.specs.Flight.{passes_at, flight_figure}
use Rattle.rules.specs.Plan.{Plan, if_present}
use Rattle.rules.specs.declared.Batch.{Batch}
use Rattle.rules.specs.declared.Job.{Job}
use Rattle.rules.specs.declared.Passes.{Passes}
use Rattle.page_lines.specs.Line.{lines_bytes, head_line, batch_line, job_line, block_line, mosaic_head_letter, sorting_head_letter, flight_head_letter}

-- the lines of each section: its head line, then a line for each member in the plan's order; batches and blocks are numbered from 1
unfoldable pub mosaic_lines : ℕ → List Batch → List (List ℕ)
mosaic_lines figure bs = head_line mosaic_head_letter figure ∷ listed (length bs) (λ i. batch_line (i + 1) (batch_at bs i))

unfoldable pub sorting_lines : ℕ → List Job → List (List ℕ)
sorting_lines figure js = head_line sorting_head_letter figure ∷ listed (length js) (λ i. job_line (job_at js i))

unfoldable pub flight_lines : ℕ → List Passes → List (List ℕ)
flight_lines figure ps = head_line flight_head_letter figure ∷ listed (length ps) (λ i. block_line (i + 1) (passes_at ps i))

-- the lines of a plan: those of the sheet's sections, in its order
unfoldable pub page_lines : Sheet → Plan → List (List ℕ)
page_lines s p =
    if_present s.mosaic.strips (mosaic_lines (mosaic_figure s.mosaic p.batches) p.batches)
    ++ if_present (strips_in_all s.sorting) (sorting_lines (sorting_figure s.sorting p.jobs) p.jobs)
    ++ if_present s.flight.blocks (flight_lines (flight_figure s.flight p.passes) p.passes)

-- the page: the bytes of its lines
unfoldable pub page_bytes : Sheet → Plan → List ℕ
page_bytes s p = lines_bytes (page_lines s p)
