-- What each function of the sections asks and leaves: the lines of a section by where it stands in the plan.
use Rattle.std.specs.Prelude.{ℕ, ◌+◌, ◌*◌, ◌≤◌, List, ◌∷◌, length}
use Rattle.base.specs.Listed.{listed}
use Rattle.plan_format.specs.Format.{size_of, mosaic_head_form, batch_form, sorting_head_form, job_form, flight_head_form, passes_form}
use Rattle.rules.specs.Plan.{if_present}
use Rattle.plan_read.specs.PlanRead.{batch_from, job_from, passes_from}
use Rattle.judge_layout.specs.declared.Part.{Part}
use Rattle.page_lines.specs.Line.{line_length, head_line, batch_line, job_line, block_line, mosaic_head_letter, sorting_head_letter, flight_head_letter}

-- the line of member i, from 0, of those that stand in a plan from an offset on
unfoldable pub batch_line_from : List ℕ → ℕ → ℕ → List ℕ
batch_line_from plan first i = batch_line (i + 1) (batch_from plan (first + size_of batch_form * i))

unfoldable pub job_line_from : List ℕ → ℕ → ℕ → List ℕ
job_line_from plan first i = job_line (job_from plan (first + size_of job_form * i))

unfoldable pub block_line_from : List ℕ → ℕ → ℕ → List ℕ
block_line_from plan first i = block_line (i + 1) (passes_from plan (first + size_of passes_form * i))

-- the lines of a section, by the letter and the figure of its head and the line of each of its members: none where it has no member
abbrev pub section_printed : ℕ → ℕ → ℕ → (ℕ → List ℕ) → List (List ℕ)
section_printed letter figure members line = if_present members (head_line letter figure ∷ listed members line)

-- those of the mosaic, the sorting and the flight
unfoldable pub mosaic_printed : List ℕ → Part → ℕ → List (List ℕ)
mosaic_printed plan part figure =
    if_present part.members (head_line mosaic_head_letter figure ∷ listed part.members (batch_line_from plan (part.head + size_of mosaic_head_form)))

unfoldable pub sorting_printed : List ℕ → Part → ℕ → List (List ℕ)
sorting_printed plan part figure =
    if_present part.members (head_line sorting_head_letter figure ∷ listed part.members (job_line_from plan (part.head + size_of sorting_head_form)))

unfoldable pub flight_printed : List ℕ → Part → ℕ → List (List ℕ)
flight_printed plan part figure =
    if_present part.members (head_line flight_head_letter figure ∷ listed part.members (block_line_from plan (part.head + size_of flight_head_form)))

-- member i, from 0, of a section of a plan, of members of one size, and room for its line
pub record PutLinePre (page : List ℕ) (at : ℕ) (plan : List ℕ) (head size i : ℕ) : Type 0 where
  pub room : at + line_length ≤ length page
  pub place : head + size * (i + 1) ≤ length plan

-- a section within its plan, and room for its lines
pub record PrintSectionPre (page : List ℕ) (at : ℕ) (plan : List ℕ) (size : ℕ) (part : Part) : Type 0 where
  pub room : at + line_length + line_length * part.members ≤ length page
  pub place : part.head + size * part.members ≤ length plan
