-- No number on the page of a lawful plan of a sound sheet is cut: each has no more digits than its field has columns, so that the columns say the number.
-- The bounds are those of lawful timetables (crate rules_laws, specs/Fits.antt): at most 40 members of a kind, times up to the
-- ceiling, figures up to 40 × 100 times the ceiling.
use Rattle.std.specs.Prelude.{ℕ, ◌+◌, ◌-◌, ◌^◌, ◌≤◌, ◌<◌, ◌≡◌, ◌++◌, length, replicate}
use Rattle.decimal.specs.Columns.{space, columns, columns_value}
use Rattle.decimal.specs.Digits.{digits_of}
use Rattle.sheet.specs.declared.Sheet.{Sheet}
use Rattle.rules.specs.Mosaic.{batch_at, mosaic_figure}
use Rattle.rules.specs.Sorting.{job_at, sorting_figure}
use Rattle.rules.specs.Flight.{passes_at, flight_figure}
use Rattle.rules.specs.Plan.{Plan}
use Rattle.rules_laws.proofs.Fits.{batch_last, batch_start, job_desk, job_number, job_scan, job_start}

-- a number fits its columns, stands in them "right-aligned with spaces, no leading zeros" (`digits_of` has its fewest digits), and is read back from them
pub record Uncut (width value : ℕ) : Type 0 where
  pub fits : value < 10 ^ width
  pub aligned : columns space width value ≡ replicate (width - length (digits_of value)) space ++ digits_of value
  pub back : columns_value (columns space width value) ≡ value

-- the numbers of a page, by the kind of line and the field
pub record PageUncut (s : Sheet) (p : Plan) : Type 0 where
  pub mosaic_figure_lem : Uncut 31 (mosaic_figure s.mosaic p.batches)
  pub sorting_figure_lem : Uncut 31 (sorting_figure s.sorting p.jobs)
  pub flight_figure_lem : Uncut 31 (flight_figure s.flight p.passes)
  pub batch_number : (i : ℕ) → i < length p.batches → Uncut 3 (i + 1)
  pub batch_last : (i : ℕ) → i < length p.batches → Uncut 4 (batch_at p.batches i).last
  pub batch_start : (i : ℕ) → i < length p.batches → Uncut 12 (batch_at p.batches i).start
  pub batch_finish : (i : ℕ) → i < length p.batches → Uncut 12 (batch_at p.batches i).finish
  pub job_desk : (i : ℕ) → i < length p.jobs → Uncut 3 (job_at p.jobs i).desk
  pub job_number : (i : ℕ) → i < length p.jobs → Uncut 4 (job_at p.jobs i).number
  pub job_scan : (i : ℕ) → i < length p.jobs → Uncut 12 (job_at p.jobs i).scan
  pub job_start : (i : ℕ) → i < length p.jobs → Uncut 12 (job_at p.jobs i).start
  pub block_number_holds : (i : ℕ) → i < length p.passes → Uncut 3 (i + 1)
  pub block_first : (i : ℕ) → i < length p.passes → Uncut 12 (passes_at p.passes i).first
  pub block_second : (i : ℕ) → i < length p.passes → Uncut 12 (passes_at p.passes i).second
