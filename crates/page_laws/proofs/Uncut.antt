-- No number on the page of a lawful plan of a sound sheet is cut: each has no more digits than its field has columns, so that the columns say the number.
-- The bounds are those of lawful timetables (crate rules_laws, specs/Fits.antt): at most 40 members of a kind, times up to the
-- ceiling, figures up to 40 × 100 times the ceiling.
use Rattle.std.specs.Prelude.{ℕ, ◌+◌, ◌-◌, ◌^◌, ◌≤◌, ◌<◌, ◌≡◌, ◌++◌, length}
use Rattle.std.proofs.Common.{arith}
use Rattle.decimal.specs.Columns.{space, columns}
use Rattle.decimal.proofs.Digits.{right_aligned}
use Rattle.decimal.proofs.Laws.{columns_back}
use Rattle.decimal.proofs.ColumnsSame.{columns_same}
use Rattle.sheet.specs.Limits.{ceiling, most_strips, most_blocks}
use Rattle.sheet.specs.Sound.{SheetSound}
use Rattle.sheet.specs.declared.Sheet.{Sheet}
use Rattle.rules.specs.Mosaic.{batch_at, mosaic_figure}
use Rattle.rules.specs.Sorting.{job_at, sorting_figure}
use Rattle.rules.specs.Flight.{passes_at, flight_figure}
use Rattle.rules.specs.Plan.{Plan, PlanLawful}
use Rattle.rules_laws.proofs.Fits.{mosaic_figure_most, batches_most, batch_last, batch_start, job_desk, job_number, job_scan, job_start}
use Rattle.rules_laws.proofs.SortingFits.{sorting_figure_most}
use Rattle.rules_laws.proofs.Fits.{flight_figure_most, passes_first, passes_second}
use Rattle.page_laws.specs.Uncut.{Uncut, PageUncut}

uncut : (width value : ℕ) → 0 < width → value < 10 ^ width → Uncut width value
uncut width value some h = record { fits = h; aligned = right_aligned space width value some h; back = columns_back space width value (omega arith) h }

-- numbers that are not cut are equal where their columns are
pub uncut_same : (width value other : ℕ) → Uncut width value → Uncut width other → columns space width value ≡ columns space width other → value ≡ other
uncut_same width value other u v e = columns_same space width value other (omega arith) u.fits v.fits e

-- a time up to the ceiling in 12 columns
time : (t : ℕ) → t ≤ ceiling → Uncut 12 t
time t h = uncut 12 t (omega arith) (omega arith)

module _ (s : Sheet) (p : Plan) (sound : SheetSound s) (L : PlanLawful s p) where
  few_batches : length p.batches ≤ most_strips
  few_batches = omega (arith, batches_most s.mosaic p.batches sound.mosaic L.mosaic, sound.mosaic.most_strips_holds)

  few_blocks_lem : length p.passes ≤ most_blocks
  few_blocks_lem = omega (arith, L.flight.every_block, sound.flight.most_blocks_holds)

  pub page_uncut : PageUncut s p
  page_uncut = record {
    mosaic_figure_lem = uncut 31 (mosaic_figure s.mosaic p.batches) (omega arith) (omega (arith, mosaic_figure_most s.mosaic p.batches sound.mosaic L.mosaic));
    sorting_figure_lem = uncut 31 (sorting_figure s.sorting p.jobs) (omega arith) (omega (arith, sorting_figure_most s.sorting p.jobs sound.sorting L.sorting));
    flight_figure_lem = uncut 31 (flight_figure s.flight p.passes) (omega arith) (omega (arith, flight_figure_most s.flight p.passes sound.flight L.flight));
    batch_number = λ i h. uncut _ (i + 1) (omega arith) (omega (arith, few_batches));
    batch_last = λ i h. uncut 4 (batch_at p.batches i).last (omega arith) (omega (arith, batch_last s.mosaic p.batches sound.mosaic L.mosaic i h));
    batch_start = λ i h. time (batch_at p.batches i).start (batch_start s.mosaic p.batches sound.mosaic L.mosaic i h);
    batch_finish = λ i h. time (batch_at p.batches i).finish (L.mosaic.each i h).within;
    job_desk = λ i h. uncut 3 (job_at p.jobs i).desk (omega arith) (omega (arith, job_desk s.sorting p.jobs sound.sorting L.sorting i h));
    job_number = λ i h. uncut 4 (job_at p.jobs i).number (omega arith) (omega (arith, job_number s.sorting p.jobs sound.sorting L.sorting i h));
    job_scan = λ i h. time (job_at p.jobs i).scan (job_scan s.sorting p.jobs sound.sorting L.sorting i h);
    job_start = λ i h. time (job_at p.jobs i).start (job_start s.sorting p.jobs sound.sorting L.sorting i h);
    block_number_holds = λ i h. uncut 3 (i + 1) (omega arith) (omega (arith, few_blocks_lem));
    block_first = λ i h. time (passes_at p.passes i).first (passes_first s.flight p.passes sound.flight L.flight i h);
    block_second = λ i h. time (passes_at p.passes i).second (passes_second s.flight p.passes sound.flight L.flight i h);
  }
