-- The theorems of the mosaic planner, for every sound section m: the batching taken is lawful, has the least figure of all timetables (any batching, any idle
-- time, any ceiling), starts each mount when the batch before finishes, as early as its batches allow, and finishes below the ceiling.
use Rattle.std.specs.Prelude.{◌≡◌, List, [], ◌∷◌, ℕ, ◌*◌, ◌≤◌, ◌<◌, length, get_or}
use Rattle.std.proofs.Math.Path.{refl}
use Rattle.std.proofs.Common.{◌∙◌, arith}
use Rattle.base.specs.LeastFigure.{NoLarger}
use Rattle.sheet.specs.Limits.{most_strips, most_weight}
use Rattle.sheet.specs.Sound.{MosaicSound}
use Rattle.sheet.specs.declared.MosaicSection.{MosaicSection}
use Rattle.rules.specs.declared.Batch.{Batch}
use Rattle.rules.specs.Mosaic.{no_batch, batch_at, batch_before, MosaicUnder, MosaicLawful, mosaic_figure}
use Rattle.running.specs.Running.{MosaicRuns}
use Rattle.batching.specs.Least.{least_from}
use Rattle.mosaic.specs.Least.{least_figure}
use Rattle.batching.specs.Chosen.{chosen_from}
use Rattle.mosaic.specs.Chosen.{chosen_batches}
use Rattle.mosaic.specs.Plan.{lasts}
use Rattle.rules_laws.proofs.Equivalent as running
use Rattle.rules_laws.proofs.Fits.{mosaic_figure_least, batches_most}
use Rattle.rules_laws.proofs.MosaicRunning.{before_is}
use Rattle.mosaic.proofs.LowerBound.{lower_after}
use Rattle.mosaic.specs.Laws.Attained.{AsEarly, latest}
use Rattle.mosaic.proofs.Attained.{figure_most}
use Rattle.mosaic.proofs.Whole.{least_is, attained, finish_at}
use Rattle.mosaic.proofs.Earliest.{early_start, earliest, earliest_figure}

-- Of all timetables with the same batches one whose mounts start when the batch before finishes has the least figure.
pub batches_least : (m : MosaicSection) (cs bs : List Batch) → AsEarly 0 cs → MosaicLawful m cs → MosaicLawful m bs → lasts bs ≡ lasts cs
    → mosaic_figure m cs ≤ mosaic_figure m bs
unfolding no_batch
batches_least m cs bs E C B e =
    rw (running.mosaic_figure_lem m cs (running.mosaic_runs m cs C), running.mosaic_figure_lem m bs (running.mosaic_runs m bs B))
    (earliest_figure m cs bs no_batch no_batch E (running.mosaic_runs m cs C) (running.mosaic_runs m bs B) refl (omega arith) e)

module _ (m : MosaicSection) (S : MosaicSound m) where
  chosen_runs : MosaicRuns m no_batch (chosen_batches m)
  unfolding no_batch
  chosen_runs = (attained m S).lawful no_batch refl refl

  pub mosaic_lawful : MosaicLawful m (chosen_batches m)
  mosaic_lawful = running.runs_mosaic m (chosen_batches m) chosen_runs

  pub mosaic_figure_lem : mosaic_figure m (chosen_batches m) ≡ least_figure m
  unfolding no_batch
  mosaic_figure_lem = running.mosaic_figure_lem m (chosen_batches m) chosen_runs ∙ (attained m S).figure_is no_batch refl

  pub mosaic_least : {c : ℕ} (bs : List Batch) → MosaicUnder c m bs → least_figure m ≤ mosaic_figure m bs
  unfolding no_batch
  mosaic_least bs L = rw (least_is m, running.mosaic_figure_lem m bs (running.mosaic_runs m bs L)) (lower_after m bs no_batch (running.mosaic_runs m bs L))

  -- 02, Req 01: "for each section's timetable that would pass it there is one within it of no larger figure": for each that obeys the rules under any ceiling
  pub mosaic_ceiling : {c : ℕ} (bs : List Batch) → MosaicUnder c m bs → NoLarger (MosaicLawful m) (mosaic_figure m) bs
  mosaic_ceiling bs U = record { timetable = chosen_batches m; obeys = mosaic_lawful; no_larger = omega (arith, mosaic_figure_lem, mosaic_least bs U) }

  pub mosaic_earliest : (bs : List Batch) → MosaicLawful m bs → lasts bs ≡ lasts (chosen_batches m)
      → (i : ℕ) → i < length bs → (batch_at (chosen_batches m) i).start ≤ (batch_at bs i).start
  unfolding no_batch batch_at
  mosaic_earliest bs L e =
      earliest m (chosen_batches m) bs no_batch no_batch (attained m S).early chosen_runs (running.mosaic_runs m bs L) refl (omega arith) e

  -- 02, Req 08: "a mount starts no earlier than the batch before finishes, or 0": each starts just then
  pub mosaic_mounts : (i : ℕ) → i < length (chosen_batches m) → (batch_at (chosen_batches m) i).start ≡ (batch_before (chosen_batches m) i).finish
  mosaic_mounts i h = rw (before_is (chosen_batches m) i) (starts i h)
    where
      starts : (i : ℕ) → i < length (chosen_batches m) → (batch_at (chosen_batches m) i).start ≡ (get_or (no_batch ∷ chosen_batches m) i no_batch).finish
      starts i h = unfold no_batch batch_at in early_start (chosen_batches m) no_batch (attained m S).early i h

  -- the ceiling is never met: mounts and bench times of 40 strips at most
  pub mosaic_finishes : (i : ℕ) → i < length (chosen_batches m) → (batch_at (chosen_batches m) i).finish ≤ latest most_strips
  unfolding batch_at
  mosaic_finishes i h = omega (arith, finish_at (latest m.strips) (chosen_batches m) (attained m S).finishes i h, S.most_strips_holds)

  -- it has room in eight bytes
  pub mosaic_figure_most : least_figure m ≤ most_strips * most_weight * latest most_strips
  mosaic_figure_most = rw (least_is m) (figure_most S)

  pub mosaic_count : length (chosen_batches m) ≤ m.strips
  mosaic_count = batches_most m (chosen_batches m) S mosaic_lawful

  -- "a present figure is at least 1"
  pub mosaic_present : 0 < m.strips → 0 < least_figure m
  mosaic_present h = rw (← mosaic_figure_lem) (mosaic_figure_least m (chosen_batches m) S mosaic_lawful h)

  -- an absent section
  pub mosaic_absent : m.strips ≡ 0 → (least_figure m ≡ 0) × (chosen_batches m ≡ [])
  unfolding least_figure least_from chosen_batches chosen_from
  mosaic_absent h = (rw h refl, rw h refl)
