-- The batches taken are a lawful timetable, have the least figure, start as early as they can, and finish before the ceiling.
-- One induction over the strips left shows all four.
use Rattle.std.specs.Prelude.{◌≡◌, List, [], ◌∷◌}
use Prim.Native.Nat.{ℕ, ◌+◌, ◌*◌, ◌≤◌}
use Rattle.sheet.specs.Limits.{most_time}
use Rattle.sheet.specs.declared.MosaicSection.{MosaicSection}
use Rattle.rules.specs.declared.Batch.{Batch}
use Rattle.running.specs.FunctionLaws.{most_setup}
use Rattle.running.specs.Running.{MosaicRuns}
use Rattle.rules_laws.specs.MosaicRunning.{running_figure}

-- each mount starts when the batch before finishes
unfoldable pub AsEarly : ℕ → List Batch → Type 0
AsEarly free [] = Unit
AsEarly free (b ∷ bs) = (b.start ≡ free) × AsEarly b.finish bs

unfoldable pub FinishBy : ℕ → List Batch → Type 0
FinishBy c [] = Unit
FinishBy c (b ∷ bs) = (b.finish ≤ c) × FinishBy c bs

-- no batch up to strip i finishes later: its last strip is ready by i station times, and each strip adds a mount and a bench time at most
abbrev pub latest : ℕ → ℕ
latest i = i * (most_setup + most_time)

-- the batches of the strips after i, the bench free at `free`
pub record Attains (m : MosaicSection) (i free figure : ℕ) (bs : List Batch) : Type 0 where
  pub lawful : (p : Batch) → p.last ≡ i → p.finish ≡ free → MosaicRuns m p bs
  pub figure_is : (p : Batch) → p.last ≡ i → running_figure m p bs ≡ figure
  pub early : AsEarly free bs
  pub finishes : FinishBy (latest m.strips) bs
