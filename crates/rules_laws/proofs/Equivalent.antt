-- The rules by index and the rules as they run over the members in order say the same, both ways, the mosaic's under every ceiling; and so do the figures.
use Rattle.std.specs.Prelude.{◌≡◌, List, ℕ}
use Rattle.sheet.specs.Sound.{SortingSound, FlightSound}
use Rattle.sheet.specs.declared.MosaicSection.{MosaicSection}
use Rattle.sheet.specs.declared.SortingSection.{SortingSection}
use Rattle.sheet.specs.declared.FlightSection.{FlightSection}
use Rattle.rules.specs.Mosaic.{no_batch, MosaicUnder, mosaic_figure}
use Rattle.rules.specs.Sorting.{SortingLawful, sorting_figure}
use Rattle.rules.specs.Flight.{FlightLawful, Keeps, OrderAllowed}
use Rattle.running.specs.Running.{MosaicRunsUnder, free_desks, SortingRuns, FlightRuns}
use Rattle.rules.specs.declared.Batch.{Batch}
use Rattle.rules.specs.declared.Job.{Job}
use Rattle.rules.specs.declared.Passes.{Passes}
use Rattle.rules_laws.specs.MosaicRunning as mosaic
use Rattle.rules_laws.specs.SortingRunning as sorting
use Rattle.rules_laws.proofs.MosaicRunning as mosaic_laws
use Rattle.rules_laws.proofs.SortingRunning as sorting_laws
use Rattle.rules_laws.proofs.FlightRunning as flight

module _ {c : ℕ} (m : MosaicSection) (bs : List Batch) where
  pub mosaic_runs : MosaicUnder c m bs → MosaicRunsUnder c m no_batch bs
  mosaic_runs L = mosaic_laws.lawful_runs m bs L

  pub runs_mosaic : MosaicRunsUnder c m no_batch bs → MosaicUnder c m bs
  runs_mosaic R = mosaic_laws.runs_lawful m bs R

  -- the sum of the strips' weights times their completions is the sum, over the batches, of a batch's weight times its finish
  pub mosaic_figure_lem : MosaicRunsUnder c m no_batch bs → mosaic_figure m bs ≡ mosaic.running_figure m no_batch bs
  mosaic_figure_lem R = mosaic_laws.figure_running m bs R

module _ (s : SortingSection) (js : List Job) where
  pub sorting_runs : SortingSound s → SortingLawful s js → SortingRuns s free_desks js
  sorting_runs sound L = sorting_laws.lawful_runs s js sound L

  pub runs_sorting : SortingSound s → SortingRuns s free_desks js → SortingLawful s js
  runs_sorting sound R = sorting_laws.runs_lawful s js sound R

  pub sorting_figure_lem : sorting_figure s js ≡ sorting.weighted_finishes s js
  sorting_figure_lem = sorting_laws.weighted_finishes_lem s js

module _ (f : FlightSection) (order : ℕ) (ps : List Passes) where
  pub flight_runs : FlightLawful f ps → Keeps f order ps → OrderAllowed f order → FlightRuns f order ps
  flight_runs L kept allowed = flight.lawful_runs f ps order L kept allowed

  pub runs_flight : FlightSound f → FlightRuns f order ps → FlightLawful f ps × Keeps f order ps × OrderAllowed f order
  runs_flight sound R = (flight.runs_lawful f ps order R, flight.runs_keeps f ps order R sound, flight.runs_allowed f ps order R)
