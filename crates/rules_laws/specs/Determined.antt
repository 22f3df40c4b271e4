-- The bytes of an allowed plan determine it: for a sound sheet two lawful plans with the same bytes are the same, and with them their figures.
-- Jobs and blocks are as many as the sheet's, so the length of the plan tells how many batches there are; then each member is read back.
use Rattle.std.specs.Prelude.{◌≡◌, List, [], ◌∷◌, ◌++◌, ℕ, ◌+◌, ◌*◌, ◌^◌, ◌≤◌, ◌<◌}
use Rattle.std.proofs.Common.{◌∙◌}
use Rattle.sheet.specs.Sound.{strips_in_all}
use Rattle.sheet.specs.declared.Sheet.{Sheet}
use Rattle.rules.specs.Mosaic.{mosaic_figure}
use Rattle.rules.specs.Sorting.{sorting_figure}
use Rattle.rules.specs.Flight.{flight_figure}
use Rattle.rules.specs.Plan.{mosaic_bytes, sorting_bytes, flight_bytes, if_present, Plan}

-- the bytes of each section of a plan
abbrev pub mosaic_of : Sheet → Plan → List ℕ
mosaic_of s p = if_present s.mosaic.strips (mosaic_bytes (mosaic_figure s.mosaic p.batches) p.batches)

abbrev pub sorting_of : Sheet → Plan → List ℕ
sorting_of s p = if_present (strips_in_all s.sorting) (sorting_bytes (sorting_figure s.sorting p.jobs) p.jobs)

abbrev pub flight_of : Sheet → Plan → List ℕ
flight_of s p = if_present s.flight.blocks (flight_bytes (flight_figure s.flight p.passes) p.order p.passes)
