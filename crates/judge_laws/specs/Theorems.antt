-- The theorems of the judge. It finds no fault exactly in the plans that are allowed for the sheet, and its three figures are then the rules' figures of that
-- plan.
-- 01: "The judge takes a sheet and a plan and gives the figure of each section, 0 for an absent section".
use Rattle.std.specs.Prelude.{ℕ, ◌≤◌, ◌≡◌}
use Rattle.sheet.specs.Sound.{strips_in_all}
use Rattle.sheet.specs.declared.Sheet.{Sheet}
use Rattle.rules.specs.Mosaic.{mosaic_figure}
use Rattle.rules.specs.Sorting.{sorting_figure}
use Rattle.rules.specs.Flight.{flight_figure}
use Rattle.rules.specs.Plan.{Plan}
use Rattle.judge.specs.declared.Judged.{Judged}

-- The judge's figures of a plan, where it is allowed: those that the rules give.
pub record FiguresTrue (s : Sheet) (p : Plan) (j : Judged) : Type 0 where
  pub place : j.place ≡ 0
  pub mosaic : j.mosaic ≡ mosaic_figure s.mosaic p.batches
  pub sorting : j.sorting ≡ sorting_figure s.sorting p.jobs
  pub flight : j.flight ≡ flight_figure s.flight p.passes

-- "the figure of each section, 0 for an absent section (a present figure is at least 1)"
pub record FigureOf (members figure : ℕ) : Type 0 where
  pub absent : members ≡ 0 → figure ≡ 0
  pub present : 1 ≤ members → 1 ≤ figure

pub record FiguresGiven (s : Sheet) (j : Judged) : Type 0 where
  pub mosaic : FigureOf s.mosaic.strips j.mosaic
  pub sorting : FigureOf (strips_in_all s.sorting) j.sorting
  pub flight : FigureOf s.flight.blocks j.flight
