-- The judge finds no fault exactly where the sheet's number, the layout's and that of each section are 0; then its answer is the figures found.
-- The layout's number is 0 exactly where the three parts are right and the last ends with the plan.
use Rattle.std.specs.Prelude.{ℕ, ◌≡◌, true, List, length}
use Rattle.sheet.specs.declared.Sheet.{Sheet}
use Rattle.judge_layout.specs.Layout.{mosaic_part, sorting_part, flight_part}
use Rattle.judge.specs.Judged.{section_verdict}

-- the layout
pub record LayoutRight (s : Sheet) (plan : List ℕ) : Type 0 where
  pub mosaic : (mosaic_part s plan).right ≡ true
  pub sorting : (sorting_part s plan).right ≡ true
  pub flight : (flight_part s plan).right ≡ true
  pub end : (flight_part s plan).end ≡ length plan

-- the sections
pub record SectionsRight (s : Sheet) (plan : List ℕ) : Type 0 where
  pub mosaic : (section_verdict s plan 1).number ≡ 0
  pub sorting : (section_verdict s plan 2).number ≡ 0
  pub flight : (section_verdict s plan 3).number ≡ 0

pub record PlanRight (s : Sheet) (plan : List ℕ) : Type 0 where
  pub layout : LayoutRight s plan
  pub sections : SectionsRight s plan
