-- The cases of 01, "Sheets worked through", that are marked *, as one table with a common statement: each sheet is given as its bytes, with what 01 says of it,
-- and 02 where it says more.
-- The theorem is `worked` in Theorems.antt.
use Prim.{Unit}
use Rattle.std.specs.Prelude.{ℕ, zero, suc, ◌+◌, ◌≤◌, ◌≡◌, List, [], ◌∷◌, ◌++◌, length}
use Rattle.sheet.specs.Limits.{table_length, plan_length}
use Rattle.sheet.specs.Refusals.{order_impossible}
use Rattle.sheet.specs.Read.{read_sheet}
use Rattle.sheet.specs.declared.MosaicSection.{MosaicSection}
use Rattle.sheet.specs.declared.Sheet.{Sheet}
use Rattle.rules.specs.Plan.{Plan, plan_bytes, AllowedFor}
use Rattle.base.specs.Answer.{answer}
use Rattle.planner.specs.Call.{answer_of, planned_bytes}
use Rattle.planner.specs.Theorems.{figure_of_mosaic, figure_of_sorting, figure_of_flight, Impossible}
use Rattle.rules.specs.Mosaic.{ready}
use Rattle.rules.specs.ScannerList.{scanner_list, SameOrAfter}
use Rattle.rules.specs.declared.Batch.{Batch}
use Rattle.rules.specs.declared.Job.{Job}
use Rattle.rules.specs.declared.Passes.{Passes}
use Rattle.plan_fields.specs.Stored.{batch, job, passes}
use Rattle.mosaic.specs.Plan.{lasts}
use Rattle.worked_sheets.specs.Sheets.{mosaic_head, strip_of_two, sorting_head, strip_of_desk, flight_head, block, pass_order}

-- the figures of the three sections, 0 for an absent one
pub record Figures : Type 0 where
  pub mosaic : ℕ
  pub sorting : ℕ
  pub flight : ℕ

unfoldable pub figures_of : Sheet → Plan → Figures
figures_of s p = record { mosaic = figure_of_mosaic s p; sorting = figure_of_sorting s p; flight = figure_of_flight s p }

-- what 01 and 02 say of a sheet: when the strips of its mosaic are ready, from strip 1 on; what the planner plans, which is best and whose scanner list comes
-- first; a plan that is best too; a plan that is best of those with its batches; a plan that is allowed; that no timetable keeps its order, whose field stands
-- at a place
pub data Claim : Type 0 where
  ready_at_holds : List ℕ → Claim
  planned : Plan → Figures → Claim
  best : Plan → Figures → Claim
  best_batched : Plan → Figures → Claim
  allowed : Plan → Figures → Claim
  impossible : ℕ → Claim

-- the plan is allowed for the sheet, with these figures
pub record IsAllowed (sheet : List ℕ) (p : Plan) (figures : Figures) : Type 0 where
  pub allows : AllowedFor sheet (plan_bytes (read_sheet sheet) p)
  pub has : figures_of (read_sheet sheet) p ≡ figures

-- no allowed plan of the sheet has a smaller figure in any section
pub record NoneBelow (sheet : List ℕ) (figures : Figures) : Type 0 where
  pub mosaic : (q : List ℕ) (a : AllowedFor sheet q) → figures.mosaic ≤ figure_of_mosaic (read_sheet sheet) a.allowed.plan
  pub sorting : (q : List ℕ) (a : AllowedFor sheet q) → figures.sorting ≤ figure_of_sorting (read_sheet sheet) a.allowed.plan
  pub flight : (q : List ℕ) (a : AllowedFor sheet q) → figures.flight ≤ figure_of_flight (read_sheet sheet) a.allowed.plan

-- 02, Req 03: each allowed plan of the sheet whose sorting figure is that of p has the scanner list of p, or one that comes after it
abbrev pub ListFirst : List ℕ → Plan → Type 0
ListFirst sheet p =
    (q : List ℕ) (a : AllowedFor sheet q) → figure_of_sorting (read_sheet sheet) a.allowed.plan ≡ figure_of_sorting (read_sheet sheet) p
    → SameOrAfter (scanner_list a.allowed.plan.jobs) (scanner_list p.jobs)

-- each allowed plan of the sheet with the batches of p has no smaller mosaic figure
abbrev pub LeastOfBatches : List ℕ → Plan → Type 0
LeastOfBatches sheet p =
    (q : List ℕ) (a : AllowedFor sheet q) → lasts a.allowed.plan.batches ≡ lasts p.batches
    → figure_of_mosaic (read_sheet sheet) p ≤ figure_of_mosaic (read_sheet sheet) a.allowed.plan

-- when so many strips are ready, from strip j on
unfoldable pub ready_times : MosaicSection → ℕ → ℕ → List ℕ
ready_times m zero j = []
ready_times m (suc n) j = ready m j ∷ ready_times m n (j + 1)

-- the common statement; the planner's call has buffers of the least length
abbrev pub Says : List ℕ → Claim → Type 0
Says sheet (ready_at_holds times) = ready_times (read_sheet sheet).mosaic (length times) 1 ≡ times
Says sheet (planned p figures) =
    IsAllowed sheet p figures × NoneBelow sheet figures × ListFirst sheet p
    × (answer_of sheet plan_length table_length ≡ answer 0 0 (length (plan_bytes (read_sheet sheet) p))) × (planned_bytes sheet plan_length table_length ≡ plan_bytes (read_sheet sheet) p)
Says sheet (best p figures) = IsAllowed sheet p figures × NoneBelow sheet figures
Says sheet (best_batched p figures) = IsAllowed sheet p figures × LeastOfBatches sheet p
Says sheet (allowed p figures) = IsAllowed sheet p figures
Says sheet (impossible place) = (answer_of sheet plan_length table_length ≡ answer order_impossible place 0) × Impossible (read_sheet sheet)

pub record Row : Type 0 where
  pub sheet : List ℕ
  pub claim : Claim

abbrev row : List ℕ → Claim → Row
row s c = record { sheet = s; claim = c }

-- a plan of one section, and its figure with 0 for the absent ones
abbrev mosaic_plan : List Batch → Plan
mosaic_plan bs = record { batches = bs; jobs = []; order = 0; passes = [] }

abbrev sorting_plan : List Job → Plan
sorting_plan js = record { batches = []; jobs = js; order = 0; passes = [] }

abbrev flight_plan : ℕ → List Passes → Plan
flight_plan order ps = record { batches = []; jobs = []; order = order; passes = ps }

abbrev mosaic_alone : ℕ → Figures
mosaic_alone n = record { mosaic = n; sorting = 0; flight = 0 }

abbrev sorting_alone : ℕ → Figures
sorting_alone n = record { mosaic = 0; sorting = n; flight = 0 }

abbrev flight_alone : ℕ → Figures
flight_alone n = record { mosaic = 0; sorting = 0; flight = n }

-- "m 2, s 1, strips (2,1;1) (1,3;3) (4,2;2) (1,3;1)"
abbrev four_strips : List ℕ
four_strips = mosaic_head 2 1 ++ strip_of_two 2 1 1 ++ strip_of_two 1 3 3 ++ strip_of_two 4 2 2 ++ strip_of_two 1 3 1

-- two desks with one strip each: its scan time and its desk time
abbrev two_desks : ℕ → ℕ → ℕ → ℕ → List ℕ
two_desks scan time scan₂ time₂ = sorting_head 2 ++ strip_of_desk 1 scan time ++ strip_of_desk 2 scan₂ time₂

abbrev two_blocks : List ℕ
two_blocks = flight_head ++ block 1 0 1 ++ block 1 5 1

abbrev pub table : List Row
table =
    -- "m 2, s 1, strips (2,1;1) (1,3;3) (4,2;2) (1,3;1): ready 2, 4, 7, 9."
    row four_strips (ready_at_holds (2 ∷ 4 ∷ 7 ∷ 9 ∷ []))
    -- "Best: four batches": 02, Req 08, "The first worked sheet gives 32 (mounts 0, 3, 7, 10; finishing 3, 7, 10, 12)"
    ∷ row four_strips (planned (mosaic_plan (batch 1 0 3 ∷ batch 2 3 7 ∷ batch 3 7 10 ∷ batch 4 10 12 ∷ [])) (mosaic_alone 32))
    -- "its other two batchings 41 and 34": batches 1, 2-3, 4 and 1, 2, 3-4
    ∷ row four_strips (best_batched (mosaic_plan (batch 1 0 3 ∷ batch 3 3 12 ∷ batch 4 12 14 ∷ [])) (mosaic_alone 41))
    ∷ row four_strips (best_batched (mosaic_plan (batch 1 0 3 ∷ batch 2 3 7 ∷ batch 4 7 12 ∷ [])) (mosaic_alone 34))
    -- 01's own plans of the three batchings, whose mounts wait for the strips (figures 36, 45 and 38), are allowed too
    ∷ row four_strips (allowed (mosaic_plan (batch 1 2 4 ∷ batch 2 4 8 ∷ batch 3 8 11 ∷ batch 4 11 13 ∷ [])) (mosaic_alone 36))
    ∷ row four_strips (allowed (mosaic_plan (batch 1 2 4 ∷ batch 3 7 13 ∷ batch 4 13 15 ∷ [])) (mosaic_alone 45))
    ∷ row four_strips (allowed (mosaic_plan (batch 1 2 4 ∷ batch 2 4 8 ∷ batch 4 9 13 ∷ [])) (mosaic_alone 38))
    -- "Sorting, desk 1 (2,5), desk 2 (1,1): 10, desk 2 first. The other order gives 11": with every start as early as that order allows
    ∷ row (two_desks 2 5 1 1) (planned (sorting_plan (job 2 1 0 1 ∷ job 1 1 1 3 ∷ [])) (sorting_alone 10))
    ∷ row (two_desks 2 5 1 1) (allowed (sorting_plan (job 1 1 0 2 ∷ job 2 1 2 3 ∷ [])) (sorting_alone 11))
    -- "Sorting, two desks, (1,1) each: 5 either way." 02, Req 03: "The two-desk case of figure 5 then begins with desk 1."
    ∷ row (two_desks 1 1 1 1) (planned (sorting_plan (job 1 1 0 1 ∷ job 2 1 1 2 ∷ [])) (sorting_alone 5))
    ∷ row (two_desks 1 1 1 1) (best (sorting_plan (job 2 1 0 1 ∷ job 1 1 1 2 ∷ [])) (sorting_alone 5))
    -- "Flight (3,4,1): 8, order number 2."
    ∷ row (flight_head ++ block 3 4 1) (planned (flight_plan 0x2 (passes 0 7 ∷ [])) (flight_alone 8))
    -- "Flight (1,2,1) (1,2,1), no order: 5, order C."
    ∷ row (flight_head ++ block 1 2 1 ++ block 1 2 1) (planned (flight_plan 0xC (passes 0 3 ∷ passes 1 4 ∷ [])) (flight_alone 5))
    -- "Flight (1,0,1) (1,5,1): order C is 11; * order A gives 9, second block starting at 2 and 8."
    ∷ row (two_blocks ++ pass_order 0xC) (impossible 21)
    ∷ row (two_blocks ++ pass_order 0xA) (planned (flight_plan 0xA (passes 0 1 ∷ passes 2 8 ∷ [])) (flight_alone 9))
    -- "000's eight blocks .., order F2C4: first starts 0, 6, 8, 9, 12, 19, 21, 22; figure 30."
    ∷ row
    (flight_head ++ block 3 4 1 ++ block 1 7 2 ++ block 1 8 1 ++ block 1 10 1 ++ block 2 9 1 ++ block 1 4 3 ++ block 1 5 2 ++ block 1 6 1 ++ pass_order 0xF2C4)
    (planned
    (flight_plan 0xF2C4 (passes 0 7 ∷ passes 6 14 ∷ passes 8 17 ∷ passes 9 20 ∷ passes 12 23 ∷ passes 19 24 ∷ passes 21 27 ∷ passes 22 29 ∷ []))
    (flight_alone 30))
    ∷ []

-- a statement of each row
abbrev pub All : (List ℕ → Claim → Type 0) → List Row → Type 0
All P [] = Unit
All P (r ∷ rs) = P r.sheet r.claim × All P rs

-- "The first case whole": the bytes in, and the bytes out, with the starts and finishes of 02, Req 08
abbrev pub FirstCase : Type 0
FirstCase = (four_strips ≡
    0x10 ∷ 0x03 ∷ 0x00 ∷ 0x02 ∷ 0x01 ∷ 0x00
    ∷ 0x11 ∷ 0x06 ∷ 0x00 ∷ 0x02 ∷ 0x00 ∷ 0x01 ∷ 0x00 ∷ 0x01 ∷ 0x00
    ∷ 0x11 ∷ 0x06 ∷ 0x00 ∷ 0x01 ∷ 0x00 ∷ 0x03 ∷ 0x00 ∷ 0x03 ∷ 0x00
    ∷ 0x11 ∷ 0x06 ∷ 0x00 ∷ 0x04 ∷ 0x00 ∷ 0x02 ∷ 0x00 ∷ 0x02 ∷ 0x00
    ∷ 0x11 ∷ 0x06 ∷ 0x00 ∷ 0x01 ∷ 0x00 ∷ 0x03 ∷ 0x00 ∷ 0x01 ∷ 0x00 ∷ [])
    × (planned_bytes four_strips plan_length table_length ≡
    0x90 ∷ 0x08 ∷ 0x00 ∷ 0x20 ∷ 0x00 ∷ 0x00 ∷ 0x00 ∷ 0x00 ∷ 0x00 ∷ 0x00 ∷ 0x00
    ∷ 0x91 ∷ 0x09 ∷ 0x00 ∷ 0x01 ∷ 0x00 ∷ 0x00 ∷ 0x00 ∷ 0x00 ∷ 0x03 ∷ 0x00 ∷ 0x00 ∷ 0x00
    ∷ 0x91 ∷ 0x09 ∷ 0x00 ∷ 0x02 ∷ 0x03 ∷ 0x00 ∷ 0x00 ∷ 0x00 ∷ 0x07 ∷ 0x00 ∷ 0x00 ∷ 0x00
    ∷ 0x91 ∷ 0x09 ∷ 0x00 ∷ 0x03 ∷ 0x07 ∷ 0x00 ∷ 0x00 ∷ 0x00 ∷ 0x0A ∷ 0x00 ∷ 0x00 ∷ 0x00
    ∷ 0x91 ∷ 0x09 ∷ 0x00 ∷ 0x04 ∷ 0x0A ∷ 0x00 ∷ 0x00 ∷ 0x00 ∷ 0x0C ∷ 0x00 ∷ 0x00 ∷ 0x00 ∷ [])
