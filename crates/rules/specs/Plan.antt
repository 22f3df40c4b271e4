-- The plan: its bytes, and when it is allowed (01, "The plan" and "The three sets of rules").
use Rattle.std.specs.Prelude.{ℕ, ◌≡◌, cond, List, [], ◌∷◌, ◌++◌, ltb}
use Rattle.plan_format.specs.Format.{form_bytes, mosaic_head_form, batch_form, sorting_head_form, job_form, flight_head_form, passes_form, refusal_form}
use Rattle.sheet.specs.Limits.{ceiling}
use Rattle.sheet.specs.Read.{read_sheet}
use Rattle.sheet.specs.Sound.{strips_in_all}
use Rattle.sheet.specs.declared.MosaicSection.{MosaicSection}
use Rattle.sheet.specs.declared.SortingSection.{SortingSection}
use Rattle.sheet.specs.declared.FlightSection.{FlightSection}
use Rattle.sheet.specs.declared.Sheet.{Sheet}
use Rattle.rules.specs.Mosaic.{MosaicUnder, mosaic_figure}
use Rattle.rules.specs.Sorting.{SortingUnder, sorting_figure}
use Rattle.rules.specs.Flight.{FlightUnder, Keeps, OrderAllowed, flight_figure}
use Rattle.rules.specs.declared.Batch.{Batch}
use Rattle.rules.specs.declared.Job.{Job}
use Rattle.rules.specs.declared.Passes.{Passes}

-- the bytes of each member, one after another
unfoldable pub members_bytes : {A : Type 0} → (A → List ℕ) → List A → List ℕ
members_bytes bytes [] = []
members_bytes bytes (x ∷ xs) = bytes x ++ members_bytes bytes xs

-- "90: mosaic figure (4 bytes), then 91 per batch: number of its last strip (1 byte), mount start, finish (4 bytes each)." 02, Req 09: "Mosaic and sorting
-- figures take eight bytes in the plan", here and in A0. The forms have the tags and the widths (crate plan_format, specs/Format.antt); here stand the
-- values, in the same order.
abbrev pub batch_values : Batch → List ℕ
batch_values b = b.last ∷ b.start ∷ b.finish ∷ []

unfoldable pub batch_bytes : Batch → List ℕ
batch_bytes b = form_bytes batch_form (batch_values b)

unfoldable pub mosaic_bytes : ℕ → List Batch → List ℕ
mosaic_bytes figure bs = form_bytes mosaic_head_form (figure ∷ []) ++ members_bytes batch_bytes bs

-- "A0: sorting figure (4), then A1 per strip in scanner order: desk, number within the desk (1 byte each), scan start, desk start (4 each)."
abbrev pub job_values : Job → List ℕ
job_values j = j.desk ∷ j.number ∷ j.scan ∷ j.start ∷ []

unfoldable pub job_bytes : Job → List ℕ
job_bytes j = form_bytes job_form (job_values j)

unfoldable pub sorting_bytes : ℕ → List Job → List ℕ
sorting_bytes figure js = form_bytes sorting_head_form (figure ∷ []) ++ members_bytes job_bytes js

-- "B0: flight figure (4), order number (8), then B1 per block: first and second start (4 each)."
abbrev pub passes_values : Passes → List ℕ
passes_values p = p.first ∷ p.second ∷ []

unfoldable pub passes_bytes : Passes → List ℕ
passes_bytes p = form_bytes passes_form (passes_values p)

unfoldable pub flight_bytes : ℕ → ℕ → List Passes → List ℕ
flight_bytes figure order ps = form_bytes flight_head_form (figure ∷ order ∷ []) ++ members_bytes passes_bytes ps

-- "E0: refusal number (2), place (4)."
unfoldable pub refusal_bytes : ℕ → ℕ → List ℕ
refusal_bytes number place = form_bytes refusal_form (number ∷ place ∷ [])

-- "Sections are the sheet's, in its order": a section of no member is absent
unfoldable pub if_present : {A : Type 0} → ℕ → List A → List A
if_present members section = cond (ltb 0 members) section []

-- what a plan says: the timetable of each section, in flight with an order number
pub record Plan : Type 0 where
  pub batches : List Batch
  pub jobs : List Job
  pub order : ℕ
  pub passes : List Passes

-- the bytes of a section's fields, none where the sheet does not have it; a plan "states each figure as that section's rules give it"
abbrev pub mosaic_fields : MosaicSection → List Batch → List ℕ
mosaic_fields m bs = if_present m.strips (mosaic_bytes (mosaic_figure m bs) bs)

abbrev pub sorting_fields : SortingSection → List Job → List ℕ
sorting_fields s js = if_present (strips_in_all s) (sorting_bytes (sorting_figure s js) js)

abbrev pub flight_fields : FlightSection → ℕ → List Passes → List ℕ
flight_fields f order ps = if_present f.blocks (flight_bytes (flight_figure f ps) order ps)

-- the bytes of a plan
unfoldable pub plan_bytes : Sheet → Plan → List ℕ
plan_bytes s p = mosaic_fields s.mosaic p.batches ++ sorting_fields s.sorting p.jobs ++ flight_fields s.flight p.order p.passes

-- a plan "gives a timetable of each" section, "in flight with the number of the order kept", under the ceiling c
pub record PlanUnder (c : ℕ) (s : Sheet) (p : Plan) : Type 0 where
  pub mosaic : MosaicUnder c s.mosaic p.batches
  pub sorting : SortingUnder c s.sorting p.jobs
  pub flight : FlightUnder c s.flight p.passes
  pub kept : Keeps s.flight p.order p.passes
  pub order : OrderAllowed s.flight p.order

-- the same under the ceiling of 10,000,000
abbrev pub PlanLawful : Sheet → Plan → Type 0
PlanLawful s p = PlanUnder ceiling s p

-- "A plan is allowed for an otherwise sound sheet exactly when it is laid out as below with the sheet's sections, gives a timetable of each, .."
pub record Allowed (s : Sheet) (bytes : List ℕ) : Type 0 where
  pub plan : Plan
  pub lawful : PlanLawful s plan
  pub layout : bytes ≡ plan_bytes s plan

-- the same of a sheet's bytes: "A sheet is otherwise sound where no cause that the planner checks it for, 11 apart, lies in it"
pub record AllowedFor (sheet plan : List ℕ) : Type 0 where
  pub sound : (read_sheet sheet).number ≡ 0
  pub allowed : Allowed (read_sheet sheet) plan
