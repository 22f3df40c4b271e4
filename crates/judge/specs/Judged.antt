-- What the judge answers. "The judge .. checks the sheet (3 to 10), then all of 12, then section by section 13 on its members in order, 13 at its
-- head, then 14. The first field that breaks a rule ends the judging." 15 and 16 of 02 (Req 04) and 17 (Req 07) are numbers of the sheet, too.
use Rattle.std.specs.Prelude.{ℕ, zero, suc, ◌+◌, true, false, cond, List, eqb, Result, Ok, Err}
use Rattle.sheet.specs.Given.{number_of}
use Rattle.sheet.specs.Refusals.{rule_broken}
use Rattle.sheet.specs.Read.{read_sheet}
use Rattle.sheet.specs.declared.Sheet.{Sheet}
use Rattle.sheet.specs.declared.refusals.Refused.{Refused}
use Rattle.plan_read.specs.PlanRead.{figure_from}
use Rattle.judge_layout.specs.Layout.{mosaic_part, sorting_part, flight_part, verdict, layout_verdict, Verdict}
use Rattle.judge_layout.specs.declared.Part.{Part}
use Rattle.judge_members.specs.Members.{present, head_form, member_place, begun, member_follows, after_member, head_number}
use Rattle.judge_members.specs.declared.Progress.{Progress}
use Rattle.judge.specs.declared.Judged.{Judged}

-- the section of a plan, by its number
unfoldable pub pick_part : ℕ → Part → Part → Part → Part
pick_part section mosaic sorting flight = cond (eqb section 1) mosaic (cond (eqb section 2) sorting flight)

unfoldable pub part_at : Sheet → List ℕ → ℕ → Part
part_at s plan section = pick_part section (mosaic_part s plan) (sorting_part s plan) (flight_part s plan)

-- the first of the members left, from member k on, that breaks a rule, else the head's number
unfoldable pub section_from : ℕ → Sheet → List ℕ → ℕ → Part → ℕ → Progress → Verdict
section_from zero s plan section part k st = verdict (head_number s plan section part st) part.head
section_from (suc left) s plan section part k st =
    elim (member_follows s plan section k (member_place section part.head k) st) [
      | true ↦ section_from left s plan section part (k + 1) (after_member s plan section (member_place section part.head k) st)
      | false ↦ verdict rule_broken (member_place section part.head k)
    ]

unfoldable pub section_verdict : Sheet → List ℕ → ℕ → Verdict
section_verdict s plan section =
    cond (present s section)
    (section_from (part_at s plan section).members s plan section (part_at s plan section) 0 begun)
    (verdict 0 0)

-- section by section: the first that has a fault
unfoldable pub sections_from : ℕ → Sheet → List ℕ → ℕ → Verdict
sections_from zero s plan section = verdict 0 0
sections_from (suc left) s plan section =
    elim (eqb (section_verdict s plan section).number 0)
    [ true ↦ sections_from left s plan (section + 1) | false ↦ section_verdict s plan section ]

-- the figure that a plan states for a section, 0 where it is absent
unfoldable pub stated_figure : Sheet → List ℕ → ℕ → ℕ
stated_figure s plan section = cond (present s section) (figure_from (head_form section) plan (part_at s plan section).head) 0

-- "a refused one has .. figures 0"
unfoldable pub turned_back : ℕ → ℕ → Judged
turned_back number place = record { number = number; place = place; mosaic = 0; sorting = 0; flight = 0 }

-- the answer that a judging comes to
abbrev pub answer_of : Result Judged Refused → Judged
answer_of (Ok answer) = answer
answer_of (Err refused) = turned_back (number_of refused.refusal) refused.place

unfoldable pub found : Sheet → List ℕ → Judged
found s plan = record { number = 0; place = 0; mosaic = stated_figure s plan 1; sorting = stated_figure s plan 2; flight = stated_figure s plan 3 }

unfoldable pub concluded : Sheet → List ℕ → Verdict → Judged
concluded s plan v = cond (eqb v.number 0) (found s plan) (turned_back v.number v.place)

unfoldable pub judged_plan : Sheet → List ℕ → Judged
judged_plan s plan =
    cond (eqb (layout_verdict s plan).number 0)
    (concluded s plan (sections_from 3 s plan 1))
    (turned_back (layout_verdict s plan).number (layout_verdict s plan).place)

unfoldable pub judged : List ℕ → List ℕ → Judged
judged sheet plan =
    cond (eqb (read_sheet sheet).number 0)
    (judged_plan (read_sheet sheet) plan)
    (turned_back (read_sheet sheet).number (read_sheet sheet).place)
