-- The faults that the judge names, each with its number and its place (01, "Turned back"). "It checks the sheet (3 to 10), then all of 12, then section by
-- section 13 on its members in order, 13 at its head, then 14." 15 and 16 of 02 (Req 04) and 17 (Req 07) are numbers of the sheet, too. What a member and a
-- head are judged by are the rules as they run over the members (running, Running.antt). Where a section's head and members stand is `part_at`, the judge's
-- count; that they are the fields which are due there is `section_due` (DueLaws.antt).
use Rattle.std.specs.Prelude.{ℕ, ◌+◌, ◌≤◌, ◌<◌, ◌≡◌, true, false, cond, List, eqb}
use Rattle.sheet.specs.Refusals.{layout_wrong, rule_broken, figure_untrue}
use Rattle.sheet.specs.Read.{read_sheet}
use Rattle.sheet.specs.Table.{RefusedFor}
use Rattle.sheet.specs.declared.Sheet.{Sheet}
use Rattle.rules.specs.Mosaic.{mosaic_figure}
use Rattle.rules.specs.Sorting.{sorting_figure}
use Rattle.rules.specs.Flight.{flight_figure}
use Rattle.plan_format.specs.Format.{size_of, mosaic_head_form, sorting_head_form, flight_head_form}
use Rattle.plan_read.specs.PlanRead.{figure_from, order_from, batch_from, job_from, passes_from, batches_from, jobs_from, blocks_from}
use Rattle.running.specs.Running.{BatchFollows, JobFollows, AllDone, BlockFollows, FlightHead}
use Rattle.judge_layout.specs.declared.Part.{Part}
use Rattle.judge_members.specs.Members.{present, head_form, member_place, begun, after_member}
use Rattle.judge_members.specs.declared.Progress.{Progress}
use Rattle.judge.specs.Judged.{part_at}
use Rattle.judge_laws.specs.Due.{LayoutFault, LaidOut}

-- member k of a section, at a place of the plan, follows what was judged before it
unfoldable pub MemberFollows : Sheet → List ℕ → ℕ → ℕ → ℕ → Progress → Type 0
MemberFollows s plan section k place st =
    elim (eqb section 1) [
      | true ↦ BatchFollows s.mosaic st.before (batch_from plan place)
      | false ↦
          elim (eqb section 2)
          [ true ↦ JobFollows s.sorting st.desks (job_from plan place) | false ↦ BlockFollows s.flight k (passes_from plan place) ]
    ]

-- what is judged at the head of a section, its members judged: every strip is in a batch; every strip has had its job; every block, the order and the passes
unfoldable pub HeadFollows : Sheet → List ℕ → ℕ → Part → Progress → Type 0
HeadFollows s plan section part st =
    elim (eqb section 1) [
      | true ↦ st.before.last ≡ s.mosaic.strips
      | false ↦
          elim (eqb section 2) [
            | true ↦ AllDone s.sorting st.desks
            | false ↦ FlightHead s.flight (order_from plan part.head) (blocks_from plan (part.head + size_of flight_head_form) part.members)
          ]
    ]

-- the figure that the rules give the members of a section, as they stand in the plan
unfoldable pub rule_figure : Sheet → List ℕ → ℕ → Part → ℕ
rule_figure s plan section part =
    cond (eqb section 1) (mosaic_figure s.mosaic (batches_from plan (part.head + size_of mosaic_head_form) part.members))
    (cond (eqb section 2) (sorting_figure s.sorting (jobs_from plan (part.head + size_of sorting_head_form) part.members))
    (flight_figure s.flight (blocks_from plan (part.head + size_of flight_head_form) part.members)))

-- the judging of a section has come to its member k, and every member before it follows
pub data Reached (s : Sheet) (plan : List ℕ) (section : ℕ) : ℕ → Progress → Type 0 where
  first : Reached s plan section 0 begun
  next : {k : ℕ} {st : Progress} → Reached s plan section k st → k < (part_at s plan section).members
      → MemberFollows s plan section k (member_place section (part_at s plan section).head k) st
      → Reached s plan section (k + 1) (after_member s plan section (member_place section (part_at s plan section).head k) st)

-- 13 at the first member that does not follow; where all follow, 13 at the head that does not hold; where it holds, 14 at the head whose figure is untrue
pub data SectionFault (s : Sheet) (plan : List ℕ) (section : ℕ) : ℕ → ℕ → Type 0 where
  at_member : {number place : ℕ} (k : ℕ) (st : Progress) → Reached s plan section k st → k < (part_at s plan section).members
      → (MemberFollows s plan section k (member_place section (part_at s plan section).head k) st → ⊥)
      → number ≡ rule_broken → place ≡ member_place section (part_at s plan section).head k → SectionFault s plan section number place
  at_head : {number place : ℕ} (st : Progress) → Reached s plan section (part_at s plan section).members st
      → (HeadFollows s plan section (part_at s plan section) st → ⊥)
      → number ≡ rule_broken → place ≡ (part_at s plan section).head → SectionFault s plan section number place
  figure_untrue_holds : {number place : ℕ} (st : Progress) → Reached s plan section (part_at s plan section).members st
      → HeadFollows s plan section (part_at s plan section) st
      → (figure_from (head_form section) plan (part_at s plan section).head ≡ rule_figure s plan section (part_at s plan section) → ⊥)
      → number ≡ figure_untrue → place ≡ (part_at s plan section).head → SectionFault s plan section number place

-- the first fault of a sheet and a plan
pub data Fault (sheet plan : List ℕ) : ℕ → ℕ → Type 0 where
  -- 3 to 10 and 15 to 17: a cause of the sheet, at the first field that has one (sheet, Causes.antt and Table.antt)
  in_sheet : {number place : ℕ} → RefusedFor sheet number place → Fault sheet plan number place
  in_layout : {number place : ℕ} → (read_sheet sheet).number ≡ 0 → LayoutFault (read_sheet sheet) plan place → number ≡ layout_wrong → Fault sheet plan number place
  in_section : {number place : ℕ} (section : ℕ) → (read_sheet sheet).number ≡ 0 → LaidOut (read_sheet sheet) plan → 1 ≤ section → section ≤ 3
      → ((i : ℕ) → 1 ≤ i → i < section → present (read_sheet sheet) i ≡ true → (n p : ℕ) → SectionFault (read_sheet sheet) plan i n p → ⊥)
      → present (read_sheet sheet) section ≡ true → SectionFault (read_sheet sheet) plan section number place → Fault sheet plan number place
