-- The judge finds no fault exactly where the sheet's number, the layout's and that of each section are 0; then its answer is the figures found.
-- The layout's number is 0 exactly where the three parts are right and the last ends with the plan.
use Rattle.std.specs.Prelude.{ℕ, suc, ◌+◌, ◌≡◌, Bool, true, false, cond, List, length, eqb}
use Rattle.std.proofs.Math.Path.{refl, sym, ap}
use Rattle.std.proofs.Common.{◌∙◌, arith}
use borrow.Author.Tests.{eq-eqb, eqb-true, eqb-false}
use Rattle.sheet.specs.Refusals.{layout_wrong}
use Rattle.sheet.specs.Read.{read_sheet}
use Rattle.sheet.specs.declared.Sheet.{Sheet}
use Rattle.judge_layout.specs.Layout.{mosaic_part, sorting_part, flight_part, verdict, layout_verdict, Verdict}
use Rattle.judge_members.specs.Members.{present, begun}
use Rattle.judge.specs.Judged.{part_at, section_from, section_verdict, sections_from, stated_figure, turned_back, found, concluded, judged_plan, judged}
use Rattle.judge.specs.Loops.{section_absent, zero_number, section_here, sections_next, all_right, sheet_right}
use Rattle.judge.specs.declared.Judged.{Judged}
use Rattle.judge_laws.specs.Outcomes.{LayoutRight, SectionsRight, PlanRight}

wrong : (place : ℕ) → (verdict layout_wrong place).number ≡ 0 → ⊥
unfolding verdict
wrong place e = omega arith

right_or : (b : Bool) (v : Verdict) (place : ℕ) → (cond b v (verdict layout_wrong place)).number ≡ 0 → (b ≡ true) × (v.number ≡ 0)
right_or true v place e = (refl, e)
right_or false v place e = absurd (wrong place e)

module _ (s : Sheet) (plan : List ℕ) where
  pub layout_right : (layout_verdict s plan).number ≡ 0 → LayoutRight s plan
  unfolding layout_verdict
  layout_right e =
      let p = right_or (mosaic_part s plan).right _ _ e in
      let q = right_or (sorting_part s plan).right _ _ p.1 in
      let r = right_or (flight_part s plan).right _ _ q.1 in
      let t = right_or (eqb (flight_part s plan).end (length plan)) _ _ r.1 in
      record { mosaic = p.0; sorting = q.0; flight = r.0; end = eqb-true _ _ t.0 }

  pub right_layout : LayoutRight s plan → (layout_verdict s plan).number ≡ 0
  unfolding layout_verdict verdict
  right_layout l = rw (l.mosaic, l.sorting, l.flight, eq-eqb _ _ l.end)

first_right : (b : Bool) (x y w : Verdict) → eqb y.number 0 ≡ b → w ≡ elim b [ true ↦ x | false ↦ y ] → w.number ≡ 0 → (y.number ≡ 0) × (x.number ≡ 0)
first_right true x y w h q e = (eqb-true _ _ h, sym (ap (λ v. v.number) q) ∙ e)
first_right false x y w h q e = absurd (eqb-false _ _ h (sym (ap (λ v. v.number) q) ∙ e))

module _ (s : Sheet) (plan : List ℕ) where
  section_right : (left section : ℕ) → (sections_from (suc left) s plan section).number ≡ 0
      → ((section_verdict s plan section).number ≡ 0) × ((sections_from left s plan (section + 1)).number ≡ 0)
  unfolding sections_from
  section_right left section e = first_right _ _ _ _ refl refl e

  pub sections_right : (sections_from 3 s plan 1).number ≡ 0 → SectionsRight s plan
  sections_right e =
      let p = section_right 2 1 e in
      let q = section_right 1 2 p.1 in
      let r = section_right 0 3 q.1 in
      record { mosaic = p.0; sorting = q.0; flight = r.0 }

  pub right_sections : SectionsRight s plan → (sections_from 3 s plan 1).number ≡ 0
  unfolding sections_from verdict
  right_sections r = ap (λ v. v.number) (sections_next 2 s plan 1 r.mosaic ∙ sections_next 1 s plan 2 r.sorting ∙ sections_next 0 s plan 3 r.flight)

-- a section that is present, and one that may be absent
module _ (s : Sheet) (plan : List ℕ) (section : ℕ) where
  pub present_right : present s section ≡ true → (section_verdict s plan section).number ≡ 0
      → (section_from (part_at s plan section).members s plan section (part_at s plan section) 0 begun).number ≡ 0
  present_right h e = ap (λ v. v.number) (section_here s plan section (part_at s plan section) refl h) ∙ e

  pub right_present : (present s section ≡ true → (section_from (part_at s plan section).members s plan section (part_at s plan section) 0 begun).number ≡ 0)
      → (section_verdict s plan section).number ≡ 0
  right_present h = go (present s section) refl
    where
      go : (b : Bool) → present s section ≡ b → (section_verdict s plan section).number ≡ 0
      go true p = ap (λ v. v.number) (sym (section_here s plan section (part_at s plan section) refl p)) ∙ h p
      go false p = ap (λ v. v.number) (section_absent s plan section p) ∙ zero_number 0

-- the answer
through : (b : Bool) (number place : ℕ) (j : Judged) → eqb number 0 ≡ b → (cond b j (turned_back number place)).number ≡ 0 → (number ≡ 0) × (j.number ≡ 0)
unfolding turned_back
through true number place j h e = (eqb-true _ _ h, e)
through false number place j h e = absurd (eqb-false _ _ h e)

module _ (s : Sheet) (plan : List ℕ) where
  plan_right : (judged_plan s plan).number ≡ 0 → PlanRight s plan
  unfolding judged_plan concluded
  plan_right e =
      let p = through _ _ _ _ refl e in
      let q = through _ _ _ _ refl p.1 in
      record { layout = layout_right s plan p.0; sections = sections_right s plan q.0 }

  right_plan : PlanRight s plan → judged_plan s plan ≡ found s plan
  unfolding found
  right_plan r =
      sym
      (all_right s plan (layout_verdict s plan) refl (right_layout s plan r.layout) (sections_from 3 s plan 1) refl (stated_figure s plan 1) (stated_figure s plan 2) (stated_figure s plan 3) (right_sections s plan r.sections) refl refl refl)

module _ (sheet plan : List ℕ) where
  pub judged_right : (judged sheet plan).number ≡ 0 → ((read_sheet sheet).number ≡ 0) × PlanRight (read_sheet sheet) plan
  unfolding judged
  judged_right e =
      let p = through _ _ _ _ refl e in
      (p.0, plan_right (read_sheet sheet) plan p.1)

  pub right_judged : (read_sheet sheet).number ≡ 0 → PlanRight (read_sheet sheet) plan → judged sheet plan ≡ found (read_sheet sheet) plan
  right_judged e r = sym (sheet_right sheet plan (read_sheet sheet) refl (judged_plan (read_sheet sheet) plan) e refl) ∙ right_plan (read_sheet sheet) plan r
