-- The theorems of the judge. It finds no fault exactly in the plans that are allowed for the sheet, and its three figures are then the rules' figures of that
-- plan.
-- 01: "The judge takes a sheet and a plan and gives the figure of each section, 0 for an absent section".
use Rattle.std.specs.Prelude.{ℕ, ◌≤◌, ◌<◌, ◌≡◌, Bool, cond, List, ltb}
use Rattle.std.proofs.Common.{ap, ◌∙◌, arith, le-ltb}
use Rattle.sheet.specs.Refusals.{layout_wrong, rule_broken, figure_untrue}
use Rattle.sheet.specs.Read.{read_sheet}
use Rattle.sheet.specs.Table.{RefusedFor}
use Rattle.sheet.proofs.Theorems.{read_sound}
use Rattle.rules.specs.Plan.{PlanLawful, AllowedFor}
use Rattle.plan_format.specs.ByteLaws.{AreBytes}
use Rattle.rules_laws.proofs.Fits.{mosaic_figure_least, sorting_figure_least, flight_figure_least}
use Rattle.judge_members.specs.Members.{present}
use Rattle.judge.specs.Judged.{stated_figure, turned_back, found, judged}
use Rattle.judge.specs.Stated.{stated_plan}
use Rattle.judge.specs.declared.Judged.{Judged}
use Rattle.judge_laws.proofs.Outcomes.{judged_right, right_judged}
use Rattle.judge_laws.specs.Fault.{SectionFault, Fault}
use Rattle.judge_laws.proofs.Faults.{fault_turned_back, turned_back_fault}
use Rattle.judge_laws.proofs.Allows.{right_allowed, stated_lawful}
use Rattle.judge_laws.proofs.StatedPlan.{mosaic_figure_of, sorting_figure_of, flight_figure_of, plan_stated}
use Rattle.judge_laws.proofs.Written.{written_right, mosaic_figure_stated, sorting_figure_stated, flight_figure_stated}
use Rattle.judge_laws.specs.Theorems.{FiguresTrue, FigureOf, FiguresGiven}

-- A plan in which the judge finds no fault is allowed ..
pub judge_allows : (sheet plan : List ℕ) → AreBytes plan → (judged sheet plan).number ≡ 0 → AllowedFor sheet plan
judge_allows sheet plan bytes e =
    let r = judged_right sheet plan e in
    record { sound = r.0; allowed = right_allowed (read_sheet sheet) plan bytes (read_sound sheet r.0) r.1 }

-- .. and of a plan that is allowed it answers that it is found good, with the figures that it states ..
module _ (sheet plan : List ℕ) (a : AllowedFor sheet plan) where
  pub allowed_found : judged sheet plan ≡ found (read_sheet sheet) plan
  allowed_found =
      right_judged sheet plan a.sound
      (written_right (read_sheet sheet) a.allowed.plan plan (read_sound sheet a.sound) a.allowed.lawful a.allowed.layout)

-- .. so that it finds no fault in it.
pub allowed_judged : (sheet plan : List ℕ) → AllowedFor sheet plan → (judged sheet plan).number ≡ 0
unfolding found
allowed_judged sheet plan a = ap (λ (j : Judged). j.number) (allowed_found sheet plan a)

pub judged_figures : (sheet plan : List ℕ) (a : AllowedFor sheet plan) → FiguresTrue (read_sheet sheet) a.allowed.plan (judged sheet plan)
unfolding found
judged_figures sheet plan a =
    let sound = read_sound sheet a.sound in
    let w = a.allowed in
    let e = allowed_found sheet plan a in
    record {
      place = ap (λ (j : Judged). j.place) e;
      mosaic = ap (λ (j : Judged). j.mosaic) e ∙ mosaic_figure_stated (read_sheet sheet) w.plan plan sound w.lawful w.layout;
      sorting = ap (λ (j : Judged). j.sorting) e ∙ sorting_figure_stated (read_sheet sheet) w.plan plan sound w.lawful w.layout;
      flight = ap (λ (j : Judged). j.flight) e ∙ flight_figure_stated (read_sheet sheet) w.plan plan sound w.lawful w.layout;
    }

-- What a plan that the judge allows states is lawful, and the judge's figures are its figures; an allowed plan states itself.
pub judged_stated : (sheet plan : List ℕ) → (judged sheet plan).number ≡ 0
    → PlanLawful (read_sheet sheet) (stated_plan (read_sheet sheet) plan) × FiguresTrue (read_sheet sheet) (stated_plan (read_sheet sheet) plan) (judged sheet plan)
unfolding found stated_plan
judged_stated sheet plan z =
    let r = judged_right sheet plan z in
    let sound = read_sound sheet r.0 in
    let e = right_judged sheet plan r.0 r.1 in (
      stated_lawful (read_sheet sheet) plan sound r.1,
      record {
        place = ap (λ (j : Judged). j.place) e;
        mosaic = ap (λ (j : Judged). j.mosaic) e ∙ mosaic_figure_of (read_sheet sheet) plan sound r.1;
        sorting = ap (λ (j : Judged). j.sorting) e ∙ sorting_figure_of (read_sheet sheet) plan sound r.1;
        flight = ap (λ (j : Judged). j.flight) e ∙ flight_figure_of (read_sheet sheet) plan sound r.1;
      },
    )

pub allowed_stated : (sheet plan : List ℕ) (a : AllowedFor sheet plan) → stated_plan (read_sheet sheet) plan ≡ a.allowed.plan
allowed_stated sheet plan a =
    plan_stated (read_sheet sheet) a.allowed.plan plan (read_sound sheet a.sound) a.allowed.lawful a.allowed.layout

figure_given : (members figure : ℕ) → (0 < members → 1 ≤ figure) → (stated : ℕ) → figure ≡ cond (ltb 0 members) stated 0 → FigureOf members figure
figure_given members figure least stated e =
    record { absent = λ z. e ∙ ap (λ (b : Bool). cond b stated 0) (le-ltb 0 members (omega arith)); present = λ h. least (omega arith) }

pub figures_given : (sheet plan : List ℕ) → AllowedFor sheet plan → FiguresGiven (read_sheet sheet) (judged sheet plan)
unfolding found stated_figure present
figures_given sheet plan a =
    let sound = read_sound sheet a.sound in
    let law = a.allowed.lawful in
    let f = judged_figures sheet plan a in
    let e = allowed_found sheet plan a in
    record {
      mosaic =
          figure_given _ _ (λ h. rw f.mosaic (mosaic_figure_least (read_sheet sheet).mosaic a.allowed.plan.batches sound.mosaic law.mosaic h)) _
          (ap (λ (j : Judged). j.mosaic) e);
      sorting =
          figure_given _ _ (λ h. rw f.sorting (sorting_figure_least (read_sheet sheet).sorting a.allowed.plan.jobs sound.sorting law.sorting h)) _
          (ap (λ (j : Judged). j.sorting) e);
      flight =
          figure_given _ _ (λ h. rw f.flight (flight_figure_least (read_sheet sheet).flight a.allowed.plan.passes sound.flight law.flight h)) _
          (ap (λ (j : Judged). j.flight) e);
    }

-- Each number is given with its place where the fault lies, and not otherwise: 3 to 10 and 15 to 17 in the sheet, 12 only for the layout, 13 at a member or at
-- a head, 14 at a head whose figure is untrue (Fault.antt).
pub fault_judged : (sheet plan : List ℕ) (number place : ℕ) → Fault sheet plan number place → judged sheet plan ≡ turned_back number place
fault_judged sheet plan number place f = fault_turned_back sheet plan number place f

pub judged_fault : (sheet plan : List ℕ) → ((judged sheet plan).number ≡ 0 → ⊥) → Fault sheet plan (judged sheet plan).number (judged sheet plan).place
judged_fault sheet plan h = turned_back_fault sheet plan h

-- A number that is none of 0, 12, 13 and 14 is given only for a cause of the sheet.
section_number : (sheet plan : List ℕ) (section number place : ℕ) → SectionFault (read_sheet sheet) plan section number place
    → (rule_broken ≤ number) × (number ≤ figure_untrue)
section_number sheet plan section number place (SectionFault.at_member k st p h n e q) = (omega arith, omega arith)
section_number sheet plan section number place (SectionFault.at_head st p n e q) = (omega arith, omega arith)
section_number sheet plan section number place (SectionFault.figure_untrue_holds st p h n e q) = (omega arith, omega arith)

pub judged_sheet_only : (sheet plan : List ℕ) (number : ℕ) → 0 < number → (layout_wrong ≤ number → number ≤ figure_untrue → ⊥)
    → (judged sheet plan).number ≡ number → RefusedFor sheet number (judged sheet plan).place
judged_sheet_only sheet plan number some other e = go _ _ e (judged_fault sheet plan (λ z. omega arith))
  where
    go : (n place : ℕ) → n ≡ number → Fault sheet plan n place → RefusedFor sheet number place
    go n place e (Fault.in_sheet f) = rw e at f
    go n place e (Fault.in_layout s f en) = absurd (other (omega arith) (omega arith))
    go n place e (Fault.in_section section s l h₁ h₂ b p f) =
        let q = section_number sheet plan section n place f in
        absurd (other (omega (arith, q.0)) (omega (arith, q.1)))
