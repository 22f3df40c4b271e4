-- The judge's two loops: over the sections, and over the members of one. Wherever they stand, what is left to judge gives the answer.
use Rattle.std.specs.Prelude.{ℕ, suc, ◌+◌, ◌-◌, ◌*◌, ◌^◌, ◌≤◌, ◌<◌, ◌≡◌, refl, Bool, true, false, cond, not, List, length, eqb, Ok, Err}
use Rattle.std.proofs.Math.Path.{sym, ap}
use Rattle.std.proofs.Common.{ap₂, ◌∙◌, mul_comm, mul-le-mul_left}
use native.Mathlib.Omega.{arith}
use borrow.Author.Tests.{eq-eqb, ne_eqb, not-true, not-false}
use Rattle.sheet.specs.Given.{number_of}
use Rattle.sheet.proofs.GivenNumbers.{refusal_not_zero}
use Rattle.sheet.specs.Refusals.{rule_broken}
use Rattle.sheet.specs.Read.{read_sheet}
use Rattle.sheet.specs.Sound.{SheetSound, SortingSound}
use Rattle.sheet.proofs.Theorems.{read_sound}
use Rattle.sheet.specs.declared.Sheet.{Sheet}
use Rattle.sheet.specs.declared.refusals.Refusal.{Refusal}
use Rattle.sheet.specs.declared.refusals.Refusal.TheVariants.{RuleBroken}
use Rattle.plan_format.specs.Format.{size_of, mosaic_head_form, batch_form, sorting_head_form, job_form, flight_head_form, passes_form}
use Rattle.judge_layout.specs.Layout.{mosaic_part, sorting_part, flight_part, Verdict, verdict, verdict_of, layout_verdict}
use Rattle.judge_layout.specs.Laws.{LayoutVerdictPre, PartFits, parts_fit}
use Rattle.judge_layout.specs.declared.Part.{Part}
use Rattle.judge_members.specs.Members.{present, head_form, member_form, member_place, begun, member_follows, after_member, head_number}
use Rattle.judge_members.specs.Laws.{Kept, MemberPlacePre, MemberFollowsPre, AfterMemberPre, HeadNumberPre}
use Rattle.judge_members.proofs.Laws.{begun_kept, member_kept}
use Rattle.judge_members.specs.declared.Progress.{Progress}
use Rattle.judge.specs.Judged.{pick_part, part_at, section_from, section_verdict, sections_from, stated_figure, turned_back, found, concluded, judged_plan, judged}
use Rattle.judge.specs.declared.Judged.{Judged}

-- a section of the plan of a sound sheet, and where it stands
pub record SectionPre (s : Sheet) (plan : List ℕ) (section : ℕ) (part : Part) : Type 0 where
  pub sound : SheetSound s
  pub here : part ≡ part_at s plan section

pub record SectionsPre (s : Sheet) (plan : List ℕ) (mosaic sorting flight : Part) : Type 0 where
  pub sound : SheetSound s
  pub parts : LayoutVerdictPre s plan mosaic sorting flight

module _ (s : Sheet) (plan : List ℕ) (mosaic sorting flight : Part) (a : SectionsPre s plan mosaic sorting flight) where
  pub mosaic_asked : SectionPre s plan 1 mosaic
  unfolding part_at pick_part
  mosaic_asked = record { sound = a.sound; here = a.parts.mosaic_is }

  pub sorting_asked : SectionPre s plan 2 sorting
  unfolding part_at pick_part
  sorting_asked = record { sound = a.sound; here = a.parts.sorting_is }

  pub flight_asked : SectionPre s plan 3 flight
  unfolding part_at pick_part
  flight_asked = record { sound = a.sound; here = a.parts.flight_is }

-- the part that is picked is the plan's
pub picked : (s : Sheet) (plan : List ℕ) (section : ℕ) (mosaic sorting flight part : Part) → LayoutVerdictPre s plan mosaic sorting flight
    → part ≡ pick_part section mosaic sorting flight → part ≡ part_at s plan section
unfolding part_at
picked s plan section mosaic sorting flight part a e = e ∙ rw (a.mosaic_is, a.sorting_is, a.flight_is)

part_fits : (s : Sheet) (plan : List ℕ) (section : ℕ) → PartFits plan (size_of (member_form section)) (part_at s plan section)
unfolding part_at pick_part member_form
part_fits s plan section = by_section (eqb section 1) (eqb section 2)
  where
    by_section : (x y : Bool)
        → PartFits plan (size_of (cond x batch_form (cond y job_form passes_form))) (cond x (mosaic_part s plan) (cond y (sorting_part s plan) (flight_part s plan)))
    by_section true y = (parts_fit s plan).0
    by_section false true = (parts_fit s plan).1
    by_section false false = (parts_fit s plan).2

head_small : (section : ℕ) → size_of (head_form section) < 2 ^ 16
unfolding head_form
head_small section = by_section (eqb section 1) (eqb section 2)
  where
    by_section : (x y : Bool) → size_of (cond x mosaic_head_form (cond y sorting_head_form flight_head_form)) < 2 ^ 16
    by_section true y = omega arith
    by_section false true = omega arith
    by_section false false = omega arith

-- where a member stands within a plan, its place fits
place_small : (section head k : ℕ) → head + size_of (member_form section) * k < 2 ^ 63 → member_place section head k < 2 ^ 64
unfolding member_place
place_small section head k h = omega (arith, head_small section, mul_comm (size_of (member_form section)) k)

-- what the judging of a plan rests on: where each section stands, and that a refusal ends it
pub ruleset each_section = (mosaic_asked, sorting_asked, flight_asked, refusal_not_zero)

-- the sections from one on

pub section_absent : (s : Sheet) (plan : List ℕ) (section : ℕ) → present s section ≡ false → section_verdict s plan section ≡ verdict 0 0
unfolding section_verdict
section_absent s plan section e = rw e

pub zero_number : (place : ℕ) → (verdict 0 place).number ≡ 0
unfolding verdict
zero_number place = refl

pub record Outer (s : Sheet) (plan : List ℕ) (section : ℕ) : Type 0 where
  pub low : 1 ≤ section
  pub high : section ≤ 4
  pub same : sections_from (4 - section) s plan section ≡ sections_from 3 s plan 1

pub outer_start : (s : Sheet) (plan : List ℕ) → Outer s plan 1
outer_start s plan = record { low = omega arith; high = omega arith; same = refl }

pub sections_next : (left : ℕ) (s : Sheet) (plan : List ℕ) (section : ℕ) → (section_verdict s plan section).number ≡ 0
    → sections_from (suc left) s plan section ≡ sections_from left s plan (section + 1)
unfolding sections_from
sections_next left s plan section e = rw (eq-eqb _ _ e, sections_from)

pub sections_stop : (left : ℕ) (s : Sheet) (plan : List ℕ) (section : ℕ) → ((section_verdict s plan section).number ≡ 0 → ⊥)
    → sections_from (suc left) s plan section ≡ section_verdict s plan section
unfolding sections_from
sections_stop left s plan section e = rw (ne_eqb _ _ e, sections_from)

module _ (s : Sheet) (plan : List ℕ) (section : ℕ) (o : Outer s plan section) where
  pub outer_end : 3 < section → verdict_of (Ok tt) ≡ sections_from 3 s plan 1
  unfolding sections_from verdict
  outer_end h = ap (λ n. sections_from n s plan section) none ∙ o.same
    where
      none : 0 ≡ 4 - section
      none = omega arith

  module _ (h : section ≤ 3) where
    left : 4 - section ≡ suc (3 - section)
    left = omega arith

    opened : sections_from (suc (3 - section)) s plan section ≡ sections_from 3 s plan 1
    opened = ap (λ n. sections_from n s plan section) (sym left) ∙ o.same

    outer_next : (section_verdict s plan section).number ≡ 0 → Outer s plan (section + 1)
    outer_next e =
        let l = o.low in
        record {
          low = omega arith;
          high = omega arith;
          same = ap (λ n. sections_from n s plan (section + 1)) fewer ∙ sym
              (sections_next (3 - section) s plan section e) ∙ opened;
        }
      where
        fewer : 4 - (section + 1) ≡ 3 - section
        fewer = omega arith

    outer_wrong : ((section_verdict s plan section).number ≡ 0 → ⊥) → section_verdict s plan section ≡ sections_from 3 s plan 1
    outer_wrong e = sym (sections_stop (3 - section) s plan section e) ∙ opened

    pub outer_absent : (x : Bool) → x ≡ present s section → not x ≡ true → Outer s plan (section + 1)
    outer_absent x ex e = outer_next (ap (λ v. v.number) absent ∙ zero_number 0)
      where
        absent : section_verdict s plan section ≡ verdict 0 0
        absent = section_absent s plan section (sym ex ∙ not-true x e)

-- the members of a section from one on

pub record Inner (s : Sheet) (plan : List ℕ) (section : ℕ) (part : Part) (k : ℕ) (p : Progress) : Type 0 where
  pub asked : SectionPre s plan section part
  pub small : length plan * 1 < 2 ^ 63
  pub outer : Outer s plan section
  pub below : section ≤ 3
  pub kept : Kept p
  pub same : section_from (part.members - k) s plan section part k p ≡ section_verdict s plan section

pub section_here : (s : Sheet) (plan : List ℕ) (section : ℕ) (part : Part) → part ≡ part_at s plan section → present s section ≡ true
    → section_from part.members s plan section part 0 begun ≡ section_verdict s plan section
unfolding section_verdict
section_here s plan section part e h = rw (h, e)

pub member_next : (left : ℕ) (s : Sheet) (plan : List ℕ) (section : ℕ) (part : Part) (k : ℕ) (p : Progress)
    → member_follows s plan section k (member_place section part.head k) p ≡ true
    → section_from (suc left) s plan section part k p
    ≡ section_from left s plan section part (k + 1) (after_member s plan section (member_place section part.head k) p)
unfolding section_from
member_next left s plan section part k p e = rw (e, section_from)

pub member_wrong : (left : ℕ) (s : Sheet) (plan : List ℕ) (section : ℕ) (part : Part) (k : ℕ) (p : Progress)
    → member_follows s plan section k (member_place section part.head k) p ≡ false
    → section_from (suc left) s plan section part k p ≡ verdict rule_broken (member_place section part.head k)
unfolding section_from
member_wrong left s plan section part k p e = rw (e, section_from)

pub members_judged : (s : Sheet) (plan : List ℕ) (section : ℕ) (part : Part) (k : ℕ) (p : Progress)
    → section_from 0 s plan section part k p ≡ verdict (head_number s plan section part p) part.head
unfolding section_from
members_judged s plan section part k p = refl

pub inner_start : (s : Sheet) (plan : List ℕ) (section : ℕ) (part mosaic sorting flight : Part) (p : Progress) (x : Bool) → Outer s plan section → section ≤ 3
    → x ≡ present s section → not x ≡ false → SectionsPre s plan mosaic sorting flight → length plan * 1 < 2 ^ 63
    → part ≡ pick_part section mosaic sorting flight
    → p ≡ begun → Inner s plan section part 0 p
inner_start s plan section part mosaic sorting flight p x o h ex hx a small ep eb =
    let e = picked s plan section mosaic sorting flight part a.parts ep in
    record {
      asked = record { sound = a.sound; here = e };
      small = small;
      outer = o;
      below = h;
      kept = rw eb begun_kept;
      same = ap₂ (λ n q. section_from n s plan section part 0 q) all eb ∙ section_here s plan section part e (sym ex ∙ not-false x hx);
    }
  where
    all : part.members - 0 ≡ part.members
    all = omega arith

module _ (s : Sheet) (plan : List ℕ) (section : ℕ) (part : Part) (k : ℕ) (p : Progress) (i : Inner s plan section part k p) where
  fits : PartFits plan (size_of (member_form section)) part
  fits = rw i.asked.here (part_fits s plan section)

  pub member_asked : MemberFollowsPre s p
  member_asked = record { sound = i.asked.sound; kept = i.kept }

  module _ (less : k < part.members) where
    left_over : part.members - k ≡ suc (part.members - (k + 1))
    left_over = omega arith

    opened_member : section_from (suc (part.members - (k + 1))) s plan section part k p ≡ section_verdict s plan section
    opened_member = ap (λ n. section_from n s plan section part k p) (sym left_over) ∙ i.same

    before_end : part.head + size_of (member_form section) * k < 2 ^ 63
    before_end =
        let l : k ≤ part.members = omega arith in omega (arith, i.small, fits.within, fits.members, mul-le-mul_left (size_of (member_form section)) l)

    pub place_asked : MemberPlacePre section part.head k
    place_asked = record { room = place_small section part.head k before_end }

    module _ (place : ℕ) (ep : place ≡ member_place section part.head k) (x : Bool) (ex : x ≡ member_follows s plan section k place p) where
      here : (b : Bool) → x ≡ b → member_follows s plan section k (member_place section part.head k) p ≡ b
      here b h = ap (λ n. member_follows s plan section k n p) (sym ep) ∙ sym ex ∙ h

      pub after_asked : not x ≡ false → AfterMemberPre s plan section place p
      after_asked h = record { asked = member_asked; index = k; follows = sym ex ∙ not-false x h }

      pub inner_wrong : not x ≡ true → verdict_of (Err (record { refusal = RuleBroken; place = place })) ≡ sections_from 3 s plan 1
      unfolding verdict
      inner_wrong h =
          ap (λ n. verdict rule_broken n) ep ∙ sym fault ∙ outer_wrong s plan section i.outer i.below (λ z. broken (sym (ap (λ v. v.number) fault) ∙ z))
        where
          fault : section_verdict s plan section ≡ verdict rule_broken (member_place section part.head k)
          fault = sym opened_member ∙ member_wrong (part.members - (k + 1)) s plan section part k p (here false (not-true x h))

          broken : ◌≡◌ {A = ℕ} rule_broken 0 → ⊥
          broken z = omega arith

      pub inner_more : (next : Progress) → not x ≡ false → next ≡ after_member s plan section place p → Inner s plan section part (k + 1) next
      inner_more next h en =
          record {
            asked = i.asked;
            small = i.small;
            outer = i.outer;
            below = i.below;
            kept = rw en (member_kept s plan section k place p i.asked.sound i.kept (sym ex ∙ not-false x h));
            same =
                ap (λ q. section_from (part.members - (k + 1)) s plan section part (k + 1) q) (en ∙ ap (λ n. after_member s plan section n p) ep)
                ∙ sym (member_next (part.members - (k + 1)) s plan section part k p (here true (not-false x h)))
                ∙ opened_member;
          }

  pub head_asked : HeadNumberPre s part
  head_asked = record { sound = i.asked.sound; room = omega (arith, i.small, fits.within, fits.members) }

  module _ (all : part.members ≤ k) where
    judged_head : section_verdict s plan section ≡ verdict (head_number s plan section part p) part.head
    judged_head = sym i.same ∙ ap (λ n. section_from n s plan section part k p) none ∙ members_judged s plan section part k p
      where
        none : part.members - k ≡ 0
        none = omega arith

    pub head_wrong : (refusal : Refusal) → number_of refusal ≡ head_number s plan section part p
        → verdict_of (Err (record { refusal = refusal; place = part.head })) ≡ sections_from 3 s plan 1
    unfolding verdict
    head_wrong refusal e =
        ap (λ n. verdict n part.head) e
        ∙ sym judged_head
        ∙ outer_wrong s plan section i.outer i.below (λ z. refusal_not_zero refusal (e ∙ sym (ap (λ v. v.number) judged_head) ∙ z))

    pub inner_next : 0 ≡ head_number s plan section part p → Outer s plan (section + 1)
    unfolding verdict
    inner_next h = outer_next s plan section i.outer i.below (ap (λ v. v.number) judged_head ∙ sym h)

-- the answer

module _ (s : Sheet) (plan : List ℕ) (layout : Verdict) (el : layout ≡ layout_verdict s plan) where
  pub layout_wrong_lem : (r : Judged) → (layout.number ≡ 0 → ⊥) → r ≡ turned_back layout.number layout.place → r ≡ judged_plan s plan
  unfolding judged_plan
  layout_wrong_lem r h e = e ∙ rw (← el, ne_eqb _ _ h)

  module _ (hl : layout.number ≡ 0) (v : Verdict) (ev : v ≡ sections_from 3 s plan 1) where
    pub section_wrong : (r : Judged) → (v.number ≡ 0 → ⊥) → r ≡ turned_back v.number v.place → r ≡ judged_plan s plan
    unfolding judged_plan concluded
    section_wrong r h e = e ∙ rw (← el, eq-eqb _ _ hl, ← ev, ne_eqb _ _ h)

    pub all_right : (mosaic sorting flight : ℕ) → v.number ≡ 0 → mosaic ≡ stated_figure s plan 1 → sorting ≡ stated_figure s plan 2
        → flight ≡ stated_figure s plan 3
        → ◌≡◌ {A = Judged} (record { number = 0; place = 0; mosaic = mosaic; sorting = sorting; flight = flight }) (judged_plan s plan)
    unfolding judged_plan concluded found
    all_right mosaic sorting flight h e₁ e₂ e₃ = rw (← el, eq-eqb _ _ hl, ← ev, eq-eqb _ _ h, e₁, e₂, e₃)

module _ (sheet plan : List ℕ) (s : Sheet) (es : s ≡ read_sheet sheet) where
  pub sheet_wrong : (r : Judged) → (s.number ≡ 0 → ⊥) → r ≡ turned_back s.number s.place → r ≡ judged sheet plan
  unfolding judged
  sheet_wrong r h e = e ∙ rw (← es, ne_eqb _ _ h)

  pub sheet_right : (r : Judged) → s.number ≡ 0 → r ≡ judged_plan s plan → r ≡ judged sheet plan
  unfolding judged
  sheet_right r h e = e ∙ rw (← es, eq-eqb _ _ h)

  pub sheet_sound : s.number ≡ 0 → SheetSound s
  sheet_sound h = rw es (read_sound sheet (sym (ap (λ x. x.number) es) ∙ h))

pub sorting_at_lem : (s : Sheet) (plan : List ℕ) (mosaic : Part) → SheetSound s → mosaic ≡ mosaic_part s plan
    → (SortingSound s.sorting) × (mosaic.end ≡ (mosaic_part s plan).end)
sorting_at_lem s plan mosaic sound e = (sound.sorting, ap (λ p. p.end) e)

pub flight_at_lem : (s : Sheet) (plan : List ℕ) (sorting : Part) → sorting ≡ sorting_part s plan → sorting.end ≡ (sorting_part s plan).end
flight_at_lem s plan sorting e = ap (λ p. p.end) e
