-- The judge names a fault's number and place exactly where the fault lies: a plan with a fault is turned back with them, and what turns a plan back is a fault.
-- The members before the fault are passed one by one, and so are the sections.
use Prim.Native.Nat.{ℕ, zero, suc, ◌+◌, ◌-◌, ◌≤◌, ◌<◌}
use Rattle.std.proofs.Math.Path.{◌≡◌, refl, sym, ap, subst}
use Rattle.std.proofs.Common.{ap₂, ◌∙◌, arith}
use Rattle.std.specs.Prelude.{Bool, true, false, List, eqb}
use Rattle.std.proofs.Math.Decide.{ℕ_discrete}
use borrow.Author.Tests.{ne_eqb, eqb-false}
use Rattle.base.specs.Branch.{check}
use Rattle.order.specs.Order.{Decides}
use Rattle.sheet.specs.Refusals.{layout_wrong, rule_broken, figure_untrue}
use Rattle.sheet.specs.Read.{read_sheet, refused}
use Rattle.sheet.specs.Table.{RefusedFor}
use Rattle.sheet.proofs.Refused.{refused_for, refused_is, sound_exactly}
use Rattle.sheet.specs.declared.Sheet.{Sheet}
use Rattle.plan_read.specs.PlanRead.{figure_from}
use Rattle.judge_layout.specs.Layout.{verdict, layout_verdict, Verdict}
use Rattle.judge_members.specs.Members.{present, head_form, member_place, begun, member_follows, after_member, head_follows, figure_of, head_number}
use Rattle.judge_members.specs.declared.Progress.{Progress}
use Rattle.judge.specs.Judged.{part_at, section_from, section_verdict, sections_from, turned_back, found, judged}
use Rattle.judge.specs.Loops.{section_absent, zero_number, section_here, sections_next, sections_stop, member_next, member_wrong, members_judged, sheet_wrong}
use Rattle.judge.specs.Loops.{sheet_right, layout_wrong_lem, section_wrong}
use Rattle.judge.specs.declared.Judged.{Judged}
use Rattle.judge_laws.specs.Outcomes.{LayoutRight}
use Rattle.judge_laws.proofs.Outcomes.{right_layout, layout_right, sections_right, right_judged}
use Rattle.judge_laws.proofs.DueLaws.{layout_fault, laid_out, layout_fault_is, laid_out_right}
use Rattle.judge_laws.specs.Fault.{MemberFollows, HeadFollows, Reached, SectionFault, Fault}
use Rattle.judge_laws.proofs.Figures.{reached_figure}
use Rattle.judge_laws.proofs.Decided.{member_decided, head_decided, decided_true, decided_false}

-- one section
module _ (s : Sheet) (plan : List ℕ) (section : ℕ) where
  -- the head, the members judged
  head_fault : (st : Progress) → Reached s plan section (part_at s plan section).members st
      → (head_number s plan section (part_at s plan section) st ≡ 0 → ⊥)
      → SectionFault s plan section (head_number s plan section (part_at s plan section) st) (part_at s plan section).head
  unfolding head_number check
  head_fault st r h = go _ refl _ refl h
    where
      follows : Decides (HeadFollows s plan section (part_at s plan section) st) (head_follows s plan section (part_at s plan section) st)
      follows = head_decided s plan section (part_at s plan section) st

      go : (b : Bool) → head_follows s plan section (part_at s plan section) st ≡ b
          → (c : Bool) → eqb (figure_from (head_form section) plan (part_at s plan section).head) (figure_of s plan section (part_at s plan section) st) ≡ c
          → (check b rule_broken (check c figure_untrue 0) ≡ 0 → ⊥)
          → SectionFault s plan section (check b rule_broken (check c figure_untrue 0)) (part_at s plan section).head
      go false p c q n = SectionFault.at_head st r (follows.fails p) refl refl
      go true p false q n =
          SectionFault.figure_untrue_holds st r (follows.holds p) (λ e. eqb-false _ _ q (e ∙ sym (reached_figure s plan section st r (follows.holds p)))) refl refl
      go true p true q n = absurd (n refl)

  named : (v w : Verdict) → v ≡ w → SectionFault s plan section v.number v.place → SectionFault s plan section w.number w.place
  named v w e f = subst (λ (u : Verdict). SectionFault s plan section u.number u.place) e f

  -- from member k on
  fault_from : (n k : ℕ) (st : Progress) → Reached s plan section k st → k + n ≡ (part_at s plan section).members
      → ((section_from n s plan section (part_at s plan section) k st).number ≡ 0 → ⊥)
      → SectionFault s plan section (section_from n s plan section (part_at s plan section) k st).number
      (section_from n s plan section (part_at s plan section) k st).place
  unfolding verdict
  fault_from zero k st r e h =
      let q = members_judged s plan section (part_at s plan section) k st in
      named _ _ (sym q) (head_fault st (subst (λ (i : ℕ). Reached s plan section i st) (omega arith) r) (λ z. h (ap (λ v. v.number) q ∙ z)))
  fault_from (suc n) k st r e h = go _ refl (fault_from n (k + 1) (after_member s plan section (member_place section (part_at s plan section).head k) st))
    where
      follows : Decides (MemberFollows s plan section k (member_place section (part_at s plan section).head k) st)
          (member_follows s plan section k (member_place section (part_at s plan section).head k) st)
      follows = member_decided s plan section k (member_place section (part_at s plan section).head k) st

      rest : Verdict
      rest = section_from n s plan section (part_at s plan section) (k + 1) (after_member s plan section (member_place section (part_at s plan section).head k) st)

      go : (b : Bool) → member_follows s plan section k (member_place section (part_at s plan section).head k) st ≡ b
          → (Reached s plan section (k + 1) (after_member s plan section (member_place section (part_at s plan section).head k) st)
          → k + 1 + n ≡ (part_at s plan section).members → (rest.number ≡ 0 → ⊥) → SectionFault s plan section rest.number rest.place)
          → SectionFault s plan section (section_from (suc n) s plan section (part_at s plan section) k st).number
          (section_from (suc n) s plan section (part_at s plan section) k st).place
      go true p ih =
          let q = member_next n s plan section (part_at s plan section) k st p in
          named _ _ (sym q) (ih (Reached.next r (omega arith) (follows.holds p)) (omega arith) (λ z. h (ap (λ v. v.number) q ∙ z)))
      go false p ih =
          named _ _ (sym (member_wrong n s plan section (part_at s plan section) k st p))
          (SectionFault.at_member k st r (omega arith) (follows.fails p) refl refl)

  -- the members before are passed
  reached_same : {k : ℕ} {st : Progress} → Reached s plan section k st → (n : ℕ) → k + n ≡ (part_at s plan section).members
      → section_from (part_at s plan section).members s plan section (part_at s plan section) 0 begun ≡ section_from n s plan section (part_at s plan section) k st
  reached_same Reached.first n e =
      let q : (part_at s plan section).members ≡ n = omega arith in
      ap (λ (m : ℕ). section_from m s plan section (part_at s plan section) 0 begun) q
  reached_same (Reached.next {k} {st} r l h) n e =
      reached_same r (suc n) (omega arith) ∙ member_next n s plan section (part_at s plan section) k st (decided_true (member_decided s plan section k _ st) h)

  head_broken : (k : ℕ) (st : Progress) → (HeadFollows s plan section (part_at s plan section) st → ⊥)
      → section_from 0 s plan section (part_at s plan section) k st ≡ verdict rule_broken (part_at s plan section).head
  unfolding head_number check
  head_broken k st h =
      members_judged s plan section (part_at s plan section) k st ∙ rw (decided_false (head_decided s plan section (part_at s plan section) st) h)

  head_untrue : (k : ℕ) (st : Progress) → HeadFollows s plan section (part_at s plan section) st
      → (figure_from (head_form section) plan (part_at s plan section).head ≡ figure_of s plan section (part_at s plan section) st → ⊥)
      → section_from 0 s plan section (part_at s plan section) k st ≡ verdict figure_untrue (part_at s plan section).head
  unfolding head_number check
  head_untrue k st h n =
      members_judged s plan section (part_at s plan section) k st ∙ rw (decided_true (head_decided s plan section (part_at s plan section) st) h, ne_eqb _ _ n)

  fault_is : (number place : ℕ) → SectionFault s plan section number place
      → section_from (part_at s plan section).members s plan section (part_at s plan section) 0 begun ≡ verdict number place
  fault_is number place (SectionFault.at_member k st r l h en ep) =
      reached_same r (suc ((part_at s plan section).members - suc k)) (omega arith)
      ∙ member_wrong _ s plan section (part_at s plan section) k st (decided_false (member_decided s plan section k _ st) h)
      ∙ sym (ap₂ verdict en ep)
  fault_is number place (SectionFault.at_head st r h en ep) = reached_same r 0 (omega arith) ∙ head_broken _ st h ∙ sym (ap₂ verdict en ep)
  fault_is number place (SectionFault.figure_untrue_holds st r h n en ep) =
      reached_same r 0 (omega arith) ∙ head_untrue _ st h (λ e. n (e ∙ reached_figure s plan section st r h)) ∙ sym (ap₂ verdict en ep)

  -- a fault of a section has a number above 0
  fault_number : (number place : ℕ) → SectionFault s plan section number place → number ≡ 0 → ⊥
  fault_number number place (SectionFault.at_member k st r l h en ep) z = omega arith
  fault_number number place (SectionFault.at_head st r h en ep) z = omega arith
  fault_number number place (SectionFault.figure_untrue_holds st r h n en ep) z = omega arith

  section_fault_is : (number place : ℕ) → present s section ≡ true → SectionFault s plan section number place
      → section_verdict s plan section ≡ verdict number place
  section_fault_is number place p f = sym (section_here s plan section (part_at s plan section) refl p) ∙ fault_is number place f

  section_fault : ((section_verdict s plan section).number ≡ 0 → ⊥)
      → (present s section ≡ true) × SectionFault s plan section (section_verdict s plan section).number (section_verdict s plan section).place
  section_fault h = go (present s section) refl
    where
      go : (b : Bool) → present s section ≡ b
          → (present s section ≡ true) × SectionFault s plan section (section_verdict s plan section).number (section_verdict s plan section).place
      go true p =
          let q = section_here s plan section (part_at s plan section) refl p in
          (p, named _ _ q (fault_from (part_at s plan section).members 0 begun Reached.first (omega arith) (λ z. h (sym (ap (λ v. v.number) q) ∙ z))))
      go false p = absurd (h (ap (λ v. v.number) (section_absent s plan section p) ∙ zero_number 0))

  -- a section has no fault exactly where its verdict is 0
  no_fault : (section_verdict s plan section).number ≡ 0 → present s section ≡ true → (n p : ℕ) → SectionFault s plan section n p → ⊥
  unfolding verdict
  no_fault z there n p f = fault_number n p f (sym (ap (λ (v : Verdict). v.number) (section_fault_is n p there f)) ∙ z)

  none_judged : (present s section ≡ true → (n p : ℕ) → SectionFault s plan section n p → ⊥) → (section_verdict s plan section).number ≡ 0
  none_judged h = go (ℕ_discrete _ 0)
    where
      go : Dec ((section_verdict s plan section).number ≡ 0) → (section_verdict s plan section).number ≡ 0
      go (yes z) = z
      go (no n) = let f = section_fault n in absurd (h f.0 _ _ f.1)

-- the sections, one after another
module _ (s : Sheet) (plan : List ℕ) where
  record FirstFault (number place : ℕ) : Type 0 where
    pub section : ℕ
    pub low : 1 ≤ section
    pub high : section ≤ 3
    pub before : (i : ℕ) → 1 ≤ i → i < section → (section_verdict s plan i).number ≡ 0
    pub there : present s section ≡ true
    pub fault : SectionFault s plan section number place

  no_section_lem : (section : ℕ) → (sections_from 0 s plan section).number ≡ 0
  unfolding sections_from verdict
  no_section_lem section = refl

  first_fault : ((sections_from 3 s plan 1).number ≡ 0 → ⊥) → FirstFault (sections_from 3 s plan 1).number (sections_from 3 s plan 1).place
  first_fault h = go (ℕ_discrete _ 0) (ℕ_discrete _ 0) (ℕ_discrete _ 0)
    where
      at_section : (section : ℕ) → 1 ≤ section → section ≤ 3 → ((i : ℕ) → 1 ≤ i → i < section → (section_verdict s plan i).number ≡ 0)
          → sections_from 3 s plan 1 ≡ section_verdict s plan section → ((section_verdict s plan section).number ≡ 0 → ⊥)
          → FirstFault (sections_from 3 s plan 1).number (sections_from 3 s plan 1).place
      at_section section l u before e n =
          let f = section_fault s plan section n in
          subst (λ (v : Verdict). FirstFault v.number v.place) (sym e)
          (record { section = section; low = l; high = u; before = before; there = f.0; fault = f.1 })

      one_before : (section_verdict s plan 1).number ≡ 0 → (i : ℕ) → 1 ≤ i → i < 2 → (section_verdict s plan i).number ≡ 0
      one_before z i l u = let q : 1 ≡ i = omega arith in subst (λ (k : ℕ). (section_verdict s plan k).number ≡ 0) q z

      two_before : (section_verdict s plan 1).number ≡ 0 → (section_verdict s plan 2).number ≡ 0 → (i : ℕ) → 1 ≤ i → i < 3 → Dec (1 ≡ i)
          → (section_verdict s plan i).number ≡ 0
      two_before z y i l u (yes q) = subst (λ (k : ℕ). (section_verdict s plan k).number ≡ 0) q z
      two_before z y i l u (no q) = let r : 2 ≡ i = omega arith in subst (λ (k : ℕ). (section_verdict s plan k).number ≡ 0) r y

      go : Dec ((section_verdict s plan 1).number ≡ 0) → Dec ((section_verdict s plan 2).number ≡ 0) → Dec ((section_verdict s plan 3).number ≡ 0)
          → FirstFault (sections_from 3 s plan 1).number (sections_from 3 s plan 1).place
      go (no n) b c = at_section 1 (omega arith) (omega arith) (λ i l u. absurd (omega arith)) (sections_stop 2 s plan 1 n) n
      go (yes z) (no n) c = at_section 2 (omega arith) (omega arith) (one_before z) (sections_next 2 s plan 1 z ∙ sections_stop 1 s plan 2 n) n
      go (yes z) (yes y) (no n) =
          at_section 3 (omega arith) (omega arith) (λ i l u. two_before z y i l u (ℕ_discrete 1 i))
          (sections_next 2 s plan 1 z ∙ sections_next 1 s plan 2 y ∙ sections_stop 0 s plan 3 n) n
      go (yes z) (yes y) (yes x) =
          absurd (h (ap (λ (v : Verdict). v.number) (sections_next 2 s plan 1 z ∙ sections_next 1 s plan 2 y ∙ sections_next 0 s plan 3 x) ∙ no_section_lem 4))

  module _ (number place : ℕ) where
    wrong_number : (section : ℕ) → section_verdict s plan section ≡ verdict number place → (number ≡ 0 → ⊥) → (section_verdict s plan section).number ≡ 0 → ⊥
    unfolding verdict
    wrong_number section e n z = n (sym (ap (λ (v : Verdict). v.number) e) ∙ z)

    first_fault_is : (section : ℕ) → 1 ≤ section → section ≤ 3 → ((i : ℕ) → 1 ≤ i → i < section → (section_verdict s plan i).number ≡ 0)
        → section_verdict s plan section ≡ verdict number place → (number ≡ 0 → ⊥) → sections_from 3 s plan 1 ≡ verdict number place
    first_fault_is zero l u before e n = absurd (omega arith)
    first_fault_is (suc zero) l u before e n = sections_stop 2 s plan 1 (wrong_number 1 e n) ∙ e
    first_fault_is (suc (suc zero)) l u before e n =
        sections_next 2 s plan 1 (before 1 (omega arith) (omega arith)) ∙ sections_stop 1 s plan 2 (wrong_number 2 e n) ∙ e
    first_fault_is (suc (suc (suc zero))) l u before e n =
        sections_next 2 s plan 1 (before 1 (omega arith) (omega arith))
        ∙ sections_next 1 s plan 2 (before 2 (omega arith) (omega arith))
        ∙ sections_stop 0 s plan 3 (wrong_number 3 e n)
        ∙ e
    first_fault_is (suc (suc (suc (suc section)))) l u before e n = absurd (omega arith)

-- the answer
module _ (sheet plan : List ℕ) where
  sheet_refused : ((read_sheet sheet).number ≡ 0 → ⊥) → judged sheet plan ≡ turned_back (read_sheet sheet).number (read_sheet sheet).place
  sheet_refused n = sym (sheet_wrong sheet plan (read_sheet sheet) refl _ n refl)

  layout_refused : (read_sheet sheet).number ≡ 0 → ((layout_verdict (read_sheet sheet) plan).number ≡ 0 → ⊥)
      → judged sheet plan ≡ turned_back (layout_verdict (read_sheet sheet) plan).number (layout_verdict (read_sheet sheet) plan).place
  layout_refused z n =
      sym (sheet_right sheet plan (read_sheet sheet) refl _ z (layout_wrong_lem (read_sheet sheet) plan (layout_verdict (read_sheet sheet) plan) refl _ n refl))

  sections_refused : (read_sheet sheet).number ≡ 0 → (layout_verdict (read_sheet sheet) plan).number ≡ 0 → ((sections_from 3 (read_sheet sheet) plan 1).number ≡ 0 → ⊥)
      → judged sheet plan ≡ turned_back (sections_from 3 (read_sheet sheet) plan 1).number (sections_from 3 (read_sheet sheet) plan 1).place
  sections_refused z y n =
      sym
      (sheet_right sheet plan (read_sheet sheet) refl _ z (section_wrong (read_sheet sheet) plan (layout_verdict (read_sheet sheet) plan) refl y (sections_from 3 (read_sheet sheet) plan 1) refl _ n refl))

  none_refused : (read_sheet sheet).number ≡ 0 → (layout_verdict (read_sheet sheet) plan).number ≡ 0 → (sections_from 3 (read_sheet sheet) plan 1).number ≡ 0
      → (judged sheet plan).number ≡ 0
  unfolding found
  none_refused z y x =
      ap (λ (j : Judged). j.number)
      (right_judged sheet plan z (record { layout = layout_right (read_sheet sheet) plan y; sections = sections_right (read_sheet sheet) plan x }))

  turned : (number place : ℕ) → judged sheet plan ≡ turned_back number place → Fault sheet plan number place
      → Fault sheet plan (judged sheet plan).number (judged sheet plan).place
  unfolding turned_back
  turned number place e f = subst (λ (j : Judged). Fault sheet plan j.number j.place) (sym e) f

  pub turned_back_fault : ((judged sheet plan).number ≡ 0 → ⊥) → Fault sheet plan (judged sheet plan).number (judged sheet plan).place
  turned_back_fault h = go (ℕ_discrete _ 0) (ℕ_discrete _ 0) (ℕ_discrete _ 0)
    where
      go : Dec ((read_sheet sheet).number ≡ 0) → Dec ((layout_verdict (read_sheet sheet) plan).number ≡ 0)
          → Dec ((sections_from 3 (read_sheet sheet) plan 1).number ≡ 0) → Fault sheet plan (judged sheet plan).number (judged sheet plan).place
      go (no n) b c = turned _ _ (sheet_refused n) (Fault.in_sheet (refused_for sheet n))
      go (yes z) (no n) c = let f = layout_fault (read_sheet sheet) plan n in turned _ _ (layout_refused z n) (Fault.in_layout z f.1 f.0)
      go (yes z) (yes y) (no n) =
          let f = first_fault (read_sheet sheet) plan n in
          turned _ _ (sections_refused z y n)
          (Fault.in_section f.section z (laid_out (read_sheet sheet) plan (layout_right (read_sheet sheet) plan y)) f.low f.high (λ i l u. no_fault (read_sheet sheet) plan i (f.before i l u)) f.there f.fault)
      go (yes z) (yes y) (yes x) = absurd (h (none_refused z y x))

  section_turned_back : (number place : ℕ) → (read_sheet sheet).number ≡ 0 → LayoutRight (read_sheet sheet) plan
      → sections_from 3 (read_sheet sheet) plan 1 ≡ verdict number place → (number ≡ 0 → ⊥) → judged sheet plan ≡ turned_back number place
  unfolding verdict
  section_turned_back number place z l e n =
      sections_refused z (right_layout (read_sheet sheet) plan l) (λ q. n (sym (ap (λ (v : Verdict). v.number) e) ∙ q))
      ∙ ap (λ (v : Verdict). turned_back v.number v.place) e

  layout_turned_back : (place : ℕ) → (read_sheet sheet).number ≡ 0 → layout_verdict (read_sheet sheet) plan ≡ verdict layout_wrong place
      → judged sheet plan ≡ turned_back layout_wrong place
  unfolding verdict
  layout_turned_back place z e =
      layout_refused z (λ q. let y : ◌≡◌ {A = ℕ} layout_wrong 0 = sym (ap (λ (v : Verdict). v.number) e) ∙ q in omega arith)
      ∙ ap (λ (v : Verdict). turned_back v.number v.place) e

  cause_turned_back : (number place : ℕ) → RefusedFor sheet number place → judged sheet plan ≡ turned_back number place
  unfolding refused
  cause_turned_back number place f =
      let e : read_sheet sheet ≡ refused number place = refused_is sheet number place f in
      sheet_refused (λ z. (sound_exactly sheet).0 z number place f) ∙ ap (λ (x : Sheet). turned_back x.number x.place) e

  pub fault_turned_back : (number place : ℕ) → Fault sheet plan number place → judged sheet plan ≡ turned_back number place
  fault_turned_back number place (Fault.in_sheet f) = cause_turned_back number place f
  fault_turned_back number place (Fault.in_layout z f en) =
      layout_turned_back place z (layout_fault_is (read_sheet sheet) plan place f) ∙ sym (ap (λ (k : ℕ). turned_back k place) en)
  fault_turned_back number place (Fault.in_section section z l low high before there f) =
      let n = fault_number (read_sheet sheet) plan section number place f in
      section_turned_back number place z (laid_out_right (read_sheet sheet) plan l)
      (first_fault_is (read_sheet sheet) plan number place section low high (λ i p u. none_judged (read_sheet sheet) plan i (before i p u)) (section_fault_is (read_sheet sheet) plan section number place there f) n)
      n
