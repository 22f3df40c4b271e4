-- The judge decides 12. Walking from part to part as it does, every field passed is due where it stands, and where a part is not right, no field that is due
-- stands (Standing). And the fields that are due are determined by the plan, so that no other place is the first wrong one (`first_wrong_once`).
use Prim.Native.Nat.{ℕ, zero, suc, ◌+◌, ◌*◌, ◌≤◌, ◌<◌}
use Rattle.std.specs.Prelude.{◌≡◌, List, length, eqb}
use Rattle.std.proofs.Math.Path.{refl, ap, ap₂, subst}
use Rattle.std.proofs.Common.{sym, ◌∙◌}
use Rattle.std.proofs.Math.Bool.{Bool, true, false, cond, true≢false}
use Rattle.std.proofs.Math.Decide.{ℕ_discrete, dec_lt}
use Rattle.std.proofs.Math.Nat.{mul_comm, mul-suc}
use native.Mathlib.Omega.{arith}
use Rattle.std.proofs.lemmas.Bool.{eqb-false}
use Rattle.field.specs.Field.{field_at}
use Rattle.field.specs.Fields.{field_end, whole_at}
use Rattle.field.specs.declared.Field.{Field}
use Rattle.field.specs.declared.Field.TheVariants.{Whole}
use Rattle.sheet.specs.Refusals.{layout_wrong}
use Rattle.sheet.specs.declared.Sheet.{Sheet}
use Rattle.plan_format.specs.Format.{mosaic_head_form, batch_form, sorting_head_form, job_form, flight_head_form, passes_form}
use Rattle.judge_layout.specs.Layout.{is_field, run, part_from, part_of, mosaic_part, sorting_part, flight_part, verdict, layout_verdict, Verdict}
use Rattle.judge_layout.specs.Laws.{is_field_true}
use Rattle.judge_layout.specs.declared.Part.{Part}
use Rattle.judge_members.specs.Members.{present, head_form, member_form}
use Rattle.judge.specs.Judged.{pick_part, part_at}
use Rattle.judge_laws.proofs.Laid.{is_field_lem, run_each}
use Rattle.judge_laws.specs.Outcomes.{LayoutRight}
use Rattle.judge_laws.proofs.Outcomes.{layout_right}
use Rattle.judge_laws.specs.Due.{head_tag, head_length, member_tag, member_length, NextSection, Due, DueUpTo, NoneDue, LayoutFault, LaidOut, SectionAt}

-- no field stands at the end of a plan or behind it
end_none : (plan : List ℕ) (at tag len : ℕ) → length plan ≤ at → is_field (field_at plan at) tag len ≡ false
unfolding is_field
end_none plan at tag len h = rw (← field_end plan at h)

module _ (s : Sheet) (plan : List ℕ) where
  -- what is passed lies within the plan
  due_within : {n at k : ℕ} → DueUpTo s plan n at k → at ≤ length plan
  due_within DueUpTo.none = omega arith
  due_within (DueUpTo.more {n} {at} {k} {j} tag len p f d) = let w = (whole_at plan at tag len f).within in omega arith

  record Passed (at k : ℕ) : Type 0 where
    pub fields : ℕ
    pub due : DueUpTo s plan fields at k

  -- the members that are counted are passed, and behind them stands no further one
  members_passed : (k : ℕ) → 1 ≤ k → (turns at : ℕ) → Passed at k → Passed (at + run turns plan at (member_tag k) (member_length k) * (3 + member_length k)) k
  unfolding run
  members_passed k l zero at p = subst (λ (i : ℕ). Passed i k) (omega (arith, mul_comm 0 (3 + member_length k))) p
  members_passed k l (suc turns) at p =
      go (is_field (field_at plan at) (member_tag k) (member_length k)) refl (members_passed k l turns (at + (3 + member_length k)))
    where
      go : (b : Bool) → is_field (field_at plan at) (member_tag k) (member_length k) ≡ b
          → (Passed (at + (3 + member_length k)) k
          → Passed (at + (3 + member_length k) + run turns plan (at + (3 + member_length k)) (member_tag k) (member_length k) * (3 + member_length k)) k)
          → Passed (at + elim b [ true ↦ suc (run turns plan (at + (3 + member_length k)) (member_tag k) (member_length k)) | false ↦ 0 ] * (3 + member_length k)) k
      go true e ih =
          subst (λ (i : ℕ). Passed i k)
          (omega (arith, mul_comm (suc (run turns plan (at + (3 + member_length k)) (member_tag k) (member_length k))) (3 + member_length k), mul-suc (3 + member_length k) (run turns plan (at + (3 + member_length k)) (member_tag k) (member_length k)), mul_comm (3 + member_length k) (run turns plan (at + (3 + member_length k)) (member_tag k) (member_length k))))
          (ih (record { fields = suc p.fields; due = DueUpTo.more (member_tag k) (member_length k) p.due (is_field_true (field_at plan at) (member_tag k) (member_length k) e) (Due.member l refl refl) }))
      go false e ih = subst (λ (i : ℕ). Passed i k) (omega (arith, mul_comm 0 (3 + member_length k))) p

run_stops : (turns : ℕ) (plan : List ℕ) (at tag len : ℕ) → length plan ≤ turns + at
    → is_field (field_at plan (at + run turns plan at tag len * (3 + len))) tag len ≡ false
unfolding run
run_stops zero plan at tag len h = end_none plan (at + 0 * (3 + len)) tag len (omega (arith, mul_comm 0 (3 + len)))
run_stops (suc turns) plan at tag len h = go (is_field (field_at plan at) tag len) refl (run_stops turns plan (at + (3 + len)) tag len)
  where
    go : (b : Bool) → is_field (field_at plan at) tag len ≡ b
        → (length plan ≤ turns + (at + (3 + len))
        → is_field (field_at plan (at + (3 + len) + run turns plan (at + (3 + len)) tag len * (3 + len))) tag len ≡ false)
        → is_field (field_at plan (at + elim b [ true ↦ suc (run turns plan (at + (3 + len)) tag len) | false ↦ 0 ] * (3 + len))) tag len ≡ false
    go true e ih =
        subst (λ (i : ℕ). is_field (field_at plan i) tag len ≡ false)
        (omega (arith, mul_comm (suc (run turns plan (at + (3 + len)) tag len)) (3 + len), mul-suc (3 + len) (run turns plan (at + (3 + len)) tag len), mul_comm (3 + len) (run turns plan (at + (3 + len)) tag len)))
        (ih (omega arith))
    go false e ih = subst (λ (i : ℕ). is_field (field_at plan i) tag len ≡ false) (omega (arith, mul_comm 0 (3 + len))) e

-- there is one next section
next_once : (s : Sheet) (k i j : ℕ) → NextSection s k i → NextSection s k j → i ≡ j
next_once s k i j x y = go (dec_lt i j) (dec_lt j i)
  where
    go : Dec (i < j) → Dec (j < i) → i ≡ j
    go (yes l) b = absurd (y.none_between i x.behind l x.there)
    go (no l) (yes m) = absurd (x.none_between j y.behind m y.there)
    go (no l) (no m) = omega (arith, l, m)

-- a section of a plan, by its number: it is absent, its head does not stand where it is due, or it is found
abbrev part_numbered : Sheet → List ℕ → ℕ → ℕ → Part
part_numbered s plan at j = part_of (present s j) plan at (head_tag j) (head_length j) (member_tag j) (member_length j)

data PartCase (s : Sheet) (plan : List ℕ) (at j : ℕ) : Part → Type 0 where
  absent : present s j ≡ false → PartCase s plan at j (record { right = true; head = at; members = 0; end = at })
  no_head : present s j ≡ true → is_field (field_at plan at) (head_tag j) (head_length j) ≡ false
      → PartCase s plan at j (record { right = false; head = at; members = 0; end = at })
  found : present s j ≡ true → is_field (field_at plan at) (head_tag j) (head_length j) ≡ true
      → PartCase s plan at j (part_from plan at (head_length j) (member_tag j) (member_length j))

part_case : (s : Sheet) (plan : List ℕ) (at j : ℕ) → PartCase s plan at j (part_numbered s plan at j)
unfolding part_of
part_case s plan at j = go (present s j) refl (is_field (field_at plan at) (head_tag j) (head_length j)) refl
  where
    go : (b : Bool) → present s j ≡ b → (c : Bool) → is_field (field_at plan at) (head_tag j) (head_length j) ≡ c
        → PartCase s plan at j
        (cond b (cond c (part_from plan at (head_length j) (member_tag j) (member_length j)) (record { right = false; head = at; members = 0; end = at })) (record { right = true; head = at; members = 0; end = at }))
    go false p c h = PartCase.absent p
    go true p false h = PartCase.no_head p h
    go true p true h = PartCase.found p h

module _ (s : Sheet) (plan : List ℕ) where
  -- The parts up to section k are right and end at the offset: `section` is the last of them that is present, and no further member of it follows.
  record Standing (k at : ℕ) : Type 0 where
    pub section : ℕ
    pub fields : ℕ
    pub due : DueUpTo s plan fields at section
    pub behind : section ≤ k
    pub none_between : (i : ℕ) → section < i → i ≤ k → present s i ≡ true → ⊥
    pub no_member : 1 ≤ section → is_field (field_at plan at) (member_tag section) (member_length section) ≡ false

  stand_start : Standing 0 0
  stand_start =
      record { section = 0; fields = 0; due = DueUpTo.none; behind = omega arith; none_between = λ i l u p. omega arith; no_member = λ l. absurd (omega arith) }

  module _ (k at : ℕ) (st : Standing k at) where
    next_section_lem : k < 3 → present s (suc k) ≡ true → NextSection s st.section (suc k)
    next_section_lem l p =
        record { behind = let b = st.behind in omega arith; known = omega arith; there = p; none_between = λ i lo hi q. st.none_between i lo (omega arith) q }

    -- a member of the section does not stand there, whatever is due
    not_member : (tag len : ℕ) → 1 ≤ st.section → field_at plan at ≡ Whole tag len → tag ≡ member_tag st.section → len ≡ member_length st.section → ⊥
    not_member tag len l f et el =
        true≢false (sym (is_field_lem (field_at plan at) (member_tag st.section) (member_length st.section) (f ∙ ap₂ Whole et el)) ∙ st.no_member l)

    absent_behind : present s (suc k) ≡ false → Standing (suc k) at
    absent_behind p =
        record {
          section = st.section;
          fields = st.fields;
          due = st.due;
          behind = let b = st.behind in omega arith;
          none_between = λ i lo hi q. between i lo hi q (ℕ_discrete i (suc k));
          no_member = st.no_member;
        }
      where
        between : (i : ℕ) → st.section < i → i ≤ suc k → present s i ≡ true → Dec (i ≡ suc k) → ⊥
        between i lo hi q (yes e) = true≢false (sym q ∙ ap (present s) e ∙ p)
        between i lo hi q (no n) = st.none_between i lo (omega arith) q

    found_behind : k < 3 → present s (suc k) ≡ true → is_field (field_at plan at) (head_tag (suc k)) (head_length (suc k)) ≡ true
        → Standing (suc k) (part_from plan at (head_length (suc k)) (member_tag (suc k)) (member_length (suc k))).end
    unfolding part_from
    found_behind l p h =
        let m = members_passed s plan (suc k) (omega arith) (length plan) (at + (3 + head_length (suc k))) headed in
        record {
          section = suc k;
          fields = m.fields;
          due = m.due;
          behind = omega arith;
          none_between = λ i lo hi q. omega arith;
          no_member = λ _. run_stops (length plan) plan (at + (3 + head_length (suc k))) (member_tag (suc k)) (member_length (suc k)) (omega arith);
        }
      where
        headed : Passed s plan (at + (3 + head_length (suc k))) (suc k)
        headed =
            record {
              fields = suc st.fields;
              due =
                  DueUpTo.more (head_tag (suc k)) (head_length (suc k)) st.due (is_field_true (field_at plan at) (head_tag (suc k)) (head_length (suc k)) h)
                  (Due.head (next_section_lem l p) refl refl);
            }

    -- the next part is right: the walk goes on behind it
    part_passed : k < 3 → (p : Part) → PartCase s plan at (suc k) p → p.right ≡ true → Standing (suc k) p.end
    part_passed l p (PartCase.absent a) r = absent_behind a
    part_passed l p (PartCase.no_head a h) r = absurd (true≢false (sym r))
    part_passed l p (PartCase.found a h) r = found_behind l a h

    head_missing : k < 3 → present s (suc k) ≡ true → is_field (field_at plan at) (head_tag (suc k)) (head_length (suc k)) ≡ false → Dec (at < length plan)
        → LayoutFault s plan at
    unfolding NoneDue
    head_missing l p h (yes a) = LayoutFault.wrong_field st.fields st.section st.due a none_due
      where
        none_due : (tag len j : ℕ) → field_at plan at ≡ Whole tag len → Due s st.section tag len j → ⊥
        none_due tag len j f (Due.head x et el) =
            let e = next_once s st.section j (suc k) x (next_section_lem l p) in
            true≢false (sym (is_field_lem (field_at plan at) (head_tag (suc k)) (head_length (suc k)) (f ∙ ap₂ Whole (et ∙ ap head_tag e) (el ∙ ap head_length e))) ∙ h)
        none_due tag len j f (Due.member lo et el) = not_member tag len lo f et el
    head_missing l p h (no a) =
        LayoutFault.ends_early st.fields st.section (suc k) st.due (let w = due_within s plan st.due in omega (arith, a)) (next_section_lem l p)

    -- the next part is not right: its head is due, and another field stands there or none
    part_fault : k < 3 → (p : Part) → PartCase s plan at (suc k) p → p.right ≡ false → LayoutFault s plan p.head
    unfolding part_from
    part_fault l p (PartCase.absent a) r = absurd (true≢false r)
    part_fault l p (PartCase.no_head a h) r = head_missing l a h (dec_lt at (length plan))
    part_fault l p (PartCase.found a h) r = absurd (true≢false r)

  -- a section that is found stands where it is due
  section_found : (k at : ℕ) → Standing k at → k < 3 → (p : Part) → PartCase s plan at (suc k) p → p.right ≡ true → present s (suc k) ≡ true
      → SectionAt s plan (suc k) p.head p.members
  unfolding part_from
  section_found k at st l p (PartCase.absent a) r h = absurd (true≢false (sym h ∙ a))
  section_found k at st l p (PartCase.no_head a n) r h = absurd (true≢false (sym r))
  section_found k at st l p (PartCase.found a f) r h =
      record {
        fields = st.fields;
        before = st.section;
        due = st.due;
        next = next_section_lem k at st l h;
        head_there = is_field_true (field_at plan at) (head_tag (suc k)) (head_length (suc k)) f;
        members_there = run_each (length plan) plan (at + (3 + head_length (suc k))) (member_tag (suc k)) (member_length (suc k));
        no_more =
            λ e. true≢false (sym (is_field_lem _ (member_tag (suc k)) (member_length (suc k)) e) ∙ run_stops (length plan) plan (at + (3 + head_length (suc k))) (member_tag (suc k)) (member_length (suc k)) (omega arith));
      }

  -- behind the last section no section is left ..
  none_left : (at : ℕ) (st : Standing 3 at) (j : ℕ) → NextSection s st.section j → ⊥
  none_left at st j x = st.none_between j x.behind x.known x.there

  -- .. so that what stands there is wrong, and a plan that ends there is laid out right
  behind_fault : (at : ℕ) → Standing 3 at → (at ≡ length plan → ⊥) → LayoutFault s plan at
  unfolding NoneDue
  behind_fault at st n = LayoutFault.wrong_field st.fields st.section st.due (let w = due_within s plan st.due in omega (arith, n)) none_due
    where
      none_due : (tag len j : ℕ) → field_at plan at ≡ Whole tag len → Due s st.section tag len j → ⊥
      none_due tag len j f (Due.head x et el) = none_left at st j x
      none_due tag len j f (Due.member lo et el) = not_member 3 at st tag len lo f et el

  all_laid_out : (at : ℕ) → Standing 3 at → at ≡ length plan → LaidOut s plan
  all_laid_out at st e =
      record {
        fields = st.fields;
        section = st.section;
        due = subst (λ (i : ℕ). DueUpTo s plan st.fields i st.section) e st.due;
        last = none_left at st;
      }

  -- The judge's walk over the three parts.
  mosaic_case : PartCase s plan 0 1 (mosaic_part s plan)
  unfolding mosaic_part head_form member_form present
  mosaic_case = part_case s plan 0 1

  sorting_case : PartCase s plan (mosaic_part s plan).end 2 (sorting_part s plan)
  unfolding sorting_part head_form member_form present
  sorting_case = part_case s plan (mosaic_part s plan).end 2

  flight_case : PartCase s plan (sorting_part s plan).end 3 (flight_part s plan)
  unfolding flight_part head_form member_form present
  flight_case = part_case s plan (sorting_part s plan).end 3

  after_mosaic : (mosaic_part s plan).right ≡ true → Standing 1 (mosaic_part s plan).end
  after_mosaic r = part_passed 0 0 stand_start (omega arith) (mosaic_part s plan) mosaic_case r

  after_sorting : (mosaic_part s plan).right ≡ true → (sorting_part s plan).right ≡ true → Standing 2 (sorting_part s plan).end
  after_sorting m r = part_passed 1 (mosaic_part s plan).end (after_mosaic m) (omega arith) (sorting_part s plan) sorting_case r

  after_flight : (mosaic_part s plan).right ≡ true → (sorting_part s plan).right ≡ true → (flight_part s plan).right ≡ true → Standing 3 (flight_part s plan).end
  after_flight m o r = part_passed 2 (sorting_part s plan).end (after_sorting m o) (omega arith) (flight_part s plan) flight_case r

  -- Where the layout is right, the head and the members that the judge takes for a section's are those that are due.
  part_due : LayoutRight s plan → (k : ℕ) → 1 ≤ k → k ≤ 3 → present s k ≡ true → SectionAt s plan k (part_at s plan k).head (part_at s plan k).members
  unfolding part_at pick_part
  part_due r zero lo hi h = absurd (omega arith)
  part_due r (suc zero) lo hi h = section_found 0 0 stand_start (omega arith) (mosaic_part s plan) mosaic_case r.mosaic h
  part_due r (suc (suc zero)) lo hi h =
      section_found 1 (mosaic_part s plan).end (after_mosaic r.mosaic) (omega arith) (sorting_part s plan) sorting_case r.sorting h
  part_due r (suc (suc (suc zero))) lo hi h =
      section_found 2 (sorting_part s plan).end (after_sorting r.mosaic r.sorting) (omega arith) (flight_part s plan) flight_case r.flight h
  part_due r (suc (suc (suc (suc k)))) lo hi h = absurd (omega arith)

  -- the number is 12 at a fault of the layout ..
  pub layout_fault : ((layout_verdict s plan).number ≡ 0 → ⊥) → ((layout_verdict s plan).number ≡ layout_wrong) × LayoutFault s plan (layout_verdict s plan).place
  unfolding layout_verdict verdict
  layout_fault h = go _ refl _ refl _ refl _ refl h
    where
      found_wrong : Bool → Bool → Bool → Bool → Verdict
      found_wrong a b c d =
          cond a
          (cond b (cond c (cond d (verdict 0 0) (verdict layout_wrong (flight_part s plan).end)) (verdict layout_wrong (flight_part s plan).head)) (verdict layout_wrong (sorting_part s plan).head))
          (verdict layout_wrong (mosaic_part s plan).head)

      go : (a : Bool) → (mosaic_part s plan).right ≡ a → (b : Bool) → (sorting_part s plan).right ≡ b → (c : Bool) → (flight_part s plan).right ≡ c → (d : Bool)
          → eqb (flight_part s plan).end (length plan) ≡ d
          → ((found_wrong a b c d).number ≡ 0 → ⊥) → ((found_wrong a b c d).number ≡ layout_wrong) × LayoutFault s plan (found_wrong a b c d).place
      go false p b q c r d t h = (refl, part_fault 0 0 stand_start (omega arith) (mosaic_part s plan) mosaic_case p)
      go true p false q c r d t h = (refl, part_fault 1 (mosaic_part s plan).end (after_mosaic p) (omega arith) (sorting_part s plan) sorting_case q)
      go true p true q false r d t h = (refl, part_fault 2 (sorting_part s plan).end (after_sorting p q) (omega arith) (flight_part s plan) flight_case r)
      go true p true q true r false t h = (refl, behind_fault (flight_part s plan).end (after_flight p q r) (eqb-false _ _ t))
      go true p true q true r true t h = absurd (h refl)

  -- .. and else the plan is laid out right
  pub laid_out : LayoutRight s plan → LaidOut s plan
  laid_out l = all_laid_out (flight_part s plan).end (after_flight l.mosaic l.sorting l.flight) l.end

-- The fields that are due are determined: a head is told from a member by its tag, so that a field leads to one section.
heads_no_members : (i k : ℕ) → head_tag i ≡ member_tag k → ⊥
unfolding head_form member_form
heads_no_members i k e = go (eqb i 1) (eqb i 2) (eqb k 1) (eqb k 2) e
  where
    go : (a b c d : Bool)
        → (cond a mosaic_head_form (cond b sorting_head_form flight_head_form)).tag ≡ (cond c batch_form (cond d job_form passes_form)).tag → ⊥
    go true b true d e = omega arith
    go true b false true e = omega arith
    go true b false false e = omega arith
    go false true true d e = omega arith
    go false true false true e = omega arith
    go false true false false e = omega arith
    go false false true d e = omega arith
    go false false false true e = omega arith
    go false false false false e = omega arith

due_once : (s : Sheet) (k tag len i j : ℕ) → Due s k tag len i → Due s k tag len j → i ≡ j
due_once s k tag len i j (Due.head x et el) (Due.head y ft fl) = next_once s k i j x y
due_once s k tag len i j (Due.head x et el) (Due.member l ft fl) = absurd (heads_no_members i k (sym et ∙ ft))
due_once s k tag len i j (Due.member l et el) (Due.head y ft fl) = absurd (heads_no_members j k (sym ft ∙ et))
due_once s k tag len i j (Due.member l et el) (Due.member m ft fl) = refl

whole_once : (f : Field) (tag len t l : ℕ) → f ≡ Whole tag len → f ≡ Whole t l → (tag ≡ t) × (len ≡ l)
whole_once f tag len t l e h = (cc, cc)

module _ (s : Sheet) (plan : List ℕ) where
  due_up_to_once : {n at k bt j : ℕ} → DueUpTo s plan n at k → DueUpTo s plan n bt j → (at ≡ bt) × (k ≡ j)
  due_up_to_once DueUpTo.none DueUpTo.none = (refl, refl)
  due_up_to_once (DueUpTo.more {at = at} {k = k} {j = i} tag len p f d) (DueUpTo.more {at = bt} {k = l} {j = j} t u q g e) = go (due_up_to_once p q)
    where
      go : (at ≡ bt) × (k ≡ l) → (at + (3 + len) ≡ bt + (3 + u)) × (i ≡ j)
      go h =
          let w = whole_once (field_at plan at) tag len t u f (ap (field_at plan) h.0 ∙ g) in (
            omega (arith, w.1, h.0),
            due_once s k tag len i j d
                (subst (λ (x : ℕ). Due s x tag len j) (sym h.1) (subst (λ (x : ℕ). Due s l x len j) (sym w.0) (subst (λ (x : ℕ). Due s l t x j) (sym w.1) e))),
          )

  -- before its end, every field of the walk is due
  record DueThere (n : ℕ) : Type 0 where
    pub at : ℕ
    pub section : ℕ
    pub up_to : DueUpTo s plan n at section
    pub tag : ℕ
    pub len : ℕ
    pub next : ℕ
    pub field : field_at plan at ≡ Whole tag len
    pub due : Due s section tag len next

  due_before : {n at k : ℕ} → DueUpTo s plan n at k → (m : ℕ) → m < n → DueThere m
  due_before DueUpTo.none m l = absurd (omega arith)
  due_before (DueUpTo.more {n} {at} {k} {j} tag len p f d) m l = go (ℕ_discrete m n) (λ h. due_before p m h)
    where
      go : Dec (m ≡ n) → (m < n → DueThere m) → DueThere m
      go (yes e) h = subst DueThere (sym e) (record { at = at; section = k; up_to = p; tag = tag; len = len; next = j; field = f; due = d })
      go (no e) h = h (omega (arith, e))

  -- where the walk is at its end: no field that is due follows
  record FirstWrong (at k : ℕ) : Type 0 where
    pub fields : ℕ
    pub up_to : DueUpTo s plan fields at k
    pub none : NoneDue s plan at k

  not_before : {at k bt j : ℕ} (p : FirstWrong at k) (q : FirstWrong bt j) → p.fields < q.fields → ⊥
  unfolding NoneDue
  not_before {at} {k} p q l =
      let d = due_before q.up_to p.fields l in
      let e = due_up_to_once d.up_to p.up_to in
      p.none d.tag d.len d.next (ap (field_at plan) (sym e.0) ∙ d.field) (subst (λ (x : ℕ). Due s x d.tag d.len d.next) e.1 d.due)

  first_wrong_once : {at k bt j : ℕ} → FirstWrong at k → FirstWrong bt j → (at ≡ bt) × (k ≡ j)
  first_wrong_once {at} {k} {bt} {j} p q = go (dec_lt p.fields q.fields) (dec_lt q.fields p.fields)
    where
      go : Dec (p.fields < q.fields) → Dec (q.fields < p.fields) → (at ≡ bt) × (k ≡ j)
      go (yes l) b = absurd (not_before p q l)
      go (no l) (yes m) = absurd (not_before q p m)
      go (no l) (no m) =
          let e : p.fields ≡ q.fields = omega (arith, l, m) in
          due_up_to_once p.up_to (subst (λ (x : ℕ). DueUpTo s plan x bt j) (sym e) q.up_to)

  -- at the end of the plan no field stands
  at_end_lem : (at k : ℕ) → at ≡ length plan → NoneDue s plan at k
  unfolding NoneDue
  at_end_lem at k e tag len j f d = let w = (whole_at plan at tag len f).within in omega arith

  first_wrong_right : (r : LaidOut s plan) → FirstWrong (length plan) r.section
  first_wrong_right r = record { fields = r.fields; up_to = r.due; none = at_end_lem (length plan) r.section refl }

  -- one plan has no two first faults, and none where it is laid out right
  fault_once : (place other : ℕ) → LayoutFault s plan place → LayoutFault s plan other → place ≡ other
  fault_once place other (LayoutFault.wrong_field n k p l h) (LayoutFault.wrong_field m i q o g) =
      (first_wrong_once (record { fields = n; up_to = p; none = h }) (record { fields = m; up_to = q; none = g })).0
  fault_once place other (LayoutFault.wrong_field n k p l h) (LayoutFault.ends_early m i j q e x) =
      (first_wrong_once (record { fields = n; up_to = p; none = h }) (record { fields = m; up_to = q; none = at_end_lem other i e })).0
  fault_once place other (LayoutFault.ends_early n k j p e x) (LayoutFault.wrong_field m i q o g) =
      (first_wrong_once (record { fields = n; up_to = p; none = at_end_lem place k e }) (record { fields = m; up_to = q; none = g })).0
  fault_once place other (LayoutFault.ends_early n k j p e x) (LayoutFault.ends_early m i l q f y) = e ∙ sym f

  right_no_fault : (place : ℕ) → LaidOut s plan → LayoutFault s plan place → ⊥
  right_no_fault place r (LayoutFault.wrong_field n k p l h) = omega (arith, (first_wrong_once (record { fields = n; up_to = p; none = h }) (first_wrong_right r)).0)
  right_no_fault place r (LayoutFault.ends_early n k j p e x) =
      let w = first_wrong_once (record { fields = n; up_to = p; none = at_end_lem place k e }) (first_wrong_right r) in
      r.last j (subst (λ (i : ℕ). NextSection s i j) w.1 x)

  -- So the judge's number is 12 at the place of the fault, and 0 where there is none.
  pub layout_fault_is : (place : ℕ) → LayoutFault s plan place → layout_verdict s plan ≡ verdict layout_wrong place
  unfolding verdict
  layout_fault_is place f = go (ℕ_discrete (layout_verdict s plan).number 0)
    where
      go : Dec ((layout_verdict s plan).number ≡ 0) → layout_verdict s plan ≡ verdict layout_wrong place
      go (yes z) = absurd (right_no_fault place (laid_out s plan (layout_right s plan z)) f)
      go (no n) = let w = layout_fault s plan n in ap₂ verdict w.0 (fault_once (layout_verdict s plan).place place w.1 f)

  pub laid_out_right : LaidOut s plan → LayoutRight s plan
  laid_out_right r = go (ℕ_discrete (layout_verdict s plan).number 0)
    where
      go : Dec ((layout_verdict s plan).number ≡ 0) → LayoutRight s plan
      go (yes z) = layout_right s plan z
      go (no n) = absurd (right_no_fault (layout_verdict s plan).place r (layout_fault s plan n).1)

  -- The places of 13 and 14: in a plan that is laid out right, a section's head and members, as the judge counts them, are those that are due (SectionAt).
  pub section_due : LaidOut s plan → (k : ℕ) → 1 ≤ k → k ≤ 3 → present s k ≡ true → SectionAt s plan k (part_at s plan k).head (part_at s plan k).members
  section_due r = part_due s plan (laid_out_right r)
