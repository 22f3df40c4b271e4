-- The tests decide the causes: each check of a field, and of the end of the sheet, gives its row's number exactly where the row's cause lies (of 6, 15 and 16,
-- which one check gives, see Ranges.antt).
-- The idea: for each row the cause makes the test false, and where the test is false the cause lies.
use Prim.Native.Nat.{ℕ, ◌+◌, ◌-◌, ◌≤◌, ◌<◌}
use Rattle.std.specs.Prelude.{◌≡◌, Bool, cond, not, ◌||◌, ◌⊎◌, length, get_or, ltb, eqb}
use Rattle.std.proofs.Math.Path.{refl}
use Rattle.std.proofs.Common.{sym, ◌∙◌, inl, inr, arith}
use Rattle.std.proofs.Math.Bool.{true, false, true≢false}
use mathlib.Core.List.{List, [], ◌∷◌}
use Rattle.std.proofs.Math.Logic.{⊎_elim}
use Rattle.std.proofs.Math.Dec.{leb}
use borrow.Author.Tests.{eqb-true, eqb-false, eq-eqb, ne_eqb, leb-true, leb-false, le-leb, lt-leb, ltb-true, ltb-false, lt-ltb, le-ltb, not-false}
use Rattle.base.specs.Branch.{check, both, neither}
use Rattle.field.specs.Bytes.{number_at}
use Rattle.field.specs.Field.{field_at}
use Rattle.field.specs.Fields.{whole_at}
use Rattle.field.specs.declared.Field.TheVariants.{End, Cut, Whole}
use Rattle.order.specs.Decided.{true_proper, false_proper}
use Rattle.sheet.specs.Limits.{most_blocks_without_order}
use Rattle.sheet.specs.Tags.{mosaic_head_tag, mosaic_strip_tag, sorting_head_tag, sorting_strip_tag, flight_head_tag, flight_block_tag, flight_order_tag}
use Rattle.sheet.specs.Tags.{flight_window_block_tag}
use Rattle.sheet.specs.Refusals.{field_cut, tag_not_permitted, length_wrong, too_many, no_members, order_not_proper, order_missing, longest_below_shortest}
use Rattle.sheet.specs.Sections.{no_section, in_flight, strips_of_desk}
use Rattle.sheet.specs.FieldTable.{table_of, lengths_due, field_values}
use Rattle.sheet.specs.Rows.{first_failure}
use Rattle.sheet.specs.RowLaws.{Gives, Answers}
use Rattle.sheet.proofs.RowLaws.{gives_check, answers_none, answers_behind, answers_row, answers_rows}
use Rattle.sheet.specs.Among.{Among, is_among, true_among, false_not_among}
use Rattle.sheet.specs.Causes.{FieldCut, EndsSection, NoMembers, ManyBlocks, OrderMissing, Permitted, LongestBelowShortest, TooMany, OrderNotProper, cut_row}
use Rattle.sheet.specs.Causes.{field_rows, end_rows}
use Rattle.sheet.specs.Checks.{ends_section, section_filled, few_blocks, order_given, order_permitted, permitted, window_ordered, has_room, order_proper}
use Rattle.sheet.proofs.Ranges.{range_answers}
use Rattle.sheet.specs.Read.{content_checks, field_checks, field_number, end_checks, end_number, place_of}
use Rattle.sheet.specs.declared.Reading.{Reading}

-- a test that is false exactly where the cause lies
decided : (b : Bool) (number : ℕ) (cause : Type 0) → (b ≡ false → cause) → (cause → b ≡ false) → Gives (check b number 0) number cause
decided b number cause f g = gives_check b number cause f (λ e c. true≢false (sym e ∙ g c))

either : (a b : Bool) → (a || b) ≡ true → (a ≡ true) ⊎ (b ≡ true)
either true b e = inl refl
either false b e = inr e

-- a chain of tests of a tag, by what it gives
split : (tag k : ℕ) (x y t : Bool) → cond (eqb tag k) x y ≡ t → ((tag ≡ k) × (x ≡ t)) ⊎ (y ≡ t)
split tag k x y t e = go (eqb tag k) refl e
  where
    go : (b : Bool) → eqb tag k ≡ b → cond b x y ≡ t → ((tag ≡ k) × (x ≡ t)) ⊎ (y ≡ t)
    go true p q = inl (eqb-true tag k p, q)
    go false p q = inr q

-- the tags that end a section
ends_true : (tag : ℕ) → ends_section tag ≡ true → EndsSection tag
unfolding ends_section
ends_true tag e =
    ⊎_elim (λ h. EndsSection.mosaic_head_lem (eqb-true _ _ h))
    (λ h. ⊎_elim (λ p. EndsSection.sorting_head_lem (eqb-true _ _ p)) (λ p. EndsSection.flight_head_lem (eqb-true _ _ p))
    (either (eqb tag sorting_head_tag) (eqb tag flight_head_tag) h))
    (either (eqb tag mosaic_head_tag) (eqb tag sorting_head_tag || eqb tag flight_head_tag) e)

true_ends : (tag : ℕ) → EndsSection tag → ends_section tag ≡ true
unfolding ends_section
true_ends tag (EndsSection.mosaic_head_lem e) = rw e
true_ends tag (EndsSection.sorting_head_lem e) = rw e
true_ends tag (EndsSection.flight_head_lem e) = rw e

-- over 8 blocks and no order
many_false : (section members : ℕ) → ManyBlocks section members → few_blocks section members ≡ false
unfolding few_blocks
many_false section members c = rw (eq-eqb section in_flight c.flight, lt-leb members most_blocks_without_order c.many)

false_many : (section members : ℕ) → few_blocks section members ≡ false → ManyBlocks section members
unfolding few_blocks
false_many section members e =
    let p = neither (not (eqb section in_flight)) (leb members most_blocks_without_order) e in
    record { flight = eqb-true _ _ (not-false _ p.0); many = leb-false _ _ p.1 }

module _ (tag section members : ℕ) where
  -- 8
  empty_false : NoMembers tag section members → section_filled tag section members ≡ false
  unfolding section_filled
  empty_false c = rw (true_ends tag c.ends, ne_eqb section no_section c.some_section, lt-leb 1 members c.none)

  false_empty : section_filled tag section members ≡ false → NoMembers tag section members
  unfolding section_filled
  false_empty e =
      let p = neither (not (ends_section tag)) (eqb section no_section || leb 1 members) e in
      let q = neither (eqb section no_section) (leb 1 members) p.1 in
      record { ends = ends_true tag (not-false _ p.0); some_section = eqb-false _ _ q.0; none = leb-false _ _ q.1 }

  pub members_given : Gives (check (section_filled tag section members) no_members 0) no_members (NoMembers tag section members)
  members_given = decided _ _ _ false_empty empty_false

  -- 10
  false_missing : order_given tag section members ≡ false → OrderMissing tag section members
  unfolding order_given
  false_missing e =
      let p = neither (not (ends_section tag)) (few_blocks section members) e in
      record { ends = ends_true tag (not-false _ p.0); blocks = false_many section members p.1 }

  missing_false : OrderMissing tag section members → order_given tag section members ≡ false
  unfolding order_given
  missing_false c = rw (true_ends tag c.ends, many_false section members c.blocks)

  pub order_given_lem : Gives (check (order_given tag section members) order_missing 0) order_missing (OrderMissing tag section members)
  order_given_lem = decided _ _ _ false_missing missing_false

  -- 4
  pub true_permitted : permitted tag section members ≡ true → Permitted tag section members
  unfolding permitted order_permitted
  true_permitted e =
      ⊎_elim (λ h. Permitted.mosaic_head_lem h.0 (eqb-true _ _ h.1))
      (λ e. ⊎_elim (λ h. Permitted.mosaic_strip_lem h.0 (eqb-true _ _ h.1))
      (λ e. ⊎_elim (λ h. Permitted.sorting_head_lem h.0 (ltb-true _ _ h.1))
      (λ e. ⊎_elim (λ h. Permitted.sorting_strip_holds h.0 (eqb-true _ _ h.1))
      (λ e. ⊎_elim (λ h. Permitted.flight_head_lem h.0 (ltb-true _ _ h.1))
      (λ e. ⊎_elim (λ h. Permitted.flight_block_holds h.0 (eqb-true _ _ h.1))
      (λ e. ⊎_elim (λ h. Permitted.flight_window_block_holds h.0 (eqb-true _ _ h.1))
      (λ e. ⊎_elim (λ h. order_next h.0 (both _ _ h.1)) (λ n. absurd (true≢false (sym n)))
      (split tag flight_order_tag _ _ true e))
      (split tag flight_window_block_tag _ _ true e))
      (split tag flight_block_tag _ _ true e))
      (split tag flight_head_tag _ _ true e))
      (split tag sorting_strip_tag _ _ true e))
      (split tag sorting_head_tag _ _ true e))
      (split tag mosaic_strip_tag _ _ true e))
      (split tag mosaic_head_tag _ _ true e)
    where
      order_next : tag ≡ flight_order_tag → (eqb section in_flight ≡ true) × (leb 1 members ≡ true) → Permitted tag section members
      order_next t p = Permitted.flight_order_holds t (eqb-true _ _ p.0) (leb-true _ _ p.1)

  pub permitted_true : Permitted tag section members → permitted tag section members ≡ true
  unfolding permitted order_permitted
  permitted_true (Permitted.mosaic_head_lem t h) = rw t (eq-eqb _ _ h)
  permitted_true (Permitted.mosaic_strip_lem t h) = rw t (eq-eqb _ _ h)
  permitted_true (Permitted.sorting_head_lem t h) = rw t (lt-ltb _ _ h)
  permitted_true (Permitted.sorting_strip_holds t h) = rw t (eq-eqb _ _ h)
  permitted_true (Permitted.flight_head_lem t h) = rw t (lt-ltb _ _ h)
  permitted_true (Permitted.flight_block_holds t h) = rw t (eq-eqb _ _ h)
  permitted_true (Permitted.flight_window_block_holds t h) = rw t (eq-eqb _ _ h)
  permitted_true (Permitted.flight_order_holds t h k) = rw (t, eq-eqb section in_flight h) (le-leb _ _ k)

  pub false_permitted : permitted tag section members ≡ false → Permitted tag section members → ⊥
  false_permitted e p = true≢false (sym (permitted_true p) ∙ e)

  pub permitted_given : Gives (check (permitted tag section members) tag_not_permitted 0) tag_not_permitted (Permitted tag section members → ⊥)
  permitted_given = gives_check _ _ _ false_permitted (λ e n. n (true_permitted e))

-- 5
pub length_given : (len : ℕ) (due : List ℕ) → Gives (check (is_among len due) length_wrong 0) length_wrong (Among len due → ⊥)
length_given len due = gives_check _ _ _ (false_not_among len due) (λ e n. n (true_among len due e))

-- 17
module _ (tag shortest longest : ℕ) where
  below_false : LongestBelowShortest tag shortest longest → window_ordered tag shortest longest ≡ false
  unfolding window_ordered
  below_false c = rw c.is_window (lt-leb _ _ c.below)

  false_below : window_ordered tag shortest longest ≡ false → LongestBelowShortest tag shortest longest
  unfolding window_ordered
  false_below e =
      ⊎_elim (λ h. record { is_window = h.0; below = leb-false _ _ h.1 }) (λ n. absurd (true≢false n)) (split tag flight_window_block_tag _ _ false e)

  pub window_given : Gives (check (window_ordered tag shortest longest) longest_below_shortest 0) longest_below_shortest
      (LongestBelowShortest tag shortest longest)
  window_given = decided _ _ _ false_below below_false

-- 7
module _ (tag members of_desk : ℕ) where
  false_many_members : has_room tag members of_desk ≡ false → TooMany tag members of_desk
  unfolding has_room
  false_many_members e =
      ⊎_elim (λ h. TooMany.strip h.0 (ltb-false _ _ h.1))
      (λ e. ⊎_elim (λ h. TooMany.strip_of_desk_lem h.0 (ltb-false _ _ h.1))
      (λ e. ⊎_elim (λ h. TooMany.block h.0 (ltb-false _ _ h.1))
      (λ e. ⊎_elim (λ h. TooMany.window_block_holds h.0 (ltb-false _ _ h.1)) (λ n. absurd (true≢false n))
      (split tag flight_window_block_tag _ _ false e))
      (split tag flight_block_tag _ _ false e))
      (split tag sorting_strip_tag _ _ false e))
      (split tag mosaic_strip_tag _ _ false e)

  many_members_false : TooMany tag members of_desk → has_room tag members of_desk ≡ false
  unfolding has_room
  many_members_false (TooMany.strip t h) = rw t (le-ltb _ _ h)
  many_members_false (TooMany.strip_of_desk_lem t h) = rw t (le-ltb _ _ h)
  many_members_false (TooMany.block t h) = rw t (le-ltb _ _ h)
  many_members_false (TooMany.window_block_holds t h) = rw t (le-ltb _ _ h)

  pub room_given : Gives (check (has_room tag members of_desk) too_many 0) too_many (TooMany tag members of_desk)
  room_given = decided _ _ _ false_many_members many_members_false

-- 9
module _ (tag blocks order : ℕ) where
  false_improper : order_proper tag blocks order ≡ false → OrderNotProper tag blocks order
  unfolding order_proper
  false_improper e =
      ⊎_elim (λ h. record { is_order = h.0; improper = λ p. true≢false (sym (true_proper blocks order p) ∙ h.1) }) (λ n. absurd (true≢false n))
      (split tag flight_order_tag _ _ false e)

  improper_false : OrderNotProper tag blocks order → order_proper tag blocks order ≡ false
  unfolding order_proper
  improper_false c = rw c.is_order (false_proper blocks order c.improper)

  pub proper_given : Gives (check (order_proper tag blocks order) order_not_proper 0) order_not_proper (OrderNotProper tag blocks order)
  proper_given = decided _ _ _ false_improper improper_false

-- a field that is cut
cut_at : (s : List ℕ) (at : ℕ) → field_at s at ≡ Cut → FieldCut s at
unfolding field_at
cut_at s at e = go (leb (length s) at) refl (ltb (length s - at) 3) refl (leb (number_at s (at + 1) 2) (length s - at - 3)) refl e
  where
    go : (a : Bool) → leb (length s) at ≡ a → (b : Bool) → ltb (length s - at) 3 ≡ b → (d : Bool) → leb (number_at s (at + 1) 2) (length s - at - 3) ≡ d
        → cond a End (cond b Cut (cond d (Whole (get_or s at 0) (number_at s (at + 1) 2)) Cut)) ≡ Cut → FieldCut s at
    go true p b q d r e = let z : ◌≡◌ {A = ℕ} 0 1 = cc in absurd (omega arith)
    go false p true q d r e = FieldCut.under_three (short (ltb-true _ _ q))
      where
        short : length s - at < 3 → length s < at + 3
        short h = omega arith
    go false p false q true r e = let z : ◌≡◌ {A = ℕ} 0 1 = cc in absurd (omega arith)
    go false p false q false r e = FieldCut.past_end (past (ltb-false _ _ q) (leb-false _ _ r))
      where
        past : 3 ≤ length s - at → length s - at - 3 < number_at s (at + 1) 2 → length s < at + 3 + number_at s (at + 1) 2
        past h k = omega arith

pub whole_at_not_cut : (s : List ℕ) (at tag len : ℕ) → field_at s at ≡ Whole tag len → FieldCut s at → ⊥
whole_at_not_cut s at tag len e (FieldCut.under_three h) = let w = whole_at s at tag len e in omega (arith, w.within)
whole_at_not_cut s at tag len e (FieldCut.past_end h) = let w = whole_at s at tag len e in omega (arith, w.within, w.length_is)

-- the check for 3, by what stands there, and behind it the checks of a whole field, in their order
module _ (s : List ℕ) (st : Reading) where
  place : ℕ → ℕ
  place n = place_of n st.head st.at

  pub cut_answers : field_at s st.at ≡ Cut → Answers (cut_row s st ∷ []) (λ _. st.at) field_cut
  unfolding first_failure
  cut_answers e = answers_row (λ _. st.at) _ _ _ _ field_cut [] (omega arith) refl (Gives.fails refl (cut_at s st.at e)) (λ _. answers_none _)

  pub field_answers : (tag len : ℕ) → field_at s st.at ≡ Whole tag len
      → Answers (field_rows s st tag len) (λ n. place_of n st.head st.at) (field_number s st tag len)
  unfolding field_rows field_number field_checks content_checks check place_of place
  field_answers tag len e =
      let c : ℕ = st.at + 3 in
      answers_behind place _ _ _ _ _ (whole_at_not_cut s st.at tag len e)
      (answers_row place _ _ _ _ _ _ (omega arith) refl (members_given tag st.section st.members)
      (λ _. answers_row place _ _ _ _ _ _ (omega arith) refl (order_given_lem tag st.section st.members)
      (λ _. answers_row place _ _ _ _ _ _ (omega arith) refl (permitted_given tag st.section st.members)
      (λ _. answers_row place _ _ _ _ _ _ (omega arith) refl (length_given len (lengths_due tag (table_of st)))
      (λ _. answers_rows _ _ place _ _ (range_answers place st.at refl refl refl (field_values s c tag len (table_of st)))
      (λ _. answers_row place _ _ _ _ _ _ (omega arith) refl (window_given tag (number_at s (c + 2) 2) (number_at s (c + 4) 2))
      (λ _. answers_row place _ _ _ _ _ _ (omega arith) refl (room_given tag st.members (strips_of_desk st.sorting.counts (number_at s c 1)))
      (λ _. answers_row place _ _ _ _ _ _ (omega arith) refl (proper_given tag st.members (number_at s c 8))
      (λ _. answers_none _)))))))))

-- the checks of the end of the sheet
members_at_end : (members : ℕ) → Gives (check (leb 1 members) no_members 0) no_members (members < 1)
members_at_end members = decided _ _ _ (leb-false 1 members) (lt-leb 1 members)

order_at_end : (section members : ℕ) → Gives (check (few_blocks section members) order_missing 0) order_missing (ManyBlocks section members)
order_at_end section members = decided _ _ _ (false_many section members) (many_false section members)

pub end_answers : (st : Reading) → Answers (end_rows st) (λ _. st.head) (end_number st.section st.members)
unfolding end_rows end_number end_checks
end_answers st =
    answers_row (λ _. st.head) _ _ _ _ _ _ (omega arith) refl (members_at_end st.members)
    (λ _. answers_row (λ _. st.head) _ _ _ _ _ _ (omega arith) refl (order_at_end st.section st.members)
    (λ _. answers_none _))
