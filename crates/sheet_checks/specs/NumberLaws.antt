-- The way through the rows of a field, as the code answers their tests: a row that fails gives its number, one that passes leaves it to the rows behind it.
-- No law speaks of the rows before its own; those of numbers that a callee gives are crate sheet's (GivenNumbers.antt).
use Prim.{tt}
use Rattle.std.specs.Prelude.{ℕ, ◌+◌, ◌≡◌, Bool, true, false, not, List, ◌∷◌, T, leb, ltb}
use Rattle.std.proofs.Common.{sym, ap, ◌∙◌, ne_eqb}
use Rattle.std.proofs.lemmas.Bool.{not-true, not-false}
use Rattle.base.specs.Branch.{check}
use Rattle.field.specs.Bytes.{number_at, NumberRead}
use Rattle.sheet.specs.Refusals.{length_wrong, too_many, order_not_proper}
use Rattle.sheet.specs.Tags.{flight_window_block_tag}
use Rattle.sheet.specs.Sections.{strips_of_desk}
use Rattle.sheet.specs.Among.{Among, is_among, true_among}
use Rattle.sheet.specs.FieldTable.{field_table, lengths_due}
use Rattle.sheet.specs.Checks.{window_ordered, has_room, order_proper}
use Rattle.sheet.specs.Rows.{first_failure}
use Rattle.sheet.proofs.RowLaws.{test_fails, test_passes}
use Rattle.sheet.proofs.GivenNumbers.{made_number, given_number, given_nothing}
use Rattle.sheet_lengths.specs.Lengths.{lengths_given, GivesLength}
use Rattle.sheet_lengths.specs.declared.LengthDue.{LengthDue}

-- the length, by the one that is due
module _ (len tag stations desks : ℕ) (due : LengthDue) (x : Bool) (d : GivesLength tag stations due) (e : x ≡ is_among len (lengths_given due)) where
  tested : (b : Bool) → x ≡ b → is_among len (lengths_due tag (field_table stations desks)) ≡ b
  tested b h = ap (is_among len) (sym (d desks)) ∙ sym e ∙ h

  pub length_among : not x ≡ false → Among len (lengths_due tag (field_table stations desks))
  length_among h = true_among len _ (tested true (not-false x h))

  pub length_fails : (checks : List ℕ) → not x ≡ true
      → length_wrong ≡ first_failure (check (is_among len (lengths_due tag (field_table stations desks))) length_wrong 0 ∷ checks)
  length_fails checks h = test_fails checks _ length_wrong tt (tested false (not-true x h))

  pub length_passes : (checks : List ℕ) (r : ℕ) → not x ≡ false → r ≡ first_failure checks
      → r ≡ first_failure (check (is_among len (lengths_due tag (field_table stations desks))) length_wrong 0 ∷ checks)
  length_passes checks r h p = test_passes checks _ length_wrong r (tested true (not-false x h)) p

-- the window of a block, by the two numbers that were read
module _ (s : List ℕ) (c tag : ℕ) where
  pub window_read : (shortest longest : ℕ) → tag ≡ flight_window_block_tag → NumberRead s (c + 2) 2 shortest → NumberRead s (c + 4) 2 longest
      → leb shortest longest ≡ window_ordered tag (number_at s (c + 2) 2) (number_at s (c + 4) 2)
  unfolding window_ordered
  window_read shortest longest e n₁ n₂ = rw (e, n₁.is, n₂.is)

  pub no_window : (tag ≡ flight_window_block_tag → ⊥) → true ≡ window_ordered tag (number_at s (c + 2) 2) (number_at s (c + 4) 2)
  unfolding window_ordered
  no_window n = rw (ne_eqb tag flight_window_block_tag n)

module _ (checks : List ℕ) where
  -- a test that a callee answers
  module _ (x b : Bool) (e : x ≡ b) where
    pub answer_fails : (number : ℕ) → T (ltb 0 number) → not x ≡ true → number ≡ first_failure (check b number 0 ∷ checks)
    answer_fails number t h = test_fails checks b number t (sym e ∙ not-true x h)

    pub answer_passes : (number r : ℕ) → not x ≡ false → r ≡ first_failure checks → r ≡ first_failure (check b number 0 ∷ checks)
    answer_passes number r h p = test_passes checks b number r (sym e ∙ not-false x h) p

  -- the room for one member more, by the desk that was read
  module _ (s : List ℕ) (c tag members : ℕ) (counts : List ℕ) (desk n : ℕ) (y : Bool)
      (d : NumberRead s c 1 desk) (en : n ≡ strips_of_desk counts desk) (ey : y ≡ has_room tag members n) where
    room : (b : Bool) → y ≡ b → has_room tag members (strips_of_desk counts (number_at s c 1)) ≡ b
    room b h = rw (← d.is, ← en) (sym ey ∙ h)

    pub room_fails : not y ≡ true → too_many ≡ first_failure (check (has_room tag members (strips_of_desk counts (number_at s c 1))) too_many 0 ∷ checks)
    room_fails h = test_fails checks _ too_many tt (room false (not-true y h))

    pub room_passes : (r : ℕ) → not y ≡ false → r ≡ first_failure checks
        → r ≡ first_failure (check (has_room tag members (strips_of_desk counts (number_at s c 1))) too_many 0 ∷ checks)
    room_passes r h p = test_passes checks _ too_many r (room true (not-false y h)) p

  -- the order number that was read
  module _ (s : List ℕ) (c tag members order : ℕ) (z : Bool) (n : NumberRead s c 8 order) (ez : z ≡ order_proper tag members order) where
    proper : (b : Bool) → z ≡ b → order_proper tag members (number_at s c 8) ≡ b
    proper b h = rw (← n.is) (sym ez ∙ h)

    pub order_fails : not z ≡ true → order_not_proper ≡ first_failure (check (order_proper tag members (number_at s c 8)) order_not_proper 0 ∷ checks)
    order_fails h = test_fails checks _ order_not_proper tt (proper false (not-true z h))

    pub order_passes : (r : ℕ) → not z ≡ false → r ≡ first_failure checks
        → r ≡ first_failure (check (order_proper tag members (number_at s c 8)) order_not_proper 0 ∷ checks)
    order_passes r h p = test_passes checks _ order_not_proper r (proper true (not-false z h)) p

pub ruleset rows =
    (made_number, answer_fails, answer_passes, length_fails, length_passes, given_number, given_nothing, room_fails, room_passes, order_fails, order_passes)
