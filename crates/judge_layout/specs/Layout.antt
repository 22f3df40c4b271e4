-- The layout of a plan: 12, "plan's tags, lengths or sections wrong".
-- "Sections are the sheet's, in its order": each has its head, then as many members as follow; behind the last section the plan ends.
use Rattle.std.specs.Prelude.{ℕ, zero, suc, ◌+◌, ◌*◌, Bool, true, false, cond, List, length, ltb, eqb, Result}
use Rattle.field.specs.Field.{field_at}
use Rattle.field.specs.declared.Field.{Field}
use Rattle.field.specs.declared.Field.TheVariants.{End, Cut, Whole}
use Rattle.plan_format.specs.Format.{Form, content_length, mosaic_head_form, batch_form, sorting_head_form, job_form, flight_head_form, passes_form}
use Rattle.sheet.specs.Given.{found_number, found_place}
use Rattle.sheet.specs.Refusals.{layout_wrong}
use Rattle.sheet.specs.Sound.{strips_in_all}
use Rattle.sheet.specs.declared.Sheet.{Sheet}
use Rattle.sheet.specs.declared.refusals.Refused.{Refused}
use Rattle.judge_layout.specs.declared.Part.{Part}

-- a field of a tag and a content length
unfoldable pub is_field : Field → ℕ → ℕ → Bool
is_field End tag len = false
is_field Cut tag len = false
is_field (Whole t l) tag len = cond (eqb t tag) (eqb l len) false

-- how many such fields follow from an offset on; each takes three bytes or more, so as many turns as bytes are enough
unfoldable pub run : ℕ → List ℕ → ℕ → ℕ → ℕ → ℕ
run zero plan at tag len = 0
run (suc turns) plan at tag len =
    elim (is_field (field_at plan at) tag len) [ true ↦ suc (run turns plan (at + (3 + len)) tag len) | false ↦ 0 ]

unfoldable pub part_from : List ℕ → ℕ → ℕ → ℕ → ℕ → Part
part_from plan at head_len tag len =
    record {
      right = true;
      head = at;
      members = run (length plan) plan (at + (3 + head_len)) tag len;
      end = at + (3 + head_len) + run (length plan) plan (at + (3 + head_len)) tag len * (3 + len);
    }

-- a section of a plan at an offset, with the tags and content lengths of its head and its members
unfoldable pub part_of : Bool → List ℕ → ℕ → ℕ → ℕ → ℕ → ℕ → Part
part_of present plan at head_tag head_len tag len =
    cond present
    (cond (is_field (field_at plan at) head_tag head_len) (part_from plan at head_len tag len)
    (record { right = false; head = at; members = 0; end = at }))
    (record { right = true; head = at; members = 0; end = at })

-- the same by their forms
abbrev pub part_by_forms : Bool → List ℕ → ℕ → Form → Form → Part
part_by_forms present plan at head member = part_of present plan at head.tag (content_length head) member.tag (content_length member)

unfoldable pub mosaic_part : Sheet → List ℕ → Part
mosaic_part s plan = part_by_forms (ltb 0 s.mosaic.strips) plan 0 mosaic_head_form batch_form

unfoldable pub sorting_part : Sheet → List ℕ → Part
sorting_part s plan = part_by_forms (ltb 0 (strips_in_all s.sorting)) plan (mosaic_part s plan).end sorting_head_form job_form

unfoldable pub flight_part : Sheet → List ℕ → Part
flight_part s plan = part_by_forms (ltb 0 s.flight.blocks) plan (sorting_part s plan).end flight_head_form passes_form

-- the number and place of a fault, 0 and 0 where there is none
pub record Verdict : Type 0 where
  pub number : ℕ
  pub place : ℕ

unfoldable pub verdict : ℕ → ℕ → Verdict
verdict number place = record { number = number; place = place }

-- the same of what a check gives
abbrev pub verdict_of : Result (Unit {0}) Refused → Verdict
verdict_of given = record { number = found_number given; place = found_place given }

-- 12: the head that is not the one due, or what stands behind the last section
unfoldable pub layout_verdict : Sheet → List ℕ → Verdict
layout_verdict s plan =
    cond (mosaic_part s plan).right
    (cond (sorting_part s plan).right
    (cond (flight_part s plan).right
    (cond (eqb (flight_part s plan).end (length plan)) (verdict 0 0) (verdict layout_wrong (flight_part s plan).end))
    (verdict layout_wrong (flight_part s plan).head))
    (verdict layout_wrong (sorting_part s plan).head))
    (verdict layout_wrong (mosaic_part s plan).head)
