-- A head of a mosaic or of a sorting is due with eight bytes alone (02, Req 09): with any other length it is no field that is due, wherever it stands.
use Rattle.std.specs.Prelude.{ℕ, ◌≡◌, refl, Bool, true, false, cond, List, eqb}
use Rattle.std.proofs.Common.{sym, ◌∙◌, arith}
use Rattle.field.specs.Field.{field_at}
use Rattle.field.specs.Fields.{whole_at}
use Rattle.field.specs.declared.Field.TheVariants.{Whole}
use Rattle.plan_format.specs.Format.{Form, content_length, mosaic_head_form, sorting_head_form, flight_head_form, batch_form, job_form, passes_form}
use Rattle.sheet.specs.declared.Sheet.{Sheet}
use Rattle.judge_members.specs.Members.{head_form, member_form}
use Rattle.judge_laws.specs.Due.{head_tag, head_length, member_tag, Due, NoneDue}
use Rattle.judge_laws.specs.HeadLength.{EightByteHead, of_mosaic_holds, of_sorting_holds}

-- a section whose head has that tag has a head of eight bytes, and no section's members have it
head_of_eight : (tag j : ℕ) → EightByteHead tag → tag ≡ head_tag j → head_length j ≡ 8
unfolding head_form
head_of_eight tag j w e = by_section (eqb j 1) (eqb j 2) w e
  where
    form : Bool → Bool → Form
    form a b = cond a mosaic_head_form (cond b sorting_head_form flight_head_form)

    by_section : (a b : Bool) → EightByteHead tag → tag ≡ (form a b).tag → content_length (form a b) ≡ 8
    by_section true b w e = refl
    by_section false true w e = refl
    by_section false false (of_mosaic_holds h) e = absurd (omega arith)
    by_section false false (of_sorting_holds h) e = absurd (omega arith)

no_member : (tag k : ℕ) → EightByteHead tag → tag ≡ member_tag k → ⊥
unfolding member_form
no_member tag k w e = by_section (eqb k 1) (eqb k 2) w e
  where
    by_section : (a b : Bool) → EightByteHead tag → tag ≡ (cond a batch_form (cond b job_form passes_form)).tag → ⊥
    by_section true b (of_mosaic_holds h) e = omega arith
    by_section true b (of_sorting_holds h) e = omega arith
    by_section false true (of_mosaic_holds h) e = omega arith
    by_section false true (of_sorting_holds h) e = omega arith
    by_section false false (of_mosaic_holds h) e = omega arith
    by_section false false (of_sorting_holds h) e = omega arith

pub another_length_not_due : (s : Sheet) (plan : List ℕ) (at k tag len : ℕ) → field_at plan at ≡ Whole tag len → EightByteHead tag → (len ≡ 8 → ⊥) → NoneDue s plan at k
unfolding NoneDue
another_length_not_due s plan at k tag len e w other tag' len' j e' due = go due
  where
    same_tag : tag ≡ tag'
    same_tag = (whole_at plan at tag len e).tag_is ∙ sym (whole_at plan at tag' len' e').tag_is

    same_length : len ≡ len'
    same_length = (whole_at plan at tag len e).length_is ∙ sym (whole_at plan at tag' len' e').length_is

    go : {j : ℕ} → Due s k tag' len' j → ⊥
    go (Due.head {j} next t l) = other (same_length ∙ l ∙ head_of_eight tag j w (same_tag ∙ t))
    go (Due.member some t l) = no_member tag k w (same_tag ∙ t)
