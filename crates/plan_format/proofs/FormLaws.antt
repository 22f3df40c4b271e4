-- What is written by a form is found and read back, and what is read by a form is what stands there: one law each for every form.
-- By induction over the widths; the bytes of one number by ByteLaws.
use Prim.Native.Nat.{ℕ, suc, ◌+◌, ◌^◌, ◌≤◌, ◌<◌}
use Rattle.std.specs.Prelude.{◌≡◌, length, take, drop}
use Rattle.std.proofs.Math.Path.{refl, ap}
use Rattle.std.proofs.Common.{sym, ap₂, ◌∙◌, arith, length-append}
use mathlib.Core.List.{List, [], ◌∷◌, ◌++◌, append_assoc}
use Rattle.field.specs.Bytes.{bytes_of, number_at}
use Rattle.field.specs.Field.{field_at, field_bytes}
use Rattle.field.specs.Fields.{whole_at}
use Rattle.field.specs.Numbers.{length_bytes}
use Rattle.field.specs.declared.Field.TheVariants.{Whole}
use Rattle.plan_format.specs.Format.{Form, widths_sum, content_length, size_of, numbers_bytes, form_bytes, numbers_from, values_from, EachFits}
use Rattle.plan_format.specs.ByteLaws.{AreBytes}
use Rattle.plan_format.proofs.ByteLaws.{number_back, number_then, length_field, field_written, field_stands}

-- as many numbers as widths
pub fit_length : {ws vs : List ℕ} → EachFits ws vs → length ws ≡ length vs
fit_length EachFits.none = refl
fit_length (EachFits.more h f) = ap suc (fit_length f)

pub length_numbers : (ws vs : List ℕ) → length ws ≡ length vs → length (numbers_bytes ws vs) ≡ widths_sum ws
unfolding numbers_bytes
length_numbers [] vs e = refl
length_numbers (w ∷ ws) [] e = absurd (omega arith)
length_numbers (w ∷ ws) (v ∷ vs) e =
    length-append (bytes_of w v) (numbers_bytes ws vs) ∙ ap₂ ◌+◌ (length_bytes w v) (length_numbers ws vs (omega arith))

pub length_form : (f : Form) (vs : List ℕ) → length f.widths ≡ length vs → length (form_bytes f vs) ≡ size_of f
unfolding form_bytes
length_form f vs e = length_field f.tag (numbers_bytes f.widths vs) ∙ ap (λ (n : ℕ). 3 + n) (length_numbers f.widths vs e)

-- numbers that fit are read back
numbers_back : {ws vs : List ℕ} → EachFits ws vs → (pre post : List ℕ) (at skip : ℕ) → at + skip ≡ length pre
    → numbers_from ws (pre ++ (numbers_bytes ws vs ++ post)) at skip ≡ vs
unfolding numbers_bytes
numbers_back EachFits.none pre post at skip e = refl
numbers_back (EachFits.more {w} {v} {ws} {vs} h f) pre post at skip e =
    ap₂ ◌∷◌
    (ap₂ (λ (l : List ℕ) (k : ℕ). number_at l k w) (ap (λ (l : List ℕ). pre ++ l) apart) e ∙ number_back pre w v (numbers_bytes ws vs ++ post) h)
    (ap (λ (l : List ℕ). numbers_from ws l at (skip + w)) (ap (λ (l : List ℕ). pre ++ l) apart ∙ sym (append_assoc pre (bytes_of w v) (numbers_bytes ws vs ++ post)))
    ∙ numbers_back f (pre ++ bytes_of w v) post at (skip + w) (omega (arith, length-append pre (bytes_of w v), length_bytes w v)))
  where
    apart : bytes_of w v ++ numbers_bytes ws vs ++ post ≡ bytes_of w v ++ (numbers_bytes ws vs ++ post)
    apart = append_assoc (bytes_of w v) (numbers_bytes ws vs) post

module _ (f : Form) (vs pre post : List ℕ) where
  pub form_back : EachFits f.widths vs → values_from f (pre ++ (form_bytes f vs ++ post)) (length pre) ≡ vs
  unfolding form_bytes field_bytes bytes_of
  form_back h =
      ap (λ (l : List ℕ). values_from f l (length pre)) (sym (append_assoc pre front (numbers_bytes f.widths vs ++ post)))
      ∙ numbers_back h (pre ++ front) post (length pre) 3 (sym (length-append pre front))
    where
      front : List ℕ
      front = f.tag ∷ bytes_of 2 (length (numbers_bytes f.widths vs))

  -- .. and its field is found
  pub form_found : length f.widths ≡ length vs → content_length f < 2 ^ 16
      → field_at (pre ++ (form_bytes f vs ++ post)) (length pre) ≡ Whole f.tag (content_length f)
  unfolding form_bytes
  form_found e small =
      field_written pre f.tag (numbers_bytes f.widths vs) post (omega (arith, length_numbers f.widths vs e))
      ∙ ap (Whole f.tag) (length_numbers f.widths vs e)

-- what is read is what stands there
module _ (s : List ℕ) (b : AreBytes s) where
  numbers_stand : (ws : List ℕ) (at skip : ℕ) → at + skip + widths_sum ws ≤ length s
      → take (widths_sum ws) (drop (at + skip) s) ≡ numbers_bytes ws (numbers_from ws s at skip)
  unfolding numbers_bytes
  numbers_stand [] at skip h = refl
  numbers_stand (w ∷ ws) at skip h =
      number_then s b (at + skip) w (widths_sum ws) (at + (skip + w)) (omega arith) (omega arith)
      ∙ ap (λ (l : List ℕ). bytes_of w (number_at s (at + skip) w) ++ l) (numbers_stand ws at (skip + w) (omega arith))

  pub form_stands : (f : Form) (at : ℕ) → field_at s at ≡ Whole f.tag (content_length f) → take (size_of f) (drop at s) ≡ form_bytes f (values_from f s at)
  unfolding form_bytes
  form_stands f at e =
      field_stands s b at f.tag (content_length f) e
      ∙ ap (field_bytes f.tag) (numbers_stand f.widths at 3 (omega (arith, (whole_at s at f.tag (content_length f) e).within)))
