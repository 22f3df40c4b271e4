-- What a plan's bytes say: members and heads that fit their widths are read back from what was written, and what is read is what stands there.
-- The three kinds of members are given once each, by their values in order; all else follows from their forms (crate plan_format, and Members).
use Rattle.std.specs.Prelude.{◌≡◌, ℕ, length, take, drop}
use Rattle.std.proofs.Math.Path.{ap}
use Rattle.std.proofs.Common.{◌∙◌}
use mathlib.Core.List.{List, [], ◌∷◌, ◌++◌, append_assoc}
use Rattle.std.proofs.Math.ListN.{get_or}
use Rattle.field.specs.Field.{field_at}
use Rattle.field.specs.declared.Field.TheVariants.{Whole}
use Rattle.plan_format.specs.ByteLaws.{AreBytes}
use Rattle.plan_format.specs.Format.{Form, content_length, size_of, form_bytes, values_from, EachFits, mosaic_head_form, sorting_head_form}
use Rattle.plan_format.specs.Format.{flight_head_form}
use Rattle.plan_format.proofs.FormLaws.{form_back, form_stands}
use Rattle.plan_read.specs.PlanRead.{figure_from, order_from}

-- The heads: a figure, and in flight an order number behind it.
module _ (pre post : List ℕ) where
  joined : (head : Form) (values : List ℕ) → pre ++ form_bytes head values ++ post ≡ pre ++ (form_bytes head values ++ post)
  joined head values = append_assoc pre (form_bytes head values) post

  pub figure_back : (head : Form) (figure : ℕ) (others : List ℕ) → EachFits head.widths (figure ∷ others)
      → figure_from head (pre ++ form_bytes head (figure ∷ others) ++ post) (length pre) ≡ figure
  unfolding figure_from
  figure_back head figure others h =
      ap (λ (l : List ℕ). get_or (values_from head l (length pre)) 0 0) (joined head (figure ∷ others))
      ∙ ap (λ (l : List ℕ). get_or l 0 0) (form_back head (figure ∷ others) pre post h)

  pub order_back : (figure order : ℕ) → EachFits flight_head_form.widths (figure ∷ order ∷ [])
      → order_from (pre ++ form_bytes flight_head_form (figure ∷ order ∷ []) ++ post) (length pre) ≡ order
  unfolding order_from
  order_back figure order h =
      ap (λ (l : List ℕ). get_or (values_from flight_head_form l (length pre)) 1 0) (joined flight_head_form (figure ∷ order ∷ []))
      ∙ ap (λ (l : List ℕ). get_or l 1 0) (form_back flight_head_form (figure ∷ order ∷ []) pre post h)

-- a head that is found is what is read from it
module _ (plan : List ℕ) (b : AreBytes plan) (at : ℕ) where
  pub mosaic_head_stands : field_at plan at ≡ Whole mosaic_head_form.tag (content_length mosaic_head_form)
      → take (size_of mosaic_head_form) (drop at plan) ≡ form_bytes mosaic_head_form (figure_from mosaic_head_form plan at ∷ [])
  unfolding figure_from
  mosaic_head_stands e = form_stands plan b mosaic_head_form at e

  pub sorting_head_stands : field_at plan at ≡ Whole sorting_head_form.tag (content_length sorting_head_form)
      → take (size_of sorting_head_form) (drop at plan) ≡ form_bytes sorting_head_form (figure_from sorting_head_form plan at ∷ [])
  unfolding figure_from
  sorting_head_stands e = form_stands plan b sorting_head_form at e

  pub flight_head_stands : field_at plan at ≡ Whole flight_head_form.tag (content_length flight_head_form)
      → take (size_of flight_head_form) (drop at plan) ≡ form_bytes flight_head_form (figure_from flight_head_form plan at ∷ order_from plan at ∷ [])
  unfolding figure_from order_from
  flight_head_stands e = form_stands plan b flight_head_form at e
