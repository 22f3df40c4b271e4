-- A field is stored by stores one behind the other: they are one store of the joined bytes.
-- One law for every form: with each further number that is stored, the field stands as far as that number (`stored_next`), and with the last whole (`stored_all`).
use Rattle.std.specs.Prelude.{ℕ, suc, ◌+◌, ◌≤◌, ◌<◌, ◌≡◌, set}
use Rattle.std.proofs.Math.Path.{refl, ap}
use Rattle.std.proofs.Common.{sym, ◌∙◌, arith, length-set, take-suc}
use mathlib.Core.List.{List, [], ◌∷◌, ◌++◌, append_assoc, append-nil}
use Rattle.std.proofs.Math.ListN.{length, take}
use Rattle.std.proofs.Math.Seq.{take_all}
use Rattle.field.specs.Bytes.{bytes_of}
use Rattle.field.specs.Field.{field_bytes}
use Rattle.field.specs.Put.{put, put_whole, holding, put_one, joined}
use Rattle.plan_format.specs.Format.{Form, content_length, size_of, width_of, offset_of, numbers_bytes, form_bytes, mosaic_head_form, batch_form, sorting_head_form}
use Rattle.plan_format.specs.Format.{job_form, flight_head_form, passes_form, refusal_form}
use Rattle.plan_format.proofs.FormLaws.{length_numbers, length_form}
use Rattle.rules.specs.Plan.{batch_bytes, job_bytes, passes_bytes, refusal_bytes}
use Rattle.rules.specs.declared.Batch.{Batch}
use Rattle.rules.specs.declared.Job.{Job}
use Rattle.rules.specs.declared.Passes.{Passes}
use Rattle.plan_fields.specs.Stored.{tag_bytes, part_bytes, strip_bytes}

-- the tag and the content length
tag_joined : (tag len : ℕ) → (tag ∷ []) ++ bytes_of 2 len ≡ tag_bytes tag len
unfolding tag_bytes
tag_joined tag len = refl

module _ (d : List ℕ) (at tag : ℕ) where
  pub tag_room : at + 3 ≤ length d → at + 1 + 2 ≤ length (set d at tag)
  tag_room h = omega (arith, length-set d at tag)

  pub tag_kept : (d₁ : List ℕ) → length d₁ ≡ length (set d at tag) → length d₁ ≡ length d
  tag_kept d₁ e = e ∙ length-set d at tag

  pub tag_stored : (d₁ : List ℕ) (len : ℕ) → d₁ ≡ put (set d at tag) (at + 1) (bytes_of 2 len) → d₁ ≡ put d at (tag_bytes tag len)
  tag_stored d₁ len e = joined d (set d at tag) d₁ at (at + 1) (tag ∷ []) (bytes_of 2 len) (put_one d at tag) e refl ∙ ap (put d at) (tag_joined tag len)

refusal_is : (number place : ℕ) → form_bytes refusal_form (number ∷ place ∷ []) ≡ refusal_bytes number place
unfolding refusal_bytes
refusal_is number place = refl

-- as many numbers as widths, and one more of each
numbers_last : (ws vs : List ℕ) (w v : ℕ) → length ws ≡ length vs → numbers_bytes ws vs ++ bytes_of w v ≡ numbers_bytes (ws ++ (w ∷ [])) (vs ++ (v ∷ []))
unfolding numbers_bytes
numbers_last [] [] w v e = sym (append-nil (bytes_of w v))
numbers_last [] (x ∷ vs) w v e = absurd (omega arith)
numbers_last (y ∷ ws) [] w v e = absurd (omega arith)
numbers_last (y ∷ ws) (x ∷ vs) w v e =
    append_assoc (bytes_of y x) (numbers_bytes ws vs) (bytes_of w v) ∙ ap (λ (l : List ℕ). bytes_of y x ++ l) (numbers_last ws vs w v (omega arith))

-- the field as far as its first numbers, and the next
module _ (f : Form) (n : ℕ) (vs : List ℕ) (known : length (take n f.widths) ≡ length vs) where
  part_length : length (part_bytes f n vs) ≡ offset_of f n
  unfolding part_bytes tag_bytes bytes_of
  part_length = omega (arith, length_numbers (take n f.widths) vs known)

  part_longer : (v : ℕ) → n < length f.widths → part_bytes f n vs ++ bytes_of (width_of f n) v ≡ part_bytes f (suc n) (vs ++ (v ∷ []))
  unfolding part_bytes
  part_longer v more =
      append_assoc (tag_bytes f.tag (content_length f)) (numbers_bytes (take n f.widths) vs) (bytes_of (width_of f n) v)
      ∙ ap (λ (l : List ℕ). tag_bytes f.tag (content_length f) ++ l)
      (numbers_last (take n f.widths) vs (width_of f n) v known ∙ ap (λ (ws : List ℕ). numbers_bytes ws (vs ++ (v ∷ []))) (sym (take-suc f.widths n 0 more)))

  part_whole : length f.widths ≤ n → part_bytes f n vs ≡ form_bytes f vs
  unfolding part_bytes tag_bytes form_bytes field_bytes
  part_whole h =
      let all : take n f.widths ≡ f.widths = take_all n f.widths h in
      ap (λ (ws : List ℕ). f.tag ∷ bytes_of 2 (content_length f) ++ numbers_bytes ws vs) all
      ∙ ap (λ (len : ℕ). f.tag ∷ bytes_of 2 len ++ numbers_bytes f.widths vs) (sym (length_numbers f.widths vs (sym (ap length all) ∙ known)))

  stored_next : (d d₁ d₂ : List ℕ) (at v : ℕ) → n < length f.widths → d₁ ≡ put d at (part_bytes f n vs)
      → d₂ ≡ put d₁ (at + offset_of f n) (bytes_of (width_of f n) v)
      → d₂ ≡ put d at (part_bytes f (suc n) (vs ++ (v ∷ [])))
  stored_next d d₁ d₂ at v more e₁ e₂ =
      joined d d₁ d₂ at (at + offset_of f n) (part_bytes f n vs) (bytes_of (width_of f n) v) e₁ e₂ (ap (λ (k : ℕ). at + k) (sym part_length))
      ∙ ap (put d at) (part_longer v more)

  stored_all : (d d₁ : List ℕ) (at : ℕ) → length f.widths ≤ n → d₁ ≡ put d at (part_bytes f n vs) → d₁ ≡ put d at (form_bytes f vs)
  stored_all d d₁ at h e = e ∙ ap (put d at) (part_whole h)

stored_none : (f : Form) (d d₁ : List ℕ) (at : ℕ) → d₁ ≡ put d at (tag_bytes f.tag (content_length f)) → d₁ ≡ put d at (part_bytes f 0 [])
unfolding part_bytes numbers_bytes
stored_none f d d₁ at e = e ∙ ap (put d at) (sym (append-nil (tag_bytes f.tag (content_length f))))

-- The fields, each by its stores: the tag, then number by number.
module _ (d d₁ d₂ : List ℕ) (at : ℕ) where
  pub mosaic_head_stored : (figure : ℕ) → d₁ ≡ put d at (tag_bytes mosaic_head_form.tag (content_length mosaic_head_form))
      → d₂ ≡ put d₁ (at + offset_of mosaic_head_form 0) (bytes_of (width_of mosaic_head_form 0) figure)
      → d₂ ≡ put d at (form_bytes mosaic_head_form (figure ∷ []))
  mosaic_head_stored figure e₁ e₂ =
      stored_all mosaic_head_form 1 (figure ∷ []) refl d d₂ at (omega arith)
      (stored_next mosaic_head_form 0 [] refl d d₁ d₂ at figure (omega arith) (stored_none mosaic_head_form d d₁ at e₁) e₂)

  pub sorting_head_stored : (figure : ℕ) → d₁ ≡ put d at (tag_bytes sorting_head_form.tag (content_length sorting_head_form))
      → d₂ ≡ put d₁ (at + offset_of sorting_head_form 0) (bytes_of (width_of sorting_head_form 0) figure)
      → d₂ ≡ put d at (form_bytes sorting_head_form (figure ∷ []))
  sorting_head_stored figure e₁ e₂ =
      stored_all sorting_head_form 1 (figure ∷ []) refl d d₂ at (omega arith)
      (stored_next sorting_head_form 0 [] refl d d₁ d₂ at figure (omega arith) (stored_none sorting_head_form d d₁ at e₁) e₂)

  module _ (d₃ : List ℕ) where
    pub flight_head_stored : (figure order : ℕ) → d₁ ≡ put d at (tag_bytes flight_head_form.tag (content_length flight_head_form))
        → d₂ ≡ put d₁ (at + offset_of flight_head_form 0) (bytes_of (width_of flight_head_form 0) figure)
        → d₃ ≡ put d₂ (at + offset_of flight_head_form 1) (bytes_of (width_of flight_head_form 1) order)
        → d₃ ≡ put d at (form_bytes flight_head_form (figure ∷ order ∷ []))
    flight_head_stored figure order e₁ e₂ e₃ =
        stored_all flight_head_form 2 (figure ∷ order ∷ []) refl d d₃ at (omega arith)
        (stored_next flight_head_form 1 (figure ∷ []) refl d d₂ d₃ at order (omega arith)
        (stored_next flight_head_form 0 [] refl d d₁ d₂ at figure (omega arith) (stored_none flight_head_form d d₁ at e₁) e₂)
        e₃)

    pub passes_stored : (p : Passes) → d₁ ≡ put d at (tag_bytes passes_form.tag (content_length passes_form))
        → d₂ ≡ put d₁ (at + offset_of passes_form 0) (bytes_of (width_of passes_form 0) p.first)
        → d₃ ≡ put d₂ (at + offset_of passes_form 1) (bytes_of (width_of passes_form 1) p.second)
        → d₃ ≡ put d at (passes_bytes p)
    unfolding passes_bytes
    passes_stored p e₁ e₂ e₃ =
        stored_all passes_form 2 (p.first ∷ p.second ∷ []) refl d d₃ at (omega arith)
        (stored_next passes_form 1 (p.first ∷ []) refl d d₂ d₃ at p.second (omega arith)
        (stored_next passes_form 0 [] refl d d₁ d₂ at p.first (omega arith) (stored_none passes_form d d₁ at e₁) e₂)
        e₃)

    pub batch_stored : (d₄ : List ℕ) (b : Batch) → d₁ ≡ put d at (tag_bytes batch_form.tag (content_length batch_form))
        → d₂ ≡ put d₁ (at + offset_of batch_form 0) (bytes_of (width_of batch_form 0) b.last)
        → d₃ ≡ put d₂ (at + offset_of batch_form 1) (bytes_of (width_of batch_form 1) b.start)
        → d₄ ≡ put d₃ (at + offset_of batch_form 2) (bytes_of (width_of batch_form 2) b.finish)
        → d₄ ≡ put d at (batch_bytes b)
    unfolding batch_bytes
    batch_stored d₄ b e₁ e₂ e₃ e₄ =
        stored_all batch_form 3 (b.last ∷ b.start ∷ b.finish ∷ []) refl d d₄ at (omega arith)
        (stored_next batch_form 2 (b.last ∷ b.start ∷ []) refl d d₃ d₄ at b.finish (omega arith)
        (stored_next batch_form 1 (b.last ∷ []) refl d d₂ d₃ at b.start (omega arith)
        (stored_next batch_form 0 [] refl d d₁ d₂ at b.last (omega arith) (stored_none batch_form d d₁ at e₁) e₂)
        e₃)
        e₄)

    pub strip_stored : (desk number : ℕ) → d₁ ≡ put d at (tag_bytes job_form.tag (content_length job_form))
        → d₂ ≡ put d₁ (at + offset_of job_form 0) (bytes_of (width_of job_form 0) desk)
        → d₃ ≡ put d₂ (at + offset_of job_form 1) (bytes_of (width_of job_form 1) number)
        → d₃ ≡ put d at (strip_bytes desk number)
    strip_stored desk number e₁ e₂ e₃ =
        stored_next job_form 1 (desk ∷ []) refl d d₂ d₃ at number (omega arith)
        (stored_next job_form 0 [] refl d d₁ d₂ at desk (omega arith) (stored_none job_form d d₁ at e₁) e₂)
        e₃

    pub job_stored : (j : Job) → d₁ ≡ put d at (strip_bytes j.desk j.number)
        → d₂ ≡ put d₁ (at + offset_of job_form 2) (bytes_of (width_of job_form 2) j.scan)
        → d₃ ≡ put d₂ (at + offset_of job_form 3) (bytes_of (width_of job_form 3) j.start)
        → d₃ ≡ put d at (job_bytes j)
    unfolding job_bytes
    job_stored j e₁ e₂ e₃ =
        stored_all job_form 4 (j.desk ∷ j.number ∷ j.scan ∷ j.start ∷ []) refl d d₃ at (omega arith)
        (stored_next job_form 3 (j.desk ∷ j.number ∷ j.scan ∷ []) refl d d₂ d₃ at j.start (omega arith)
        (stored_next job_form 2 (j.desk ∷ j.number ∷ []) refl d d₁ d₂ at j.scan (omega arith) e₁ e₂)
        e₃)

pub length_refusal : (number place : ℕ) → length (refusal_bytes number place) ≡ size_of refusal_form
unfolding refusal_bytes
length_refusal number place = length_form refusal_form (number ∷ place ∷ []) refl

pub refusal_stored : (d d₁ d₂ d₃ : List ℕ) (number place : ℕ) → size_of refusal_form ≤ length d
    → d₁ ≡ put d 0 (tag_bytes refusal_form.tag (content_length refusal_form))
    → d₂ ≡ put d₁ (offset_of refusal_form 0) (bytes_of (width_of refusal_form 0) number)
    → d₃ ≡ put d₂ (offset_of refusal_form 1) (bytes_of (width_of refusal_form 1) place)
    → d₃ ≡ holding (refusal_bytes number place) d
refusal_stored d d₁ d₂ d₃ number place h e₁ e₂ e₃ = stored ∙ put_whole d (refusal_bytes number place) (omega (arith, length_refusal number place))
  where
    field : d₃ ≡ put d 0 (form_bytes refusal_form (number ∷ place ∷ []))
    field =
        stored_all refusal_form 2 (number ∷ place ∷ []) refl d d₃ 0 (omega arith)
        (stored_next refusal_form 1 (number ∷ []) refl d d₂ d₃ 0 place (omega arith)
        (stored_next refusal_form 0 [] refl d d₁ d₂ 0 number (omega arith) (stored_none refusal_form d d₁ 0 e₁) e₂)
        e₃)

    stored : d₃ ≡ put d 0 (refusal_bytes number place)
    stored = field ∙ ap (put d 0) (refusal_is number place)
