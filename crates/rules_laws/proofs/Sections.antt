-- A section of a plan, its head and then its members: how long it is, that its members and its numbers are read back where it was written,
-- and that a section which is found stands as it is read. One law over the kind of member, and the three sections.
use Rattle.std.specs.Prelude.{◌≡◌, ℕ, ◌+◌, ◌*◌, ◌^◌, ◌<◌, length, get_or, take, drop}
use Rattle.std.proofs.Math.Path.{refl, ap}
use Rattle.std.proofs.Common.{sym, ap₂, ◌∙◌, arith, length-append, take-add, drop-drop}
use mathlib.Core.List.{List, [], ◌∷◌, ◌++◌, append_assoc}
use Rattle.field.specs.Field.{field_at}
use Rattle.plan_format.specs.ByteLaws.{AreBytes}
use Rattle.plan_format.specs.Format.{Form, content_length, size_of, form_bytes, EachFits, mosaic_head_form, batch_form, sorting_head_form, job_form, flight_head_form}
use Rattle.plan_format.specs.Format.{passes_form}
use Rattle.plan_format.proofs.FormLaws.{length_form, form_found}
use Rattle.rules.specs.Mosaic.{no_batch, batch_at}
use Rattle.rules.specs.Sorting.{no_job, job_at}
use Rattle.rules.specs.Flight.{no_passes, passes_at}
use Rattle.rules.specs.Plan.{members_bytes, mosaic_bytes, sorting_bytes, flight_bytes}
use Rattle.rules.specs.declared.Batch.{Batch}
use Rattle.rules.specs.declared.Job.{Job}
use Rattle.rules.specs.declared.Passes.{Passes}
use Rattle.plan_read.specs.PlanRead.{figure_from, order_from, batches_from, jobs_from, blocks_from, members_from, BatchFits, JobFits, PassesFits}
use Rattle.rules_laws.specs.Members.{Kind}
use Rattle.rules_laws.proofs.Members.{length_members, members_back, members_found, members_stand}
use Rattle.rules_laws.specs.RoundTrip.{batch_kind, job_kind, passes_kind}
use Rattle.rules_laws.proofs.RoundTrip.{figure_back, order_back, mosaic_head_stands, sorting_head_stands}
use Rattle.rules_laws.proofs.RoundTrip.{flight_head_stands}
use Rattle.rules_laws.specs.Sections.{SectionFound}

module _ {A : Type 0} (kind : Kind A) (head : Form) (values : List ℕ) (count : length head.widths ≡ length values) (xs : List A) where
  pub length_section : length (form_bytes head values ++ members_bytes kind.bytes xs) ≡ size_of head + size_of kind.form * length xs
  length_section = omega (arith, length-append (form_bytes head values) (members_bytes kind.bytes xs), length_form head values count, length_members kind xs)

  module _ (pre post : List ℕ) where
    head_apart : pre ++ (form_bytes head values ++ members_bytes kind.bytes xs) ++ post ≡ pre ++ form_bytes head values ++ members_bytes kind.bytes xs ++ post
    head_apart = ap (λ (l : List ℕ). l ++ post) (sym (append_assoc pre (form_bytes head values) (members_bytes kind.bytes xs)))

    -- the head, and all that stands behind it
    pub head_first : pre ++ (form_bytes head values ++ members_bytes kind.bytes xs) ++ post
        ≡ pre ++ form_bytes head values ++ (members_bytes kind.bytes xs ++ post)
    head_first = head_apart ∙ append_assoc (pre ++ form_bytes head values) (members_bytes kind.bytes xs) post

    behind_head : length (pre ++ form_bytes head values) ≡ length pre + size_of head
    behind_head = omega (arith, length-append pre (form_bytes head values), length_form head values count)

    pub section_found : content_length head < 2 ^ 16
        → SectionFound head kind.form (pre ++ (form_bytes head values ++ members_bytes kind.bytes xs) ++ post) (length pre) (length xs)
    section_found small = record {
      head_there =
          ap (λ (l : List ℕ). field_at l (length pre)) (head_first ∙ append_assoc pre (form_bytes head values) (members_bytes kind.bytes xs ++ post))
          ∙ form_found head values pre (members_bytes kind.bytes xs ++ post) count small;
      each =
          λ i l. ap₂ (λ (r : List ℕ) (k : ℕ). field_at r (k + size_of kind.form * i)) head_apart (sym behind_head) ∙ members_found kind xs (pre ++ form_bytes head values) post i l;
    }

    pub section_back : (none : A) → ((i : ℕ) → i < length xs → kind.Fits (get_or xs i none))
        → members_from kind.read (size_of kind.form) (pre ++ (form_bytes head values ++ members_bytes kind.bytes xs) ++ post) (length pre + size_of head)
        (length xs)
        ≡ xs
    section_back none h =
        ap₂ (λ (r : List ℕ) (k : ℕ). members_from kind.read (size_of kind.form) r k (length xs)) head_apart (sym behind_head)
        ∙ members_back kind xs (pre ++ form_bytes head values) post none h

-- what stands there, the head given
module _ {A : Type 0} (kind : Kind A) (plan : List ℕ) (b : AreBytes plan) (head : Form) (at n : ℕ) (f : SectionFound head kind.form plan at n) where
  pub section_stands : (bytes : List ℕ) → take (size_of head) (drop at plan) ≡ bytes
      → take (size_of head + size_of kind.form * n) (drop at plan)
      ≡ bytes ++ members_bytes kind.bytes (members_from kind.read (size_of kind.form) plan (at + size_of head) n)
  section_stands bytes e =
      take-add (size_of head) (size_of kind.form * n) (drop at plan)
      ∙ ap₂ ◌++◌ e
      (ap (take (size_of kind.form * n)) (drop-drop (size_of head) at plan) ∙ members_stand kind plan b n (at + size_of head) f.each)

-- The mosaic.
module _ (figure : ℕ) (bs : List Batch) where
  pub length_mosaic : length (mosaic_bytes figure bs) ≡ size_of mosaic_head_form + size_of batch_form * length bs
  unfolding mosaic_bytes batch_kind
  length_mosaic = length_section batch_kind mosaic_head_form (figure ∷ []) refl bs

  module _ (pre post : List ℕ) where
    pub mosaic_found : SectionFound mosaic_head_form batch_form (pre ++ mosaic_bytes figure bs ++ post) (length pre) (length bs)
    unfolding mosaic_bytes batch_kind
    mosaic_found = section_found batch_kind mosaic_head_form (figure ∷ []) refl bs pre post (omega arith)

    pub mosaic_figure_back : EachFits mosaic_head_form.widths (figure ∷ [])
        → figure_from mosaic_head_form (pre ++ mosaic_bytes figure bs ++ post) (length pre) ≡ figure
    unfolding mosaic_bytes batch_kind
    mosaic_figure_back h =
        ap (λ (l : List ℕ). figure_from mosaic_head_form l (length pre)) (head_first batch_kind mosaic_head_form (figure ∷ []) refl bs pre post)
        ∙ figure_back pre (members_bytes batch_kind.bytes bs ++ post) mosaic_head_form figure [] h

    pub mosaic_back : ((i : ℕ) → i < length bs → BatchFits (batch_at bs i))
        → batches_from (pre ++ mosaic_bytes figure bs ++ post) (length pre + size_of mosaic_head_form) (length bs) ≡ bs
    unfolding mosaic_bytes batch_kind batch_at
    mosaic_back h = section_back batch_kind mosaic_head_form (figure ∷ []) refl bs pre post no_batch h

pub mosaic_stands : (plan : List ℕ) → AreBytes plan → (at n : ℕ) → SectionFound mosaic_head_form batch_form plan at n
    → take (size_of mosaic_head_form + size_of batch_form * n) (drop at plan)
    ≡ mosaic_bytes (figure_from mosaic_head_form plan at) (batches_from plan (at + size_of mosaic_head_form) n)
unfolding mosaic_bytes batch_kind
mosaic_stands plan b at n f = section_stands batch_kind plan b mosaic_head_form at n f _ (mosaic_head_stands plan b at f.head_there)

-- The sorting.
module _ (figure : ℕ) (js : List Job) where
  pub length_sorting : length (sorting_bytes figure js) ≡ size_of sorting_head_form + size_of job_form * length js
  unfolding sorting_bytes job_kind
  length_sorting = length_section job_kind sorting_head_form (figure ∷ []) refl js

  module _ (pre post : List ℕ) where
    pub sorting_found : SectionFound sorting_head_form job_form (pre ++ sorting_bytes figure js ++ post) (length pre) (length js)
    unfolding sorting_bytes job_kind
    sorting_found = section_found job_kind sorting_head_form (figure ∷ []) refl js pre post (omega arith)

    pub sorting_figure_back : EachFits sorting_head_form.widths (figure ∷ [])
        → figure_from sorting_head_form (pre ++ sorting_bytes figure js ++ post) (length pre) ≡ figure
    unfolding sorting_bytes job_kind
    sorting_figure_back h =
        ap (λ (l : List ℕ). figure_from sorting_head_form l (length pre)) (head_first job_kind sorting_head_form (figure ∷ []) refl js pre post)
        ∙ figure_back pre (members_bytes job_kind.bytes js ++ post) sorting_head_form figure [] h

    pub sorting_back : ((i : ℕ) → i < length js → JobFits (job_at js i))
        → jobs_from (pre ++ sorting_bytes figure js ++ post) (length pre + size_of sorting_head_form) (length js) ≡ js
    unfolding sorting_bytes job_kind job_at
    sorting_back h = section_back job_kind sorting_head_form (figure ∷ []) refl js pre post no_job h

pub sorting_stands : (plan : List ℕ) → AreBytes plan → (at n : ℕ) → SectionFound sorting_head_form job_form plan at n
    → take (size_of sorting_head_form + size_of job_form * n) (drop at plan)
    ≡ sorting_bytes (figure_from sorting_head_form plan at) (jobs_from plan (at + size_of sorting_head_form) n)
unfolding sorting_bytes job_kind
sorting_stands plan b at n f = section_stands job_kind plan b sorting_head_form at n f _ (sorting_head_stands plan b at f.head_there)

-- The flight.
module _ (figure order : ℕ) (ps : List Passes) where
  pub length_flight : length (flight_bytes figure order ps) ≡ size_of flight_head_form + size_of passes_form * length ps
  unfolding flight_bytes passes_kind
  length_flight = length_section passes_kind flight_head_form (figure ∷ order ∷ []) refl ps

  module _ (pre post : List ℕ) where
    pub flight_found : SectionFound flight_head_form passes_form (pre ++ flight_bytes figure order ps ++ post) (length pre) (length ps)
    unfolding flight_bytes passes_kind
    flight_found = section_found passes_kind flight_head_form (figure ∷ order ∷ []) refl ps pre post (omega arith)

    flight_head_first : pre ++ flight_bytes figure order ps ++ post
        ≡ pre ++ form_bytes flight_head_form (figure ∷ order ∷ []) ++ (members_bytes passes_kind.bytes ps ++ post)
    unfolding flight_bytes passes_kind
    flight_head_first = head_first passes_kind flight_head_form (figure ∷ order ∷ []) refl ps pre post

    module _ (h : EachFits flight_head_form.widths (figure ∷ order ∷ [])) where
      pub flight_figure_back : figure_from flight_head_form (pre ++ flight_bytes figure order ps ++ post) (length pre) ≡ figure
      flight_figure_back =
          ap (λ (l : List ℕ). figure_from flight_head_form l (length pre)) flight_head_first
          ∙ figure_back pre (members_bytes passes_kind.bytes ps ++ post) flight_head_form figure (order ∷ []) h

      pub flight_order_back : order_from (pre ++ flight_bytes figure order ps ++ post) (length pre) ≡ order
      flight_order_back =
          ap (λ (l : List ℕ). order_from l (length pre)) flight_head_first ∙ order_back pre (members_bytes passes_kind.bytes ps ++ post) figure order h

    pub flight_back : ((i : ℕ) → i < length ps → PassesFits (passes_at ps i))
        → blocks_from (pre ++ flight_bytes figure order ps ++ post) (length pre + size_of flight_head_form) (length ps) ≡ ps
    unfolding flight_bytes passes_kind passes_at
    flight_back h = section_back passes_kind flight_head_form (figure ∷ order ∷ []) refl ps pre post no_passes h

pub flight_stands : (plan : List ℕ) → AreBytes plan → (at n : ℕ) → SectionFound flight_head_form passes_form plan at n
    → take (size_of flight_head_form + size_of passes_form * n) (drop at plan)
    ≡ flight_bytes (figure_from flight_head_form plan at) (order_from plan at) (blocks_from plan (at + size_of flight_head_form) n)
unfolding flight_bytes passes_kind
flight_stands plan b at n f = section_stands passes_kind plan b flight_head_form at n f _ (flight_head_stands plan b at f.head_there)
