-- A section is its head and its members, stored one behind the other; an absent one is nothing.
use Rattle.std.specs.Prelude.{ℕ, ◌+◌, ◌*◌, ◌≤◌, ◌<◌, ◌≡◌, refl, List, [], ◌∷◌, ◌++◌, length, get_or, take}
use Rattle.std.proofs.Common.{sym, ap, ◌∙◌, length-append, arith}
use Rattle.base.specs.Listed.{listed_length, listed_taken}
use Rattle.field.specs.Put.{put, put_none, joined, Written}
use Rattle.plan_format.specs.Format.{size_of, form_bytes, mosaic_head_form, batch_form, sorting_head_form, job_form, flight_head_form, passes_form}
use Rattle.plan_format.proofs.FormLaws.{length_form}
use Rattle.rules.specs.Mosaic.{no_batch}
use Rattle.rules.specs.Sorting.{no_job}
use Rattle.rules.specs.Flight.{no_passes}
use Rattle.rules.specs.declared.Batch.{Batch}
use Rattle.rules.specs.declared.Job.{Job}
use Rattle.rules.specs.declared.Passes.{Passes}
use Rattle.rules.specs.Plan.{mosaic_bytes, sorting_bytes, flight_bytes, if_present, members_bytes, batch_bytes, job_bytes, passes_bytes}
use Rattle.rules_laws.proofs.Present.{present_none, present_some, present_most}
use Rattle.mosaic.specs.Plan.{batches_of}
use Rattle.mosaic.specs.declared.MosaicPlan.{MosaicPlan}
use Rattle.sorting.specs.Plan.{jobs_of_plan}
use Rattle.sorting.specs.declared.SortingPlan.{SortingPlan}
use Rattle.flight.specs.Choice.{passes_of_plan}
use Rattle.flight.specs.declared.FlightPlan.{FlightPlan}
use Rattle.plan_fields.specs.MemberLaws.{length_batch, length_job, length_passes, length_members}

-- An absent section stores nothing.
absent : (d : List ℕ) (at n : ℕ) (bytes : List ℕ) → n < 1 → Written d d at (if_present n bytes) at
absent d at n bytes h = rw (present_none n bytes h) (record { buffer = put_none d at; end = none })
  where
    none : at ≡ at + 0
    none = omega arith

pub mosaic_absent : (d : List ℕ) (at n : ℕ) (p : MosaicPlan) → n < 1 → Written d d at (if_present n (mosaic_bytes p.figure (batches_of p))) at
mosaic_absent d at n p h = absent d at n (mosaic_bytes p.figure (batches_of p)) h

pub sorting_absent : (d : List ℕ) (at n : ℕ) (p : SortingPlan) → n < 1 → Written d d at (if_present n (sorting_bytes p.figure (jobs_of_plan p))) at
sorting_absent d at n p h = absent d at n (sorting_bytes p.figure (jobs_of_plan p)) h

pub flight_absent : (d : List ℕ) (at n : ℕ) (p : FlightPlan) → n < 1 → Written d d at (if_present n (flight_bytes p.figure p.order (passes_of_plan n p))) at
flight_absent d at n p h = absent d at n (flight_bytes p.figure p.order (passes_of_plan n p)) h

-- A section: its head, and k members behind it, all of one size.
module _ {A : Type 0} (bytes : A → List ℕ) (size : ℕ) (sized : (x : A) → length (bytes x) ≡ size) (n skip k : ℕ) (head : List ℕ) (long : length head ≡ skip)
    (members : List A) (count : length members ≡ k) where
  members_long : length (members_bytes bytes members) ≡ size * k
  members_long = length_members bytes size sized members ∙ ap (λ (j : ℕ). size * j) count

  section_written : (d d₁ d₂ : List ℕ) (at : ℕ) → 1 ≤ n → d₁ ≡ put d at head → d₂ ≡ put d₁ (at + skip) (members_bytes bytes members)
      → Written d d₂ at (if_present n (head ++ members_bytes bytes members)) (at + skip + size * k)
  section_written d d₁ d₂ at h e₁ e₂ =
      rw (present_some n (head ++ members_bytes bytes members) h)
      (record {
        buffer = joined d d₁ d₂ at (at + skip) head (members_bytes bytes members) e₁ e₂ (omega (arith, long));
        end = omega (arith, long, length-append head (members_bytes bytes members), members_long);
      })

  section_long : length (if_present n (head ++ members_bytes bytes members)) ≤ skip + size * k
  section_long =
      omega (arith, long, present_most n (head ++ members_bytes bytes members), length-append head (members_bytes bytes members), members_long)

module _ (n : ℕ) where
  pub mosaic_written : (p : MosaicPlan) (d d₁ d₂ : List ℕ) (at : ℕ) → 1 ≤ n → d₁ ≡ put d at (form_bytes mosaic_head_form (p.figure ∷ []))
      → d₂ ≡ put d₁ (at + size_of mosaic_head_form) (members_bytes batch_bytes (batches_of p))
      → Written d d₂ at (if_present n (mosaic_bytes p.figure (batches_of p))) (at + size_of mosaic_head_form + size_of batch_form * p.count)
  unfolding mosaic_bytes batches_of
  mosaic_written p =
      section_written batch_bytes (size_of batch_form) length_batch n (size_of mosaic_head_form) p.count (form_bytes mosaic_head_form (p.figure ∷ []))
      (length_form mosaic_head_form (p.figure ∷ []) refl) (batches_of p) (listed_length p.count (λ k. get_or p.batches k no_batch))

  pub sorting_written : (p : SortingPlan) (d d₁ d₂ : List ℕ) (at : ℕ) → 1 ≤ n → d₁ ≡ put d at (form_bytes sorting_head_form (p.figure ∷ []))
      → d₂ ≡ put d₁ (at + size_of sorting_head_form) (members_bytes job_bytes (jobs_of_plan p))
      → Written d d₂ at (if_present n (sorting_bytes p.figure (jobs_of_plan p))) (at + size_of sorting_head_form + size_of job_form * p.count)
  unfolding sorting_bytes jobs_of_plan
  sorting_written p =
      section_written job_bytes (size_of job_form) length_job n (size_of sorting_head_form) p.count (form_bytes sorting_head_form (p.figure ∷ []))
      (length_form sorting_head_form (p.figure ∷ []) refl) (jobs_of_plan p) (listed_length p.count (λ k. get_or p.jobs k no_job))

  pub flight_written : (p : FlightPlan) (d d₁ d₂ : List ℕ) (at : ℕ) → 1 ≤ n → d₁ ≡ put d at (form_bytes flight_head_form (p.figure ∷ p.order ∷ []))
      → d₂ ≡ put d₁ (at + size_of flight_head_form) (members_bytes passes_bytes (passes_of_plan n p))
      → Written d d₂ at (if_present n (flight_bytes p.figure p.order (passes_of_plan n p))) (at + size_of flight_head_form + size_of passes_form * n)
  unfolding flight_bytes passes_of_plan
  flight_written p =
      section_written passes_bytes (size_of passes_form) length_passes n (size_of flight_head_form) n (form_bytes flight_head_form (p.figure ∷ p.order ∷ []))
      (length_form flight_head_form (p.figure ∷ p.order ∷ []) refl) (passes_of_plan n p) (listed_length n (λ k. get_or p.blocks k no_passes))

  -- The same of what is stored: the members are the first entries of an array.
  pub mosaic_stored : (p : MosaicPlan) (d d₁ d₂ : List ℕ) (at : ℕ) → 1 ≤ n → p.count ≤ length p.batches
      → d₁ ≡ put d at (form_bytes mosaic_head_form (p.figure ∷ []))
      → d₂ ≡ put d₁ (at + size_of mosaic_head_form) (members_bytes batch_bytes (take p.count p.batches))
      → Written d d₂ at (if_present n (mosaic_bytes p.figure (batches_of p))) (at + size_of mosaic_head_form + size_of batch_form * p.count)
  unfolding batches_of
  mosaic_stored p d d₁ d₂ at h l e₁ e₂ =
      mosaic_written p d d₁ d₂ at h e₁
      (e₂ ∙ ap (λ (ms : List Batch). put d₁ (at + size_of mosaic_head_form) (members_bytes batch_bytes ms)) (sym (listed_taken p.count p.batches no_batch l)))

  pub sorting_stored : (p : SortingPlan) (d d₁ d₂ : List ℕ) (at : ℕ) → 1 ≤ n → p.count ≤ length p.jobs
      → d₁ ≡ put d at (form_bytes sorting_head_form (p.figure ∷ []))
      → d₂ ≡ put d₁ (at + size_of sorting_head_form) (members_bytes job_bytes (take p.count p.jobs))
      → Written d d₂ at (if_present n (sorting_bytes p.figure (jobs_of_plan p))) (at + size_of sorting_head_form + size_of job_form * p.count)
  unfolding jobs_of_plan
  sorting_stored p d d₁ d₂ at h l e₁ e₂ =
      sorting_written p d d₁ d₂ at h e₁
      (e₂ ∙ ap (λ (ms : List Job). put d₁ (at + size_of sorting_head_form) (members_bytes job_bytes ms)) (sym (listed_taken p.count p.jobs no_job l)))

  pub flight_stored : (p : FlightPlan) (d d₁ d₂ : List ℕ) (at : ℕ) → 1 ≤ n → n ≤ length p.blocks
      → d₁ ≡ put d at (form_bytes flight_head_form (p.figure ∷ p.order ∷ []))
      → d₂ ≡ put d₁ (at + size_of flight_head_form) (members_bytes passes_bytes (take n p.blocks))
      → Written d d₂ at (if_present n (flight_bytes p.figure p.order (passes_of_plan n p))) (at + size_of flight_head_form + size_of passes_form * n)
  unfolding passes_of_plan
  flight_stored p d d₁ d₂ at h l e₁ e₂ =
      flight_written p d d₁ d₂ at h e₁
      (e₂ ∙ ap (λ (ms : List Passes). put d₁ (at + size_of flight_head_form) (members_bytes passes_bytes ms)) (sym (listed_taken n p.blocks no_passes l)))

  -- How long a section is at most.
  pub mosaic_long : (p : MosaicPlan)
      → length (if_present n (mosaic_bytes p.figure (batches_of p))) ≤ size_of mosaic_head_form + size_of batch_form * p.count
  unfolding mosaic_bytes batches_of
  mosaic_long p =
      section_long batch_bytes (size_of batch_form) length_batch n (size_of mosaic_head_form) p.count (form_bytes mosaic_head_form (p.figure ∷ []))
      (length_form mosaic_head_form (p.figure ∷ []) refl) (batches_of p) (listed_length p.count (λ k. get_or p.batches k no_batch))

  pub sorting_long : (p : SortingPlan)
      → length (if_present n (sorting_bytes p.figure (jobs_of_plan p))) ≤ size_of sorting_head_form + size_of job_form * p.count
  unfolding sorting_bytes jobs_of_plan
  sorting_long p =
      section_long job_bytes (size_of job_form) length_job n (size_of sorting_head_form) p.count (form_bytes sorting_head_form (p.figure ∷ []))
      (length_form sorting_head_form (p.figure ∷ []) refl) (jobs_of_plan p) (listed_length p.count (λ k. get_or p.jobs k no_job))

  pub flight_long : (p : FlightPlan)
      → length (if_present n (flight_bytes p.figure p.order (passes_of_plan n p))) ≤ size_of flight_head_form + size_of passes_form * n
  unfolding flight_bytes passes_of_plan
  flight_long p =
      section_long passes_bytes (size_of passes_form) length_passes n (size_of flight_head_form) n (form_bytes flight_head_form (p.figure ∷ p.order ∷ []))
      (length_form flight_head_form (p.figure ∷ p.order ∷ []) refl) (passes_of_plan n p) (listed_length n (λ k. get_or p.blocks k no_passes))
