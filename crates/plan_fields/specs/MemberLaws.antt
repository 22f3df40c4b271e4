-- Members stored one behind the other: the fields of a kind are of one size, so the first i of them take i times that.
use Rattle.std.specs.Prelude.{ℕ, ◌+◌, ◌*◌, ◌<◌, ◌≡◌, refl, List, [], ◌∷◌, ◌++◌, length, get_or, take}
use Rattle.std.proofs.Common.{sym, ap, ◌∙◌, arith, length-append, append_assoc, append-nil, mul-suc, mul-zero}
use Rattle.std.proofs.lemmas.List.{length-take-le, take_more}
use Rattle.field.specs.Put.{put, put_none, joined}
use Rattle.plan_format.specs.Format.{size_of, batch_form, job_form, passes_form}
use Rattle.plan_format.proofs.FormLaws.{length_form}
use Rattle.rules.specs.Plan.{members_bytes, batch_values, batch_bytes, job_values, job_bytes, passes_values, passes_bytes}
use Rattle.rules.specs.declared.Batch.{Batch}
use Rattle.rules.specs.declared.Job.{Job}
use Rattle.rules.specs.declared.Passes.{Passes}

-- the length of each field
pub length_batch : (b : Batch) → length (batch_bytes b) ≡ size_of batch_form
unfolding batch_bytes
length_batch b = length_form batch_form (batch_values b) refl

pub length_job : (j : Job) → length (job_bytes j) ≡ size_of job_form
unfolding job_bytes
length_job j = length_form job_form (job_values j) refl

pub length_passes : (p : Passes) → length (passes_bytes p) ≡ size_of passes_form
unfolding passes_bytes
length_passes p = length_form passes_form (passes_values p) refl

module _ {A : Type 0} (bytes : A → List ℕ) where
  -- the bytes of one member more
  members_more : (xs : List A) (x : A) → members_bytes bytes xs ++ bytes x ≡ members_bytes bytes (xs ++ (x ∷ []))
  unfolding members_bytes
  members_more [] x = sym (append-nil (bytes x))
  members_more (y ∷ ys) x = append_assoc (bytes y) (members_bytes bytes ys) (bytes x) ∙ ap (λ (l : List ℕ). bytes y ++ l) (members_more ys x)

  module _ (size : ℕ) (sized : (x : A) → length (bytes x) ≡ size) where
    pub length_members : (xs : List A) → length (members_bytes bytes xs) ≡ size * length xs
    unfolding members_bytes
    length_members [] = sym (mul-zero size)
    length_members (x ∷ xs) =
        length-append (bytes x) (members_bytes bytes xs) ∙ omega (arith, sized x, length_members xs, mul-suc size (length xs))

    -- the next member stands behind the first i
    pub members_next : (xs : List A) (i : ℕ) (x : A) (skip : ℕ) (d₀ d d₁ : List ℕ) (at : ℕ) → i < length xs → x ≡ get_or xs i x → skip ≡ size
        → d ≡ put d₀ at (members_bytes bytes (take i xs)) → d₁ ≡ put d (at + skip * i) (bytes x)
        → d₁ ≡ put d₀ at (members_bytes bytes (take (i + 1) xs))
    members_next xs i x skip d₀ d d₁ at l is e e₁ e₂ =
        joined d₀ d d₁ at (at + skip * i) (members_bytes bytes (take i xs)) (bytes x) e₁ e₂ place
        ∙ ap (put d₀ at) (members_more (take i xs) x ∙ ap (members_bytes bytes) (ap (λ (y : A). take i xs ++ (y ∷ [])) is ∙ sym (take_more xs i x l)))
      where
        place : at + skip * i ≡ at + length (members_bytes bytes (take i xs))
        place =
            ap (λ (k : ℕ). at + k * i) e
            ∙ ap (λ (k : ℕ). at + size * k) (sym (length-take-le i xs (omega arith)))
            ∙ ap (λ (k : ℕ). at + k) (sym (length_members (take i xs)))

  pub members_none : (xs : List A) (d : List ℕ) (at : ℕ) → d ≡ put d at (members_bytes bytes (take 0 xs))
  unfolding members_bytes
  members_none xs d at = put_none d at
