-- Members of one kind, each a field of one form: one law over the kind for what is written and read back, and for what is read and stands there.
use Rattle.std.specs.Prelude.{◌≡◌, get_or, drop}
use Rattle.std.proofs.Math.Path.{refl, ap, ap₂, subst}
use Rattle.std.proofs.Common.{sym, ◌∙◌, drop-drop}
use mathlib.Core.List.{List, [], ◌∷◌, ◌++◌, append_assoc}
use Prim.Native.Nat.{ℕ, zero, suc, ◌+◌, ◌*◌, ◌^◌, ◌<◌}
use Rattle.std.proofs.Math.Nat.{mul-suc}
use native.Mathlib.Omega.{arith}
use Rattle.std.proofs.Math.ListN.{length, take, length-append}
use Rattle.std.proofs.Math.Seq.{take-add}
use Rattle.field.specs.Field.{field_at}
use Rattle.field.specs.declared.Field.TheVariants.{Whole}
use Rattle.plan_format.specs.ByteLaws.{AreBytes}
use Rattle.plan_format.specs.Format.{content_length, size_of, form_bytes, values_from}
use Rattle.plan_format.proofs.FormLaws.{length_form, form_back, form_found, form_stands}
use Rattle.rules.specs.Plan.{members_bytes}
use Rattle.plan_read.specs.PlanRead.{members_from}
use Rattle.rules_laws.specs.Members.{Kind}

module _ {A : Type 0} (kind : Kind A) where
  pub length_member : (x : A) → length (kind.bytes x) ≡ size_of kind.form
  length_member x = ap length (kind.is_written x) ∙ length_form kind.form (kind.values x) (kind.count x)

  -- one member: read back, found, and what stands there
  member_back : (pre : List ℕ) (x : A) (post : List ℕ) → kind.Fits x → kind.read (pre ++ (kind.bytes x ++ post)) (length pre) ≡ x
  member_back pre x post h =
      kind.is_read (pre ++ (kind.bytes x ++ post)) (length pre)
      ∙ ap (λ (l : List ℕ). kind.back (values_from kind.form (pre ++ (l ++ post)) (length pre))) (kind.is_written x)
      ∙ ap kind.back (form_back kind.form (kind.values x) pre post (kind.each x h))
      ∙ kind.back_values x

  member_found : (pre : List ℕ) (x : A) (post : List ℕ)
      → field_at (pre ++ (kind.bytes x ++ post)) (length pre) ≡ Whole kind.form.tag (content_length kind.form)
  member_found pre x post =
      ap (λ (l : List ℕ). field_at (pre ++ (l ++ post)) (length pre)) (kind.is_written x)
      ∙ form_found kind.form (kind.values x) pre post (kind.count x) kind.small

  member_stands : (s : List ℕ) → AreBytes s → (at : ℕ) → field_at s at ≡ Whole kind.form.tag (content_length kind.form)
      → take (size_of kind.form) (drop at s) ≡ kind.bytes (kind.read s at)
  member_stands s b at e =
      form_stands s b kind.form at e
      ∙ ap (form_bytes kind.form) (sym (kind.values_back s at))
      ∙ sym (kind.is_written (kind.back (values_from kind.form s at)))
      ∙ ap kind.bytes (sym (kind.is_read s at))

  pub length_members : (xs : List A) → length (members_bytes kind.bytes xs) ≡ size_of kind.form * length xs
  unfolding members_bytes
  length_members [] = omega arith
  length_members (x ∷ xs) =
      omega (arith, length-append (kind.bytes x) (members_bytes kind.bytes xs), length_member x, length_members xs, mul-suc (size_of kind.form) (length xs))

  -- the first member apart from the others
  first_apart : (pre : List ℕ) (x : A) (rest post : List ℕ) → pre ++ ((kind.bytes x ++ rest) ++ post) ≡ pre ++ (kind.bytes x ++ (rest ++ post))
  first_apart pre x rest post = ap (λ (l : List ℕ). pre ++ l) (append_assoc (kind.bytes x) rest post)

  regroup : (pre : List ℕ) (x : A) (rest post : List ℕ) → pre ++ ((kind.bytes x ++ rest) ++ post) ≡ (pre ++ kind.bytes x) ++ (rest ++ post)
  regroup pre x rest post = first_apart pre x rest post ∙ sym (append_assoc pre (kind.bytes x) (rest ++ post))

  next_place : (pre : List ℕ) (x : A) → length pre + size_of kind.form ≡ length (pre ++ kind.bytes x)
  next_place pre x = omega (arith, length-append pre (kind.bytes x), length_member x)

  -- members that fit are read back
  back_from : (none : A) (xs : List A) (pre post : List ℕ) → ((i : ℕ) → i < length xs → kind.Fits (get_or xs i none))
      → members_from kind.read (size_of kind.form) (pre ++ (members_bytes kind.bytes xs ++ post)) (length pre) (length xs) ≡ xs
  unfolding members_bytes members_from
  back_from none [] pre post h = refl
  back_from none (x ∷ xs) pre post h =
      ap₂ ◌∷◌
      (ap (λ (l : List ℕ). kind.read l (length pre)) (first_apart pre x (members_bytes kind.bytes xs) post) ∙ member_back pre x (members_bytes kind.bytes xs ++ post) (h 0 (omega arith)))
      (ap₂ (λ (l : List ℕ) (k : ℕ). members_from kind.read (size_of kind.form) l k (length xs)) (regroup pre x (members_bytes kind.bytes xs) post) (next_place pre x)
      ∙ back_from none xs (pre ++ kind.bytes x) post (λ i l. h (suc i) (omega arith)))

  -- each is found
  found_from : (xs : List A) (pre post : List ℕ) (i : ℕ) → i < length xs
      → field_at (pre ++ (members_bytes kind.bytes xs ++ post)) (length pre + size_of kind.form * i) ≡ Whole kind.form.tag (content_length kind.form)
  unfolding members_bytes
  found_from [] pre post i l = absurd (omega arith)
  found_from (x ∷ xs) pre post zero l =
      let here : length pre + size_of kind.form * 0 ≡ length pre = omega arith in
      ap₂ field_at (first_apart pre x (members_bytes kind.bytes xs) post) here ∙ member_found pre x (members_bytes kind.bytes xs ++ post)
  found_from (x ∷ xs) pre post (suc i) l =
      let there : length pre + size_of kind.form * suc i ≡ length (pre ++ kind.bytes x) + size_of kind.form * i
      = omega (arith, next_place pre x, mul-suc (size_of kind.form) i) in
      ap₂ field_at (regroup pre x (members_bytes kind.bytes xs) post) there ∙ found_from xs (pre ++ kind.bytes x) post i (omega arith)

  -- the same of a row that is joined from the left
  module _ (xs : List A) (pre post : List ℕ) where
    joined : pre ++ members_bytes kind.bytes xs ++ post ≡ pre ++ (members_bytes kind.bytes xs ++ post)
    joined = append_assoc pre (members_bytes kind.bytes xs) post

    pub members_back : (none : A) → ((i : ℕ) → i < length xs → kind.Fits (get_or xs i none))
        → members_from kind.read (size_of kind.form) (pre ++ members_bytes kind.bytes xs ++ post) (length pre) (length xs) ≡ xs
    members_back none h = ap (λ (l : List ℕ). members_from kind.read (size_of kind.form) l (length pre) (length xs)) joined ∙ back_from none xs pre post h

    pub members_found : (i : ℕ) → i < length xs
        → field_at (pre ++ members_bytes kind.bytes xs ++ post) (length pre + size_of kind.form * i) ≡ Whole kind.form.tag (content_length kind.form)
    members_found i l = ap (λ (r : List ℕ). field_at r (length pre + size_of kind.form * i)) joined ∙ found_from xs pre post i l

  -- members that stand one after another are what is read from there
  pub members_stand : (s : List ℕ) → AreBytes s → (n at : ℕ)
      → ((i : ℕ) → i < n → field_at s (at + size_of kind.form * i) ≡ Whole kind.form.tag (content_length kind.form))
      → take (size_of kind.form * n) (drop at s) ≡ members_bytes kind.bytes (members_from kind.read (size_of kind.form) s at n)
  unfolding members_bytes members_from
  members_stand s b zero at h =
      let z : size_of kind.form * 0 ≡ 0 = omega arith in
      ap (λ (n : ℕ). take n (drop at s)) z
  members_stand s b (suc n) at h =
      let all : size_of kind.form * suc n ≡ size_of kind.form + size_of kind.form * n = omega (arith, mul-suc (size_of kind.form) n) in
      let here : at + size_of kind.form * 0 ≡ at = omega arith in
      ap (λ (k : ℕ). take k (drop at s)) all
      ∙ take-add (size_of kind.form) (size_of kind.form * n) (drop at s)
      ∙ ap₂ ◌++◌
      (member_stands s b at (sym (ap (field_at s) here) ∙ h 0 (omega arith)))
      (ap (take (size_of kind.form * n)) (drop-drop (size_of kind.form) at s)
      ∙ members_stand s b n (at + size_of kind.form) (λ i l. later i l (h (suc i) (omega arith))))
    where
      later : (i : ℕ) → i < n → field_at s (at + size_of kind.form * suc i) ≡ Whole kind.form.tag (content_length kind.form)
          → field_at s (at + size_of kind.form + size_of kind.form * i) ≡ Whole kind.form.tag (content_length kind.form)
      later i l e = subst (λ (k : ℕ). field_at s k ≡ Whole kind.form.tag (content_length kind.form)) (omega (arith, mul-suc (size_of kind.form) i)) e
