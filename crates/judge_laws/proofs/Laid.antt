-- The layout: a section that is found right stands in the plan as its head and its members, and a section that is written so is found right.
-- One law each way over the kind of member; the counting of the members stops where another tag, or no byte, follows.
use Rattle.std.specs.Prelude.{ℕ, zero, suc, ◌+◌, ◌*◌, ◌^◌, ◌≤◌, ◌<◌, ◌≡◌, Bool, cond, length, get_or, take}
use Rattle.std.proofs.Math.Path.{refl, sym, ap₂}
use Rattle.std.proofs.Common.{ap, subst, ◌∙◌, add-zero, mul-suc, mul_comm, mul-le-mul_left, arith, length-append, take-append-drop, drop-drop, get_or-append-add, eq-eqb}
use Rattle.std.proofs.Math.Bool.{true, false}
use mathlib.Core.List.{List, [], ◌++◌, append_assoc, append-nil}
use Rattle.std.proofs.Math.ListN.{drop}
use Rattle.field.specs.Field.{field_at}
use Rattle.field.specs.Fields.{whole_at}
use Rattle.field.specs.declared.Field.{Field}
use Rattle.field.specs.declared.Field.TheVariants.{Whole}
use Rattle.plan_format.specs.ByteLaws.{AreBytes}
use Rattle.plan_format.specs.Format.{Form, content_length, size_of, form_bytes}
use Rattle.plan_format.proofs.FormLaws.{length_form, form_found}
use Rattle.rules.specs.Plan.{members_bytes}
use Rattle.plan_read.specs.PlanRead.{members_from}
use Rattle.rules_laws.specs.Members.{Kind}
use Rattle.rules_laws.proofs.Members.{length_members, members_back, members_found, members_stand}
use Rattle.judge_layout.specs.Layout.{is_field, run, part_from, part_of, part_by_forms}
use Rattle.judge_layout.specs.Laws.{is_field_true}

-- the test of a field
pub is_field_lem : (f : Field) (tag len : ℕ) → f ≡ Whole tag len → is_field f tag len ≡ true
unfolding is_field
is_field_lem f tag len e = rw (e, eq-eqb tag tag refl, eq-eqb len len refl)

other_field : (plan : List ℕ) (at tag len : ℕ) → (get_or plan at 0 ≡ tag → ⊥) → is_field (field_at plan at) tag len ≡ false
other_field plan at tag len h = go (is_field (field_at plan at) tag len) refl
  where
    go : (b : Bool) → is_field (field_at plan at) tag len ≡ b → b ≡ false
    go false e = refl
    go true e = absurd (h (sym (whole_at plan at tag len (is_field_true (field_at plan at) tag len e)).tag_is))

-- the members that are counted stand one after another
next_member : (at size i : ℕ) → at + size + size * i ≡ at + size * suc i
next_member at size i = omega (arith, mul-suc size i)

pub run_each : (turns : ℕ) (plan : List ℕ) (at tag len i : ℕ) → i < run turns plan at tag len → field_at plan (at + (3 + len) * i) ≡ Whole tag len
unfolding run
run_each zero plan at tag len i h = absurd (omega arith)
run_each (suc turns) plan at tag len i h = go (is_field (field_at plan at) tag len) refl i h (run_each turns plan (at + (3 + len)) tag len)
  where
    go : (b : Bool) → is_field (field_at plan at) tag len ≡ b → (i : ℕ) → i < elim b [ true ↦ suc (run turns plan (at + (3 + len)) tag len) | false ↦ 0 ]
        → ((i : ℕ) → i < run turns plan (at + (3 + len)) tag len → field_at plan (at + (3 + len) + (3 + len) * i) ≡ Whole tag len)
        → field_at plan (at + (3 + len) * i) ≡ Whole tag len
    go false e i h ih = absurd (omega arith)
    go true e zero h ih =
        let here : at + (3 + len) * 0 ≡ at = omega arith in
        ap (field_at plan) here ∙ is_field_true (field_at plan at) tag len e
    go true e (suc i) h ih = ap (field_at plan) (sym (next_member at (3 + len) i)) ∙ ih i (omega arith)

-- .. and members that stand one after another, and no more of them, are counted
run_is : (n turns : ℕ) (plan : List ℕ) (at tag len : ℕ) → n ≤ turns → ((i : ℕ) → i < n → field_at plan (at + (3 + len) * i) ≡ Whole tag len)
    → is_field (field_at plan (at + (3 + len) * n)) tag len ≡ false → run turns plan at tag len ≡ n
unfolding run
run_is zero zero plan at tag len l h e = refl
run_is zero (suc turns) plan at tag len l h e =
    let here : at + (3 + len) * 0 ≡ at = omega arith in
    rw (ap (λ k. is_field (field_at plan k) tag len) (sym here) ∙ e, run)
run_is (suc n) zero plan at tag len l h e = absurd (omega arith)
run_is (suc n) (suc turns) plan at tag len l h e =
    let here : at + (3 + len) * 0 ≡ at = omega arith in
    let first : is_field (field_at plan at) tag len ≡ true = is_field_lem (field_at plan at) tag len (ap (field_at plan) (sym here) ∙ h 0 (omega arith)) in
    rw (first, run)
    (ap suc
    (run_is n turns plan (at + (3 + len)) tag len (omega arith)
    (λ i k. ap (field_at plan) (next_member at (3 + len) i) ∙ h (suc i) (omega arith))
    (ap (λ k. is_field (field_at plan k) tag len) (next_member at (3 + len) n) ∙ e)))

-- a row from an offset on, cut behind so many bytes
cut_at : (plan : List ℕ) (at n : ℕ) → drop at plan ≡ take n (drop at plan) ++ drop (at + n) plan
cut_at plan at n = sym (take-append-drop n (drop at plan)) ∙ ap (λ (l : List ℕ). take n (drop at plan) ++ l) (drop-drop n at plan)

-- What is found right stands in the plan.
module _ {A : Type 0} (kind : Kind A) (plan : List ℕ) (bytes : AreBytes plan) (at : ℕ) (head : Form) (front : List ℕ)
    (stands : field_at plan at ≡ Whole head.tag (content_length head) → take (size_of head) (drop at plan) ≡ front) where
  members_then : (n : ℕ) → n ≡ run (length plan) plan (at + size_of head) kind.form.tag (content_length kind.form)
      → drop (at + size_of head) plan
      ≡ members_bytes kind.bytes (members_from kind.read (size_of kind.form) plan (at + size_of head) n)
      ++ drop (at + size_of head + n * size_of kind.form) plan
  members_then n e =
      cut_at plan (at + size_of head) (size_of kind.form * n)
      ∙ ap₂ (λ (l : List ℕ) (k : ℕ). l ++ drop (at + size_of head + k) plan)
      (members_stand kind plan bytes n (at + size_of head) (λ i l. run_each (length plan) plan (at + size_of head) kind.form.tag (content_length kind.form) i (subst (λ k. i < k) e l)))
      (mul_comm (size_of kind.form) n)

  pub part_stands : (x : Bool) → (part_by_forms x plan at head kind.form).right ≡ true
      → drop at plan
      ≡ cond x (front ++ members_bytes kind.bytes (members_from kind.read (size_of kind.form) plan (at + size_of head) (part_by_forms x plan at head kind.form).members)) []
      ++ drop (part_by_forms x plan at head kind.form).end plan
  unfolding part_of part_from
  part_stands false e = refl
  part_stands true e = go (is_field (field_at plan at) head.tag (content_length head)) refl e
    where
      found : is_field (field_at plan at) head.tag (content_length head) ≡ true
          → drop at plan
          ≡ front ++ members_bytes kind.bytes (members_from kind.read (size_of kind.form) plan (at + size_of head) (part_from plan at (content_length head) kind.form.tag (content_length kind.form)).members) ++ drop (part_from plan at (content_length head) kind.form.tag (content_length kind.form)).end plan
      found h =
          cut_at plan at (size_of head)
          ∙ ap₂ ◌++◌ (stands (is_field_true (field_at plan at) head.tag (content_length head) h)) (members_then (run (length plan) plan (at + size_of head) kind.form.tag (content_length kind.form)) refl)
          ∙ sym (append_assoc front _ _)

      go : (b : Bool) → is_field (field_at plan at) head.tag (content_length head) ≡ b
          → (cond b (part_from plan at (content_length head) kind.form.tag (content_length kind.form))
          (record { right = false; head = at; members = 0; end = at })).right
          ≡ true
          → drop at plan
          ≡ front ++ members_bytes kind.bytes (members_from kind.read (size_of kind.form) plan (at + size_of head) (cond b (part_from plan at (content_length head) kind.form.tag (content_length kind.form)) (record { right = false; head = at; members = 0; end = at })).members)
          ++ drop (cond b (part_from plan at (content_length head) kind.form.tag (content_length kind.form)) (record { right = false; head = at; members = 0; end = at })).end plan
      go false h e = let z : ◌≡◌ {A = ℕ} 0 1 = cc in absurd (omega arith)
      go true h e = found h

-- What is written is found right.
module _ {A : Type 0} (kind : Kind A) (plan pre : List ℕ) (head : Form) (values : List ℕ) (xs : List A) (post : List ℕ)
    (count : length head.widths ≡ length values) (small : content_length head < 2 ^ 16) (other : get_or post 0 0 ≡ kind.form.tag → ⊥) where
  module _ (e : plan ≡ pre ++ ((form_bytes head values ++ members_bytes kind.bytes xs) ++ post)) where
    head_first : plan ≡ pre ++ (form_bytes head values ++ (members_bytes kind.bytes xs ++ post))
    head_first = e ∙ ap (λ (l : List ℕ). pre ++ l) (append_assoc (form_bytes head values) (members_bytes kind.bytes xs) post)

    behind_head : plan ≡ pre ++ form_bytes head values ++ (members_bytes kind.bytes xs ++ post)
    behind_head = head_first ∙ sym (append_assoc pre (form_bytes head values) (members_bytes kind.bytes xs ++ post))

    behind_members : plan ≡ pre ++ form_bytes head values ++ members_bytes kind.bytes xs ++ post
    behind_members = behind_head ∙ sym (append_assoc (pre ++ form_bytes head values) (members_bytes kind.bytes xs) post)

    front_length : length (pre ++ form_bytes head values) ≡ length pre + size_of head
    front_length = omega (arith, length-append pre (form_bytes head values), length_form head values count)

    all_length : length (pre ++ form_bytes head values ++ members_bytes kind.bytes xs) ≡ length pre + size_of head + size_of kind.form * length xs
    all_length = omega (arith, length-append (pre ++ form_bytes head values) (members_bytes kind.bytes xs), front_length, length_members kind xs)

    head_found : field_at plan (length pre) ≡ Whole head.tag (content_length head)
    head_found =
        ap (λ (l : List ℕ). field_at l (length pre)) head_first
        ∙ form_found head values pre (members_bytes kind.bytes xs ++ post) count small

    member_there : (i : ℕ) → i < length xs
        → field_at plan (length pre + size_of head + size_of kind.form * i) ≡ Whole kind.form.tag (content_length kind.form)
    member_there i l =
        ap₂ field_at behind_members (ap (λ n. n + size_of kind.form * i) (sym front_length)) ∙ members_found kind xs (pre ++ form_bytes head values) post i l

    behind : get_or plan (length pre + size_of head + size_of kind.form * length xs) 0 ≡ get_or post 0 0
    behind =
        ap₂ (λ (l : List ℕ) (k : ℕ). get_or l k 0) behind_members (sym all_length ∙ sym (add-zero _))
        ∙ get_or-append-add (pre ++ form_bytes head values ++ members_bytes kind.bytes xs) post 0 0

    some : 1 ≤ size_of kind.form
    some = omega arith

    turns : length xs ≤ length plan
    turns =
        omega (arith, ap length behind_members, length-append (pre ++ form_bytes head values ++ members_bytes kind.bytes xs) post, all_length, mul-le-mul_left (length xs) some, mul_comm (size_of kind.form) (length xs))

    counted : run (length plan) plan (length pre + size_of head) kind.form.tag (content_length kind.form) ≡ length xs
    counted =
        run_is (length xs) (length plan) plan (length pre + size_of head) kind.form.tag (content_length kind.form) turns member_there
        (other_field plan (length pre + size_of head + size_of kind.form * length xs) kind.form.tag (content_length kind.form) (λ q. other (sym behind ∙ q)))

    ends : length pre + size_of head + length xs * size_of kind.form ≡ length (pre ++ (form_bytes head values ++ members_bytes kind.bytes xs))
    ends =
        omega (arith, all_length, mul_comm (size_of kind.form) (length xs), ap length (append_assoc pre (form_bytes head values) (members_bytes kind.bytes xs)))

    found_right : part_by_forms true plan (length pre) head kind.form
        ≡ record { right = true; head = length pre; members = length xs; end = length (pre ++ (form_bytes head values ++ members_bytes kind.bytes xs)) }
    unfolding part_of part_from
    found_right = rw (is_field_lem (field_at plan (length pre)) head.tag (content_length head) head_found, counted, ends)

    found_members : (none : A) → ((i : ℕ) → i < length xs → kind.Fits (get_or xs i none))
        → members_from kind.read (size_of kind.form) plan (length pre + size_of head) (length xs) ≡ xs
    found_members none h =
        ap₂ (λ (l : List ℕ) (k : ℕ). members_from kind.read (size_of kind.form) l k (length xs)) behind_members (sym front_length)
        ∙ members_back kind xs (pre ++ form_bytes head values) post none h

  found_absent : part_by_forms false plan (length pre) head kind.form ≡ record { right = true; head = length pre; members = 0; end = length (pre ++ []) }
  unfolding part_of
  found_absent = rw (append-nil pre)

  module _ (x : Bool) (e : plan ≡ pre ++ (cond x (form_bytes head values ++ members_bytes kind.bytes xs) [] ++ post)) where
    pub part_written : part_by_forms x plan (length pre) head kind.form
        ≡ record { right = true; head = length pre; members = cond x (length xs) 0; end = length (pre ++ cond x (form_bytes head values ++ members_bytes kind.bytes xs) []) }
    part_written = go x e
      where
        go : (x : Bool) → plan ≡ pre ++ (cond x (form_bytes head values ++ members_bytes kind.bytes xs) [] ++ post)
            → part_by_forms x plan (length pre) head kind.form
            ≡ record { right = true; head = length pre; members = cond x (length xs) 0; end = length (pre ++ cond x (form_bytes head values ++ members_bytes kind.bytes xs) []) }
        go true q = found_right q
        go false q = found_absent

    module _ (present : x ≡ true) where
      there : plan ≡ pre ++ ((form_bytes head values ++ members_bytes kind.bytes xs) ++ post)
      there = subst (λ (y : Bool). plan ≡ pre ++ (cond y (form_bytes head values ++ members_bytes kind.bytes xs) [] ++ post)) present e

      pub head_written : plan ≡ pre ++ form_bytes head values ++ (members_bytes kind.bytes xs ++ post)
      head_written = behind_head there

      pub members_written : (none : A) → ((i : ℕ) → i < length xs → kind.Fits (get_or xs i none))
          → members_from kind.read (size_of kind.form) plan (length pre + size_of head) (length xs) ≡ xs
      members_written = found_members there
