-- The bytes of members one after another, by lists: of two lists one behind the other, and of a list that is given by its elements.
use Rattle.std.specs.Prelude.{ℕ, zero, suc, ◌≡◌, refl, List, [], ◌∷◌, ◌++◌}
use Rattle.std.proofs.Common.{sym, ap, ◌∙◌, append_assoc, append-nil}
use Rattle.base.specs.Listed.{listed}
use Rattle.field.specs.Members.{members_to}
use Rattle.rules.specs.Plan.{members_bytes}

-- the members of two lists one behind the other
pub members_append : {A : Type 0} (bytes : A → List ℕ) (xs ys : List A) → members_bytes bytes (xs ++ ys) ≡ members_bytes bytes xs ++ members_bytes bytes ys
unfolding members_bytes
members_append bytes [] ys = refl
members_append bytes (x ∷ xs) ys =
    ap (λ (l : List ℕ). bytes x ++ l) (members_append bytes xs ys) ∙ sym (append_assoc (bytes x) (members_bytes bytes xs) (members_bytes bytes ys))

members_one : {A : Type 0} (bytes : A → List ℕ) (x : A) → members_bytes bytes (x ∷ []) ≡ bytes x
unfolding members_bytes
members_one bytes x = append-nil (bytes x)

members_last : {A : Type 0} (bytes : A → List ℕ) (xs : List A) (x : A) → members_bytes bytes (xs ++ (x ∷ [])) ≡ members_bytes bytes xs ++ bytes x
members_last bytes xs x = members_append bytes xs (x ∷ []) ∙ ap (λ (l : List ℕ). members_bytes bytes xs ++ l) (members_one bytes x)

pub members_listed : {A : Type 0} (bytes : A → List ℕ) (n : ℕ) (member : ℕ → A) → members_bytes bytes (listed n member) ≡ members_to bytes member n
unfolding listed members_to members_bytes
members_listed bytes zero member = refl
members_listed bytes (suc n) member =
    members_last bytes (listed n member) (member n) ∙ ap (λ (l : List ℕ). l ++ bytes (member n)) (members_listed bytes n member)
