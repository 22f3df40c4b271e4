-- An element stands among those of a list; for numbers there is a test, which decides it.
use Rattle.std.specs.Prelude.{ℕ, ◌≡◌, refl, Bool, true, false, ◌||◌, List, [], ◌∷◌, ◌⊎◌, eqb}
use Rattle.std.proofs.Common.{sym, ◌∙◌, true≢false, inl, inr, eqb-true, eq-eqb}
use Rattle.base.specs.Branch.{neither}

unfoldable pub Among : {A : Type 0} → A → List A → Type 0
Among a [] = ⊥
Among a (b ∷ list) = (a ≡ b) ⊎ Among a list

unfoldable pub is_among : ℕ → List ℕ → Bool
is_among n [] = false
is_among n (m ∷ numbers) = eqb m n || is_among n numbers

pub true_among : (n : ℕ) (numbers : List ℕ) → is_among n numbers ≡ true → Among n numbers
unfolding Among is_among
true_among n [] e = absurd (true≢false (sym e))
true_among n (m ∷ numbers) e = go (eqb m n) refl e (true_among n numbers)
  where
    go : (b : Bool) → eqb m n ≡ b → (b || is_among n numbers) ≡ true → (is_among n numbers ≡ true → Among n numbers) → (n ≡ m) ⊎ Among n numbers
    go true p q later = inl (sym (eqb-true m n p))
    go false p q later = inr (later q)

pub false_not_among : (n : ℕ) (numbers : List ℕ) → is_among n numbers ≡ false → Among n numbers → ⊥
unfolding Among is_among
false_not_among n [] e a = a
false_not_among n (m ∷ numbers) e (inl h) = true≢false (sym (eq-eqb m n (sym h)) ∙ (neither (eqb m n) (is_among n numbers) e).0)
false_not_among n (m ∷ numbers) e (inr a) = false_not_among n numbers (neither (eqb m n) (is_among n numbers) e).1 a

-- of a number that is among them the test says so
pub among_true : (n : ℕ) (numbers : List ℕ) → Among n numbers → is_among n numbers ≡ true
among_true n numbers a = go (is_among n numbers) refl
  where
    go : (b : Bool) → is_among n numbers ≡ b → b ≡ true
    go true e = refl
    go false e = absurd (false_not_among n numbers e a)

-- a number that cannot be missing from a list is among its numbers
pub among_else : (n : ℕ) (numbers : List ℕ) → ((Among n numbers → ⊥) → ⊥) → Among n numbers
among_else n numbers h = go (is_among n numbers) refl
  where
    go : (b : Bool) → is_among n numbers ≡ b → Among n numbers
    go true e = true_among n numbers e
    go false e = absurd (h (false_not_among n numbers e))
