-- A list that is given by its elements, and its laws: its length, its elements, lists of equal elements, the first elements of another list.
use Rattle.std.specs.Prelude.{◌≡◌, refl, List, [], ◌∷◌, ◌++◌, ℕ, zero, suc, ◌+◌, ◌≤◌, ◌<◌, length, get_or, take}
use Rattle.std.proofs.Common.{sym, ap, ◌∙◌, arith, length-append}
use Rattle.std.proofs.Math.Decide.{ℕ_discrete}
use Rattle.std.proofs.Math.ListN.{get_or-append}
use Rattle.std.proofs.lemmas.List.{get_or_at, ext_get_or, get_or-take, length-take-le}

-- g 0, g 1, .. g (n - 1)
unfoldable pub listed : {A : Type 0} → ℕ → (ℕ → A) → List A
listed zero g = []
listed (suc n) g = listed n g ++ (g n ∷ [])

pub listed_length : {A : Type 0} (n : ℕ) (g : ℕ → A) → length (listed n g) ≡ n
unfolding listed
listed_length zero g = refl
listed_length (suc n) g = length-append (listed n g) (g n ∷ []) ∙ ap (λ (k : ℕ). k + 1) (listed_length n g) ∙ one
  where
    one : n + 1 ≡ suc n
    one = omega arith

pub listed_at : {A : Type 0} (n : ℕ) (g : ℕ → A) (i : ℕ) (x : A) → i < n → get_or (listed n g) i x ≡ g i
unfolding listed
listed_at zero g i x l = absurd (omega arith)
listed_at (suc n) g i x l = go (ℕ_discrete i n) (listed_at n g i x)
  where
    go : Dec (i ≡ n) → (i < n → get_or (listed n g) i x ≡ g i) → get_or (listed n g ++ (g n ∷ [])) i x ≡ g i
    go (yes e) h = get_or_at (listed n g) (g n) [] x i (listed_length n g ∙ sym e) ∙ ap g (sym e)
    go (no e) h = get_or-append (listed n g) (g n ∷ []) x i (rw (listed_length n g) (omega arith)) ∙ h (omega arith)

pub listed_same : {A : Type 0} (n : ℕ) (g h : ℕ → A) → ((i : ℕ) → i < n → g i ≡ h i) → listed n g ≡ listed n h
unfolding listed
listed_same zero g h e = refl
listed_same (suc n) g h e = rw (listed_same n g h (λ i l. e i (omega arith)), e n (omega arith))

pub listed_taken : {A : Type 0} (n : ℕ) (xs : List A) (z : A) → n ≤ length xs → listed n (λ k. get_or xs k z) ≡ take n xs
listed_taken n xs z l =
    ext_get_or z (listed n (λ k. get_or xs k z)) (take n xs) (listed_length n (λ k. get_or xs k z) ∙ sym (length-take-le n xs l))
    (λ k h. listed_at n (λ j. get_or xs j z) k z (within k h) ∙ sym (get_or-take n xs k z (within k h)))
  where
    within : (k : ℕ) → k < length (listed n (λ j. get_or xs j z)) → k < n
    within k h = omega (arith, h, listed_length n (λ j. get_or xs j z))
