-- Members of one size, stored one behind the other: the bytes of the first n of them, and the loop that stores them.
use Rattle.std.specs.Prelude.{ℕ, zero, suc, ◌+◌, ◌*◌, ◌≤◌, ◌<◌, ◌≡◌, refl, List, [], ◌++◌, length}
use Rattle.std.proofs.Common.{sym, ap, ◌∙◌, length-append, arith, add-one, mul-suc, mul-zero}
use Rattle.field.specs.Put.{put, put_none, length_put, joined}

-- the bytes of the first n members
unfoldable pub members_to : {A : Type 0} → (A → List ℕ) → (ℕ → A) → ℕ → List ℕ
members_to bytes member zero = []
members_to bytes member (suc n) = members_to bytes member n ++ bytes (member n)

-- members of one size
pub length_members : {A : Type 0} (bytes : A → List ℕ) (member : ℕ → A) (size : ℕ) → ((i : ℕ) → length (bytes (member i)) ≡ size) → (n : ℕ)
    → length (members_to bytes member n) ≡ size * n
unfolding members_to
length_members bytes member size each zero = sym (mul-zero size)
length_members bytes member size each (suc n) =
    length-append (members_to bytes member n) (bytes (member n)) ∙ omega (arith, length_members bytes member size each n, each n, more)
  where
    more : size * suc n ≡ size * n + size
    more = mul-suc size n

-- The loops: the first i members are stored.
pub record Storing {A : Type 0} (bytes : A → List ℕ) (member : ℕ → A) (before after : List ℕ) (at n i : ℕ) : Type 0 where
  pub within : i ≤ n
  pub long : length after ≡ length before
  pub stored : after ≡ put before at (members_to bytes member i)

module _ {A : Type 0} (bytes : A → List ℕ) (member : ℕ → A) where
  pub storing_none : (d : List ℕ) (at n : ℕ) → Storing bytes member d d at n 0
  unfolding members_to
  storing_none d at n = record { within = omega arith; long = refl; stored = put_none d at }

  members_next : (n : ℕ) → members_to bytes member n ++ bytes (member n) ≡ members_to bytes member (n + 1)
  unfolding members_to
  members_next n = rw (add-one n)

  pub storing_more : (size : ℕ) → ((i : ℕ) → length (bytes (member i)) ≡ size) → (d₀ d d₁ : List ℕ) (at n i : ℕ) → Storing bytes member d₀ d at n i → i < n
      → d₁ ≡ put d (at + size * i) (bytes (member i)) → Storing bytes member d₀ d₁ at n (i + 1)
  storing_more size each d₀ d d₁ at n i s l e =
      record {
        within = omega arith;
        long = ap length e ∙ length_put d (at + size * i) (bytes (member i)) ∙ s.long;
        stored =
            joined d₀ d d₁ at (at + size * i) (members_to bytes member i) (bytes (member i)) s.stored e
            (omega (arith, length_members bytes member size each i))
            ∙ ap (put d₀ at) (members_next i);
      }

  pub storing_all : (d₀ d : List ℕ) (at n i : ℕ) → Storing bytes member d₀ d at n i → n ≤ i → d ≡ put d₀ at (members_to bytes member n)
  storing_all d₀ d at n i s h = s.stored ∙ ap (λ (k : ℕ). put d₀ at (members_to bytes member k)) all
    where
      all : i ≡ n
      all = let w = s.within in omega arith
