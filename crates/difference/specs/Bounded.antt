-- A bounded search: f is at most g everywhere below m, or there is a place where it is not.
use Rattle.std.specs.Prelude.{◌≡◌, ◌⊎◌, ℕ, zero, suc, ◌≤◌, ◌<◌}
use Rattle.std.proofs.Common.{inl, inr, arith}
use Rattle.std.proofs.Math.Decide.{dec_le, ℕ_discrete}

pub all_or : (m : ℕ) (f g : ℕ → ℕ) → ((k : ℕ) × (k < m) × (g k < f k)) ⊎ ((k : ℕ) → k < m → f k ≤ g k)
all_or zero f g = inr (λ k l. omega arith)
all_or (suc m) f g = go (dec_le (f m) (g m)) (all_or m f g)
  where
    last : f m ≤ g m → ((k : ℕ) → k < m → f k ≤ g k) → (k : ℕ) → k < suc m → f k ≤ g k
    last h rest k l = at (ℕ_discrete k m)
      where
        at : Dec (k ≡ m) → f k ≤ g k
        at (yes e) = rw e h
        at (no ne) = rest k (omega arith)

    go : Dec (f m ≤ g m) → ((k : ℕ) × (k < m) × (g k < f k)) ⊎ ((k : ℕ) → k < m → f k ≤ g k)
        → ((k : ℕ) × (k < suc m) × (g k < f k)) ⊎ ((k : ℕ) → k < suc m → f k ≤ g k)
    go (no h) rest = inl (m, omega arith, omega arith)
    go (yes h) (inl w) = inl (w.0, omega arith, w.2)
    go (yes h) (inr rest) = inr (last h rest)
