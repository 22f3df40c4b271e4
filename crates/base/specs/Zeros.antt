-- Lists of zeros, and lists that hold zeros after their first n elements.
use Rattle.std.specs.Prelude.{◌≡◌, refl, List, ℕ, zero, suc, ◌≤◌, ◌<◌, length, get_or, replicate}
use Rattle.std.proofs.Common.{sym, ◌∙◌, arith, ext_get_or}
use Rattle.std.proofs.Math.Decide.{dec_lt}

pub zeros_at : (n k : ℕ) → get_or {A = ℕ} (replicate n 0) k 0 ≡ 0
zeros_at zero k = refl
zeros_at (suc n) zero = refl
zeros_at (suc n) (suc k) = zeros_at n k

-- two lists of one length that agree on their first n elements and hold zeros after them
pub padded_same : (n : ℕ) (xs ys : List ℕ) → length xs ≡ length ys → ((k : ℕ) → k < n → get_or xs k 0 ≡ get_or ys k 0)
    → ((k : ℕ) → n ≤ k → get_or xs k 0 ≡ 0) → ((k : ℕ) → n ≤ k → get_or ys k 0 ≡ 0) → xs ≡ ys
padded_same n xs ys len on zx zy = ext_get_or 0 xs ys len (λ k h. elim (dec_lt k n) [ yes l ↦ on k l | no l ↦ zx k (omega arith) ∙ sym (zy k (omega arith)) ])
