-- Sums and greatest values over the numbers below n.
use Rattle.std.specs.Prelude.{ℕ, zero, suc, ◌+◌, max, List, get_or}

unfoldable pub sum_over : ℕ → (ℕ → ℕ) → ℕ
sum_over zero f = 0
sum_over (suc n) f = sum_over n f + f n

-- the sum of so many numbers of a list after the first i
unfoldable pub sum_after : List ℕ → ℕ → ℕ → ℕ
sum_after values i count = sum_over count (λ k. get_or values (i + k) 0)

unfoldable pub greatest_over : ℕ → (ℕ → ℕ) → ℕ
greatest_over zero f = 0
greatest_over (suc n) f = max (greatest_over n f) (f n)
