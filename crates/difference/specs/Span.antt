-- No value of a least solution is large. Let `reach i` be at least the `up` of every constraint from variable i. Where some value is above v and
-- no variable i has x i ≤ v < x i + reach i, the values above v could all be one less. So these intervals cover every number below each value,
-- and a count of the numbers covered shows that x j + reach j is at most the sum of the reaches.
use Rattle.std.specs.Prelude.{◌≡◌, ◌⊎◌, ℕ, zero, suc, ◌+◌, ◌-◌, ◌≤◌, ◌<◌, min}
use Rattle.std.proofs.Common.{inl, inr, arith}
use Rattle.std.proofs.Math.Decide.{dec_le, dec_lt}
use Rattle.difference.specs.System.{System, Solves, Inside}
use Rattle.base.specs.Sums.{sum_over}
use Rattle.base.specs.SumLaws.{sum_le, sum_part, sum_swap, sum_least}
use Rattle.difference.specs.Bounded.{all_or}

-- a, one less where it is above v
lowered : ℕ → ℕ → ℕ
lowered v a = a - min 1 (a - v)

crossing : (v a b up down : ℕ) → a + up ≤ b + down → lowered v b + down < lowered v a + up → (a ≤ v) × (v < a + up)
unfolding lowered
crossing v a b up down h s = go (dec_le a v)
  where
    go : Dec (a ≤ v) → (a ≤ v) × (v < a + up)
    go (yes l) = omega arith
    go (no l) = absurd (omega arith)

lowered_less : (v a : ℕ) → v < a → lowered v a < a
unfolding lowered
lowered_less v a l = omega arith

-- 1 where a ≤ v < a + w, else 0
covers : ℕ → ℕ → ℕ → ℕ
covers a w v = min 1 (a + w - v) - min 1 (a - v)

covers_one : (a w v : ℕ) → a ≤ v → v < a + w → covers a w v ≡ 1
unfolding covers
covers_one a w v h l = omega arith

covers_before : (a w v : ℕ) → v < a → covers a w v ≡ 0
unfolding covers
covers_before a w v l = omega arith

covers_after : (a w v : ℕ) → a + w ≤ v → covers a w v ≡ 0
unfolding covers
covers_after a w v l = omega arith

-- The numbers below m that an interval covers.
count_step : (a w m c : ℕ) → c + min m a ≡ min m (a + w) → c + covers a w m + min (suc m) a ≡ min (suc m) (a + w)
count_step a w m c h = go (dec_lt m a) (dec_lt m (a + w))
  where
    go : Dec (m < a) → Dec (m < a + w) → c + covers a w m + min (suc m) a ≡ min (suc m) (a + w)
    go (yes l) q = omega (arith, covers_before a w m l)
    go (no l) (yes q) = omega (arith, covers_one a w m (omega arith) q)
    go (no l) (no q) = omega (arith, covers_after a w m (omega arith))

count_covered : (a w m : ℕ) → sum_over m (covers a w) + min m a ≡ min m (a + w)
unfolding sum_over
count_covered a w zero = omega arith
count_covered a w (suc m) = count_step a w m (sum_over m (covers a w)) (count_covered a w m)

covered_most : (a w m : ℕ) → sum_over m (covers a w) ≤ w
covered_most a w m = omega (arith, count_covered a w m)

module _ (S : System) (inside : Inside S) (x reach : ℕ → ℕ) (solves : Solves S x)
    (least : (y : ℕ → ℕ) → Solves S y → (j : ℕ) → j < S.variables → x j ≤ y j)
    (reaches : (k : ℕ) → k < S.count → S.up k ≤ reach (S.from k)) where
  covered : (j v : ℕ) → j < S.variables → v < x j → (i : ℕ) × (i < S.variables) × (x i ≤ v) × (v < x i + reach i)
  covered j v l h = go (all_or S.count (λ k. lowered v (x (S.from k)) + S.up k) (λ k. lowered v (x (S.to k)) + S.down k))
    where
      go : ((k : ℕ) × (k < S.count) × (lowered v (x (S.to k)) + S.down k < lowered v (x (S.from k)) + S.up k)) ⊎ Solves S (λ i. lowered v (x i))
          → (i : ℕ) × (i < S.variables) × (x i ≤ v) × (v < x i + reach i)
      go (inl w) =
          let f = crossing v _ _ _ _ (solves w.0 w.1) w.2 in
          (S.from w.0, inside.from_in w.0 w.1, f.0, omega (arith, f.1, reaches w.0 w.1))
      go (inr s) = absurd (omega (arith, least (λ i. lowered v (x i)) s j l, lowered_less v (x j) h))

  number_covered : (j v : ℕ) → j < S.variables → v < x j + reach j → 1 ≤ sum_over S.variables (λ i. covers (x i) (reach i) v)
  number_covered j v l h = go (dec_lt v (x j))
    where
      part : (i : ℕ) → i < S.variables → x i ≤ v → v < x i + reach i → 1 ≤ sum_over S.variables (λ i. covers (x i) (reach i) v)
      part i q a b = omega (arith, covers_one (x i) (reach i) v a b, sum_part S.variables (λ i. covers (x i) (reach i) v) i q)

      go : Dec (v < x j) → 1 ≤ sum_over S.variables (λ i. covers (x i) (reach i) v)
      go (yes q) = let w = covered j v l q in part w.0 w.1 w.2 w.3
      go (no q) = part j l (omega arith) h

  pub span : (j : ℕ) → j < S.variables → x j + reach j ≤ sum_over S.variables reach
  span j l =
      omega (
        arith,
        sum_least (x j + reach j) (λ v. sum_over S.variables (λ i. covers (x i) (reach i) v)) (λ v q. number_covered j v l q),
        sum_swap (x j + reach j) S.variables (λ i. covers (x i) (reach i)),
        sum_le S.variables (λ i. sum_over (x j + reach j) (covers (x i) (reach i))) reach (λ i q. covered_most (x i) (reach i) (x j + reach j)),
      )
