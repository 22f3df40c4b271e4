-- Laws of the rounds: a round keeps the length, raises, stays below every solution, meets each constraint one round late and leaves a solution as it is.
use Rattle.std.specs.Prelude.{◌≡◌, List, length, set}
use Rattle.std.proofs.Math.Path.{refl, ap}
use Rattle.std.proofs.Common.{◌∙◌, get_or-set_same, get_or-set_other}
use Prim.Native.Nat.{ℕ, zero, suc, ◌+◌, ◌-◌, ◌*◌, ◌≤◌, ◌<◌}
use Rattle.std.proofs.Math.Nat.{suc-mul}
use native.Mathlib.Omega.{arith}
use Rattle.std.proofs.Math.Decide.{dec_lt, ℕ_discrete}
use Rattle.std.proofs.Math.ListN.{length-set, length-replicate}
use Rattle.std.proofs.Math.Seq.{set-get_or, set_out}
use Rattle.base.specs.Zeros.{zeros_at}
use Rattle.difference.specs.System.{System, Solves, Inside, value, raised, relax, relaxed, rounds}
use Rattle.difference.specs.Caps.{most_constraints, most_number, round_cap}
use Rattle.difference.specs.Gap.{gap}

-- what a store does to a vector, at a place that may be out of it
value_set : (P : ℕ → Type 0) (t : List ℕ) (i v j : ℕ) → (j ≡ i → i < length t → P v) → P (value t j) → P (value (set t i v) j)
value_set P t i v j new old = go (ℕ_discrete j i) (dec_lt i (length t))
  where
    go : Dec (j ≡ i) → Dec (i < length t) → P (value (set t i v) j)
    go (no ne) d = rw (get_or-set_other t i j v 0 ne) old
    go (yes e) (yes l) = rw (e, get_or-set_same t i v 0 l) (new e l)
    go (yes e) (no h) = rw (set_out t i v (omega arith)) old

module _ (S : System) where
  relax_length : (k : ℕ) (t : List ℕ) → length (relax S k t) ≡ length t
  unfolding relax
  relax_length k t = simp length-set

  relax_rise : (k : ℕ) (t : List ℕ) (j : ℕ) → value t j ≤ value (relax S k t) j
  unfolding relax
  relax_rise k t j = value_set (λ v. value t j ≤ v) t (S.to k) (raised S k t) j (λ e l. rw e (omega arith)) (omega arith)

  relax_below : (k : ℕ) (t : List ℕ) (y : ℕ → ℕ) → y (S.from k) + S.up k ≤ y (S.to k) + S.down k
      → ((j : ℕ) → value t j ≤ y j) → (j : ℕ) → value (relax S k t) j ≤ y j
  unfolding relax
  relax_below k t y c h j =
      value_set (λ v. v ≤ y j) t (S.to k) (raised S k t) j (λ e l. rw e (omega (arith, h (S.to k), h (S.from k)))) (h j)

  relax_push : (k : ℕ) (t : List ℕ) → S.to k < length t → value t (S.from k) + S.up k ≤ value (relax S k t) (S.to k) + S.down k
  unfolding relax
  relax_push k t l = rw (get_or-set_same t (S.to k) (raised S k t) 0 l) (omega arith)

  relax_bound : (k : ℕ) (t : List ℕ) (b c : ℕ) → S.up k ≤ c → ((j : ℕ) → value t j ≤ b) → (j : ℕ) → value (relax S k t) j ≤ b + c
  unfolding relax
  relax_bound k t b c u h j =
      value_set (λ v. v ≤ b + c) t (S.to k) (raised S k t) j (λ e l. omega (arith, h (S.to k), h (S.from k))) (omega (arith, h j))

  pub relaxed_length : (k : ℕ) (t : List ℕ) → length (relaxed S k t) ≡ length t
  unfolding relaxed
  relaxed_length zero t = refl
  relaxed_length (suc k) t = relax_length k (relaxed S k t) ∙ relaxed_length k t

  pub relaxed_rise : (k : ℕ) (t : List ℕ) (j : ℕ) → value t j ≤ value (relaxed S k t) j
  unfolding relaxed
  relaxed_rise zero t j = omega arith
  relaxed_rise (suc k) t j = omega (arith, relax_rise k (relaxed S k t) j, relaxed_rise k t j)

  pub relaxed_below : (k : ℕ) (t : List ℕ) (y : ℕ → ℕ) → k ≤ S.count → Solves S y
      → ((j : ℕ) → value t j ≤ y j) → (j : ℕ) → value (relaxed S k t) j ≤ y j
  unfolding relaxed
  relaxed_below zero t y l s h j = h j
  relaxed_below (suc k) t y l s h j = relax_below k (relaxed S k t) y (s k (omega arith)) (relaxed_below k t y (omega arith) s h) j

  pub relaxed_push : Inside S → (n : ℕ) (t : List ℕ) → n ≤ S.count → length t ≡ S.variables
      → (k : ℕ) → k < n → value t (S.from k) + S.up k ≤ value (relaxed S n t) (S.to k) + S.down k
  unfolding relaxed
  relaxed_push i zero t l e k q = omega arith
  relaxed_push i (suc n) t l e k q = go (ℕ_discrete k n) (λ q'. relaxed_push i n t (omega arith) e k q')
    where
      go : Dec (k ≡ n) → (k < n → value t (S.from k) + S.up k ≤ value (relaxed S n t) (S.to k) + S.down k)
          → value t (S.from k) + S.up k ≤ value (relax S n (relaxed S n t)) (S.to k) + S.down k
      go (yes w) ih =
          rw w (omega (arith, relax_push n (relaxed S n t) (omega (arith, i.to_in n (omega arith), relaxed_length n t)), relaxed_rise n t (S.from n)))
      go (no ne) ih = omega (arith, ih (omega arith), relax_rise n (relaxed S n t) (S.to k))

  pub relaxed_bound : (n : ℕ) (t : List ℕ) (b c : ℕ) → ((k : ℕ) → k < n → S.up k ≤ c) → ((j : ℕ) → value t j ≤ b)
      → (j : ℕ) → value (relaxed S n t) j ≤ b + n * c
  unfolding relaxed
  relaxed_bound zero t b c u h j = omega (arith, h j)
  relaxed_bound (suc n) t b c u h j =
      omega (arith, suc-mul n c, relax_bound n (relaxed S n t) (b + n * c) c (u n (omega arith)) (relaxed_bound n t b c (λ k l. u k (omega arith)) h) j)

  -- Where a constraint holds, the values stay; and where the first k constraints hold.
  pub relax_still : (k : ℕ) (t : List ℕ) → value t (S.from k) + S.up k ≤ value t (S.to k) + S.down k → relax S k t ≡ t
  unfolding relax
  relax_still k t h = ap (set t (S.to k)) same_value ∙ set-get_or t (S.to k) 0
    where
      same_value : raised S k t ≡ value t (S.to k)
      same_value = omega arith

  pub relaxed_still : (k : ℕ) (t : List ℕ) → ((j : ℕ) → j < k → value t (S.from j) + S.up j ≤ value t (S.to j) + S.down j) → relaxed S k t ≡ t
  unfolding relaxed
  relaxed_still zero t s = refl
  relaxed_still (suc k) t s = rw (relaxed_still k t (λ j l. s j (omega arith))) (relax_still k t (s k (omega arith)))

  pub rounds_length : (r : ℕ) → length (rounds S r) ≡ S.variables
  unfolding rounds
  rounds_length zero = length-replicate S.variables 0
  rounds_length (suc r) = relaxed_length S.count (rounds S r) ∙ rounds_length r

  pub rounds_below : (y : ℕ → ℕ) → Solves S y → (r j : ℕ) → value (rounds S r) j ≤ y j
  unfolding rounds
  rounds_below y s zero j = omega (arith, zeros_at S.variables j)
  rounds_below y s (suc r) j = relaxed_below S.count (rounds S r) y (omega arith) s (rounds_below y s r) j

  rounds_rise : (r j : ℕ) → value (rounds S r) j ≤ value (rounds S (suc r)) j
  unfolding rounds
  rounds_rise r j = relaxed_rise S.count (rounds S r) j

  rounds_push : Inside S → (r k : ℕ) → k < S.count → value (rounds S r) (S.from k) + S.up k ≤ value (rounds S (suc r)) (S.to k) + S.down k
  unfolding rounds
  rounds_push i r k l = relaxed_push i S.count (rounds S r) (omega arith) (rounds_length r) k l

  -- Where there is a solution at all, one round fewer than there are variables leads to one.
  pub rounds_solve : Inside S → (y : ℕ → ℕ) → Solves S y → Solves S (value (rounds S (S.variables - 1)))
  rounds_solve i y s = gap S i (λ r j. value (rounds S r) j) rounds_rise rounds_below (rounds_push i) y s

  pub rounds_bound : S.count ≤ most_constraints → ((k : ℕ) → k < S.count → S.up k ≤ most_number) → (r j : ℕ) → value (rounds S r) j ≤ r * round_cap
  unfolding rounds
  rounds_bound few u zero j = omega (arith, zeros_at S.variables j)
  rounds_bound few u (suc r) j =
      omega (arith, relaxed_bound S.count (rounds S r) (r * round_cap) most_number u (rounds_bound few u r) j)
