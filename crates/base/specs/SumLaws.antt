-- Sums and greatest values over the numbers below n: split in two, of equal terms, of terms that are bounded or compared, of sums.
use Rattle.std.specs.Prelude.{◌≡◌, refl, List}
use Rattle.std.proofs.Common.{sym, add_assoc, add-mul, add-one}
use Rattle.std.proofs.Math.Path.{ap}
use Prim.Native.Nat.{ℕ, zero, suc, ◌+◌, ◌-◌, ◌*◌, ◌≤◌, ◌<◌, max}
use Rattle.std.proofs.Math.Decide.{ℕ_discrete}
use native.Mathlib.Omega.{arith}
use Rattle.std.proofs.Math.ListN.{get_or}
use Rattle.base.specs.Sums.{sum_over, sum_after, greatest_over}

pub sum_split : (a c : ℕ) (f : ℕ → ℕ) → sum_over (a + c) f ≡ sum_over a f + sum_over c (λ k. f (a + k))
unfolding sum_over
sum_split a zero f =
    let e : a + 0 ≡ a = omega arith in
    rw e (omega arith)
sum_split a (suc c) f =
    let e : a + suc c ≡ suc (a + c) = omega arith in
    rw e (omega (arith, sum_split a c f))

pub sum_same : (n : ℕ) (f g : ℕ → ℕ) → ((k : ℕ) → k < n → f k ≡ g k) → sum_over n f ≡ sum_over n g
unfolding sum_over
sum_same zero f g h = refl
sum_same (suc n) f g h = omega (arith, sum_same n f g (λ k l. h k (omega arith)), h n (omega arith))

pub sum_const : (n c : ℕ) (f : ℕ → ℕ) → ((k : ℕ) → k < n → f k ≡ c) → sum_over n f ≡ n * c
unfolding sum_over
sum_const zero c f h = omega arith
sum_const (suc n) c f h = omega (arith, sum_const n c f (λ k l. h k (omega arith)), h n (omega arith))

-- the first term apart
pub sum_first : (n : ℕ) (f : ℕ → ℕ) → sum_over (suc n) f ≡ f 0 + sum_over n (λ k. f (suc k))
unfolding sum_over
sum_first zero f = omega arith
sum_first (suc n) f = omega (arith, sum_first n f)

pub sum_most : (n c : ℕ) (f : ℕ → ℕ) → ((k : ℕ) → k < n → f k ≤ c) → sum_over n f ≤ n * c
unfolding sum_over
sum_most zero c f h = omega arith
sum_most (suc n) c f h = omega (arith, sum_most n c f (λ k l. h k (omega arith)), h n (omega arith))

pub sum_least : (n : ℕ) (f : ℕ → ℕ) → ((k : ℕ) → k < n → 1 ≤ f k) → n ≤ sum_over n f
unfolding sum_over
sum_least zero f h = omega arith
sum_least (suc n) f h = omega (arith, sum_least n f (λ k l. h k (omega arith)), h n (omega arith))

-- of terms that are at most others, and one of them smaller
pub sum_le : (n : ℕ) (f g : ℕ → ℕ) → ((k : ℕ) → k < n → f k ≤ g k) → sum_over n f ≤ sum_over n g
unfolding sum_over
sum_le zero f g h = omega arith
sum_le (suc n) f g h = omega (arith, h n (omega arith), sum_le n f g (λ k l. h k (omega arith)))

pub sum_lt : (n : ℕ) (f g : ℕ → ℕ) → ((k : ℕ) → k < n → f k ≤ g k) → (k : ℕ) → k < n → f k < g k → sum_over n f < sum_over n g
unfolding sum_over
sum_lt zero f g h k l s = omega arith
sum_lt (suc n) f g h k l s = go (ℕ_discrete k n) (λ q. sum_lt n f g (λ j p. h j (omega arith)) k q s)
  where
    go : Dec (k ≡ n) → (k < n → sum_over n f < sum_over n g) → sum_over n f + f n < sum_over n g + g n
    go (yes e) ih = omega (arith, sum_le n f g (λ j p. h j (omega arith)), rw e at s)
    go (no ne) ih = omega (arith, h n (omega arith), ih (omega arith))

-- of terms with a common factor
pub sum_times : (n c : ℕ) (f : ℕ → ℕ) → sum_over n (λ k. f k * c) ≡ sum_over n f * c
unfolding sum_over
sum_times zero c f = omega arith
sum_times (suc n) c f = omega (arith, sum_times n c f, add-mul (sum_over n f) (f n) c)

-- a term is at most the sum
pub sum_part : (n : ℕ) (f : ℕ → ℕ) (k : ℕ) → k < n → f k ≤ sum_over n f
unfolding sum_over
sum_part zero f k l = omega arith
sum_part (suc n) f k l = go (ℕ_discrete k n) (sum_part n f k)
  where
    go : Dec (k ≡ n) → (k < n → f k ≤ sum_over n f) → f k ≤ sum_over n f + f n
    go (yes e) ih = rw e (omega arith)
    go (no ne) ih = omega (arith, ih (omega arith))

-- of a sum of zeros and ones that is as large as can be, every term is one
pub sum_full : (n : ℕ) (f : ℕ → ℕ) → ((k : ℕ) → f k ≤ 1) → n ≤ sum_over n f → (k : ℕ) → k < n → 1 ≤ f k
unfolding sum_over
sum_full zero f h l k q = omega arith
sum_full (suc n) f h l k q = go (ℕ_discrete k n) (sum_full n f h (omega (arith, h n)) k)
  where
    go : Dec (k ≡ n) → (k < n → 1 ≤ f k) → 1 ≤ f k
    go (yes e) ih = rw e (omega (arith, sum_most n 1 f (λ j p. h j)))
    go (no ne) ih = ih (omega arith)

-- a sum of sums may be taken in either order
sum_add : (n : ℕ) (f g : ℕ → ℕ) → sum_over n (λ k. f k + g k) ≡ sum_over n f + sum_over n g
unfolding sum_over
sum_add zero f g = refl
sum_add (suc n) f g = omega (arith, sum_add n f g)

pub sum_swap : (m n : ℕ) (g : ℕ → ℕ → ℕ) → sum_over m (λ v. sum_over n (λ k. g k v)) ≡ sum_over n (λ k. sum_over m (g k))
unfolding sum_over
sum_swap zero n g = omega (arith, sum_const n 0 (λ k. 0) (λ k l. refl))
sum_swap (suc m) n g = omega (arith, sum_swap m n g, sum_add n (λ k. sum_over m (g k)) (λ k. g k m))

-- the numbers of a list after the first i: split in two, those up to the q-th, one more, bounded from above and from below
module _ (values : List ℕ) where
  pub after_split : (i a c : ℕ) → sum_after values i (a + c) ≡ sum_after values i a + sum_after values (i + a) c
  unfolding sum_after
  after_split i a c =
      let f : ℕ → ℕ = λ k. get_or values (i + k) 0 in
      let e = sum_same c (λ k. f (a + k)) (λ k. get_or values (i + a + k) 0) (λ k h. ap (λ (n : ℕ). get_or values n 0) (sym (add_assoc i a k))) in
      omega (arith, sum_split a c f, e)

  pub after_upto : (i q : ℕ) → i ≤ q → sum_after values 0 q ≡ sum_after values 0 i + sum_after values i (q - i)
  after_upto i q h =
      let e : i + (q - i) ≡ q = omega arith in
      let z : 0 + i ≡ i = omega arith in
      rw (e, z) at (after_split 0 i (q - i))

  pub after_next : (j : ℕ) → sum_after values 0 (j + 1) ≡ sum_after values 0 j + get_or values j 0
  unfolding sum_after sum_over
  after_next j =
      let e : 0 + j ≡ j = omega arith in
      rw (add-one j, e)

  pub after_most : (most : ℕ) → ((k : ℕ) → get_or values k 0 ≤ most) → (i count : ℕ) → sum_after values i count ≤ count * most
  unfolding sum_after
  after_most most h i count = sum_most count most (λ k. get_or values (i + k) 0) (λ k l. h (i + k))

  pub after_least : (n : ℕ) → ((k : ℕ) → k < n → 1 ≤ get_or values k 0) → (i count : ℕ) → i + count ≤ n → count ≤ sum_after values i count
  unfolding sum_after
  after_least n h i count l = sum_least count (λ k. get_or values (i + k) 0) (λ k p. h (i + k) (omega arith))

pub greatest_most : (n c : ℕ) (f : ℕ → ℕ) → ((k : ℕ) → k < n → f k ≤ c) → greatest_over n f ≤ c
unfolding greatest_over
greatest_most zero c f h = omega arith
greatest_most (suc n) c f h = omega (arith, h n (omega arith), greatest_most n c f (λ k l. h k (omega arith)))

pub greatest_part : (n : ℕ) (f : ℕ → ℕ) (k : ℕ) → k < n → f k ≤ greatest_over n f
unfolding greatest_over
greatest_part zero f k l = absurd (omega arith)
greatest_part (suc n) f k l = go (ℕ_discrete k n) (greatest_part n f k)
  where
    go : Dec (k ≡ n) → (k < n → f k ≤ greatest_over n f) → f k ≤ max (greatest_over n f) (f n)
    go (yes e) ih = rw e (omega arith)
    go (no ne) ih = omega (arith, ih (omega arith))

pub greatest_same : (n : ℕ) (f g : ℕ → ℕ) → ((k : ℕ) → k < n → f k ≡ g k) → greatest_over n f ≡ greatest_over n g
unfolding greatest_over
greatest_same zero f g h = refl
greatest_same (suc n) f g h = omega (arith, greatest_same n f g (λ k l. h k (omega arith)), h n (omega arith))
