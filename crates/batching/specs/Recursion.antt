-- The recursion by index: its equations, that a later free time costs no less, and that one batch of all strips left is a choice.
use Rattle.std.specs.Prelude.{◌≡◌, [], ◌∷◌, ltb}
use Rattle.std.proofs.Common.{◌∙◌, mul-le-mul_left}
use Prim.Native.Nat.{ℕ, zero, suc, ◌+◌, ◌*◌, ◌-◌, ◌≤◌, ◌<◌, min}
use native.Mathlib.Omega.{arith}
use borrow.Author.Tests.{lt-ltb, le-ltb}
use Rattle.batching.specs.Least.{Instance, bench_start, finish_of, least_open, least_from}
use Rattle.batching.specs.Chosen.{batch_of, chosen_open, chosen_from}
use Rattle.batching.specs.Index.{least_at, open_at, closed_at, chosen_at, chosen_open_at}

-- the finish rule, as the tables use it: a batch whose last strip is ready when its mount is done, and one that waits for it
pub start_in_time : (s t r : ℕ) → r ≤ t + s → bench_start s t r ≡ t + s
unfolding bench_start
start_in_time s t r h = omega arith

pub start_late : (s t r : ℕ) → t + s < r → bench_start s t r ≡ r
unfolding bench_start
start_late s t r h = omega arith

pub finish_mono : (x : Instance) (i q : ℕ) {t t' : ℕ} → t ≤ t' → finish_of x t i q ≤ finish_of x t' i q
unfolding finish_of bench_start
finish_mono x i q h = omega arith

pub open_mono : (x : Instance) (left i q : ℕ) {t t' : ℕ} → t ≤ t' → least_open x left i q t ≤ least_open x left i q t'
unfolding least_open
open_mono x zero i q h = mul-le-mul_left (x.weight i q) (finish_mono x i q h)
open_mono x (suc left) i q h =
    let f = finish_mono x i q h in
    omega (arith, mul-le-mul_left (x.weight i q) f, open_mono x left q (q + 1) f, open_mono x left i (q + 1) h)

module _ (x : Instance) where
  pub least_mono : (i : ℕ) {t t' : ℕ} → t ≤ t' → least_at x i t ≤ least_at x i t'
  unfolding least_at
  least_mono i h = from (x.strips - i) h where
    from : (left : ℕ) {t t' : ℕ} → t ≤ t' → least_from x left i t ≤ least_from x left i t'
    from zero h = unfold least_from in omega arith
    from (suc left) h = unfold least_from in open_mono x left i (i + 1) h

  pub least_end : (i t : ℕ) → x.strips ≤ i → least_at x i t ≡ 0
  unfolding least_at least_from
  least_end i t h =
      let e : x.strips - i ≡ 0 = omega arith in
      rw e

  pub least_opens : (i t : ℕ) → i < x.strips → least_at x i t ≡ open_at x i (i + 1) t
  unfolding least_at open_at least_from
  least_opens i t h =
      let e : x.strips - i ≡ suc (x.strips - (i + 1)) = omega arith in
      rw e

  pub open_last : (i q t : ℕ) → q ≡ x.strips → open_at x i q t ≡ closed_at x (bench_start x.mount t (x.ready q)) i q
  unfolding open_at closed_at least_open finish_of
  open_last i q t h =
      let e : x.strips - q ≡ 0 = omega arith in
      rw e (omega (arith, least_end q (bench_start x.mount t (x.ready q) + x.bench i q) (omega arith)))

  pub open_more : (i q t : ℕ) → q < x.strips
      → open_at x i q t ≡ min (closed_at x (bench_start x.mount t (x.ready q)) i q) (open_at x i (q + 1) t)
  unfolding open_at closed_at least_open finish_of
  open_more i q t h =
      let e : x.strips - q ≡ suc (x.strips - (q + 1)) = omega arith in
      rw (e, least_opens q (bench_start x.mount t (x.ready q) + x.bench i q) h)

  pub chosen_end : (i t : ℕ) → x.strips ≤ i → chosen_at x i t ≡ []
  unfolding chosen_at chosen_from
  chosen_end i t h =
      let e : x.strips - i ≡ 0 = omega arith in
      rw e

  pub chosen_opens : (i t : ℕ) → i < x.strips → chosen_at x i t ≡ chosen_open_at x i (i + 1) t
  unfolding chosen_at chosen_open_at chosen_from
  chosen_opens i t h =
      let e : x.strips - i ≡ suc (x.strips - (i + 1)) = omega arith in
      rw e

  pub chosen_last : (i q t : ℕ) → q ≡ x.strips → chosen_open_at x i q t ≡ batch_of x t i q ∷ chosen_at x q (finish_of x t i q)
  unfolding chosen_open_at chosen_open
  chosen_last i q t h =
      let e : x.strips - q ≡ 0 = omega arith in
      rw (e, chosen_end q (finish_of x t i q) (omega arith))

  -- the test of the recursion, by index
  test_is : (i q t : ℕ) → q < x.strips
      → ltb (x.weight i q * finish_of x t i q + least_open x (x.strips - (q + 1)) q (q + 1) (finish_of x t i q)) (least_open x (x.strips - (q + 1)) i (q + 1) t)
      ≡ ltb (closed_at x (bench_start x.mount t (x.ready q)) i q) (open_at x i (q + 1) t)
  unfolding open_at closed_at finish_of
  test_is i q t h = rw (least_opens q (bench_start x.mount t (x.ready q) + x.bench i q) h)

  pub chosen_close : (i q t : ℕ) → q < x.strips → closed_at x (bench_start x.mount t (x.ready q)) i q < open_at x i (q + 1) t
      → chosen_open_at x i q t ≡ batch_of x t i q ∷ chosen_at x q (finish_of x t i q)
  unfolding chosen_open_at chosen_open
  chosen_close i q t h k =
      let e : x.strips - q ≡ suc (x.strips - (q + 1)) = omega arith in
      let b = test_is i q t h ∙ lt-ltb _ _ k in
      rw (e, b, chosen_open, chosen_opens q (finish_of x t i q) h)

  pub chosen_extend : (i q t : ℕ) → q < x.strips → open_at x i (q + 1) t ≤ closed_at x (bench_start x.mount t (x.ready q)) i q
      → chosen_open_at x i q t ≡ chosen_open_at x i (q + 1) t
  unfolding chosen_open_at chosen_open
  chosen_extend i q t h k =
      let e : x.strips - q ≡ suc (x.strips - (q + 1)) = omega arith in
      let b = test_is i q t h ∙ le-ltb _ _ k in
      rw (e, b, chosen_open)

-- one batch of all strips left is a choice
pub open_one : (x : Instance) (left i q t : ℕ) → least_open x left i q t ≤ x.weight i (q + left) * finish_of x t i (q + left)
unfolding least_open
open_one x zero i q t =
    let e : q + 0 ≡ q = omega arith in
    rw e (omega arith)
open_one x (suc left) i q t =
    let e : q + suc left ≡ q + 1 + left = omega arith in
    rw e (omega (arith, open_one x left i (q + 1) t))

pub least_one : (x : Instance) (i t : ℕ) → i < x.strips → least_at x i t ≤ x.weight i x.strips * finish_of x t i x.strips
unfolding open_at
least_one x i t h =
    let e : i + 1 + (x.strips - (i + 1)) ≡ x.strips = omega arith in
    rw (least_opens x i t h) (rw e at (open_one x (x.strips - (i + 1)) i (i + 1) t))
