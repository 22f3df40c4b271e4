-- The first lower bound: the cost so far, and the rest of each desk as if the scanner served that desk alone. A step never lowers it.
use Rattle.std.specs.Prelude.{◌≡◌, refl, List}
use Rattle.std.proofs.Common.{ap, subst, ◌∙◌, le_refl, le_trans, mul-le-mul_left, mul-le-mul_right, arith}
use Prim.Native.Nat.{ℕ, zero, suc, ◌+◌, ◌-◌, ◌*◌, ◌^◌, ◌≤◌, ◌<◌, max}
use Rattle.std.proofs.Math.ListN.{get_or}
use Rattle.std.proofs.Math.Seq.{get_or-set_same, get_or-set_other}
use Rattle.interleaving.specs.declared.State.{State}
use Rattle.interleaving.specs.Instance.{Instance, desk_capped, scan_of, desk_of, weight_of, time_cap, strip_span}
use Rattle.interleaving.specs.Instance.{free_cap}
use Rattle.interleaving.specs.Search.{StripLeft, scanned, finish, step_of, LowerBound}
use Rattle.interleaving.proofs.SearchLaws.{max_left, max_right, max_least, step_left, bound_down}
use Rattle.interleaving.specs.Consistent.{Consistent}
use Rattle.interleaving.proofs.Consistent.{consistent_step}
use Rattle.sorting_bounds.specs.DeskBound.{rest_span, rest_cap, finish_alone, alone_sum, desk_rest, desk_bound, RestSoFar}

max_mono : (a b c d : ℕ) → a ≤ c → b ≤ d → max a b ≤ max c d
max_mono a b c d p q = max_least a b (max c d) (le_trans p (max_left c d)) (le_trans q (max_right c d))

alone_mono : (J : List ℕ) (d k i t u f g : ℕ) → t ≤ u → f ≤ g → alone_sum J d k i t f ≤ alone_sum J d k i u g
unfolding alone_sum
alone_mono J d zero i t u f g p q = le_refl _
alone_mono J d (suc k) i t u f g p q =
    let h = max_mono f (t + scan_of J d i) g (u + scan_of J d i) q (omega arith) in
    omega (arith, alone_mono J d k (i + 1) (t + scan_of J d i) (u + scan_of J d i) (finish_alone J d i t f) (finish_alone J d i u g) (omega arith) (omega arith), mul-le-mul_left (weight_of J d i) (more h))
  where
    more : max f (t + scan_of J d i) ≤ max g (u + scan_of J d i) → finish_alone J d i t f ≤ finish_alone J d i u g
    more w = omega arith

pub alone_one : (J : List ℕ) (d n i t f : ℕ) → i < n
    → alone_sum J d (n - i) i t f ≡ weight_of J d i * finish_alone J d i t f + alone_sum J d (n - (i + 1)) (i + 1) (t + scan_of J d i) (finish_alone J d i t f)
unfolding alone_sum
alone_one J d n i t f l = ap (λ (k : ℕ). alone_sum J d k i t f) e
  where
    e : n - i ≡ suc (n - (i + 1))
    e = omega arith

pub alone_none : (J : List ℕ) (d n i t f : ℕ) → n ≤ i → alone_sum J d (n - i) i t f ≡ 0
unfolding alone_sum
alone_none J d n i t f l = ap (λ (k : ℕ). alone_sum J d k i t f) e
  where
    e : n - i ≡ 0
    e = omega arith

module _ (J : List ℕ) (s : State) (g : Consistent J s) (d : ℕ) (p : d < 3) (m : StripLeft J s d) where
  same_rest : desk_rest J s d ≡ weight_of J d (get_or s.taken d 0) * finish J s d + desk_rest J (step_of J s d) d
  unfolding desk_rest step_of
  same_rest =
      rw
      (get_or-set_same s.taken d (get_or s.taken d 0 + 1) 0 (omega (arith, g.fits.takens)), get_or-set_same s.free d (finish J s d) 0 (omega (arith, g.fits.frees)))
      (alone_one J d (get_or J d 0) (get_or s.taken d 0) s.time (get_or s.free d 0) m)

  other_rest : (e : ℕ) → (e ≡ d → ⊥) → desk_rest J s e ≤ desk_rest J (step_of J s d) e
  unfolding desk_rest step_of
  other_rest e w =
      rw (get_or-set_other s.taken d e (get_or s.taken d 0 + 1) 0 w, get_or-set_other s.free d e (finish J s d) 0 w)
      (alone_mono J e (get_or J e 0 - get_or s.taken e 0) (get_or s.taken e 0) s.time (scanned J s d) (get_or s.free e 0) (get_or s.free e 0) (omega arith) (le_refl _))

step_cost : (J : List ℕ) (s : State) (d : ℕ) → (step_of J s d).cost ≡ s.cost + weight_of J d (get_or s.taken d 0) * finish J s d
unfolding step_of
step_cost J s d = refl

lower_step : (J : List ℕ) (s : State) → Consistent J s → (d : ℕ) → d < 3 → StripLeft J s d → desk_bound J s ≤ desk_bound J (step_of J s d)
unfolding desk_bound
lower_step J s g zero p m =
    omega (arith, step_cost J s 0, same_rest J s g 0 p m, other_rest J s g 0 p m 1 (λ e. omega arith), other_rest J s g 0 p m 2 (λ e. omega arith))
lower_step J s g (suc zero) p m =
    omega (arith, step_cost J s 1, same_rest J s g 1 p m, other_rest J s g 1 p m 0 (λ e. omega arith), other_rest J s g 1 p m 2 (λ e. omega arith))
lower_step J s g (suc (suc zero)) p m =
    omega (arith, step_cost J s 2, same_rest J s g 2 p m, other_rest J s g 2 p m 0 (λ e. omega arith), other_rest J s g 2 p m 1 (λ e. omega arith))
lower_step J s g (suc (suc (suc d))) p m = absurd (omega arith)

module _ (J : List ℕ) (j : Instance J) where
  pub desk_bound_holds : (k : ℕ) (s : State) → Consistent J s → s.left ≡ k → LowerBound J k s (desk_bound J s)
  unfolding LowerBound desk_bound desk_rest
  desk_bound_holds zero s g e = omega (arith, no_rest 0 (full 0 (omega arith)), no_rest 1 (full 1 (omega arith)), no_rest 2 (full 2 (omega arith)))
    where
      full : (d : ℕ) → d < 3 → get_or J d 0 ≤ get_or s.taken d 0
      full zero p = omega (arith, g.left)
      full (suc zero) p = omega (arith, g.left)
      full (suc (suc zero)) p = omega (arith, g.left)
      full (suc (suc (suc d))) p = absurd (omega arith)

      no_rest : (d : ℕ) → get_or J d 0 ≤ get_or s.taken d 0 → desk_rest J s d ≡ 0
      no_rest d l = alone_none J d (get_or J d 0) (get_or s.taken d 0) s.time (get_or s.free d 0) l
  desk_bound_holds (suc k) s g e =
      λ d p m. bound_down J k (step_of J s d) _ _ (lower_step J s g d p m) (desk_bound_holds k (step_of J s d) (consistent_step J j s g d p m (omega arith)) (step_left J s d ∙ less))
    where
      less : s.left - 1 ≡ k
      less = omega arith

-- the loop over a desk's strips: its start, one strip of it, and its end
pub rest_none : {J : List ℕ} {s : State} {d : ℕ} → Instance J → Consistent J s → d < 3 → RestSoFar J (desk_rest J s d) d (get_or s.taken d 0) s.time (get_or s.free d 0) 0
unfolding desk_rest
rest_none {J} {s} {d} j g p = record {
  within = g.within d p;
  six = j.few d p;
  size = j.size;
  time = omega (arith, g.fits.time);
  free = omega (arith, g.fits.free d);
  sums = omega arith;
  is = omega arith;
}

pub rest_more : {J : List ℕ} {z d i t f sum x v y w : ℕ} → Instance J → RestSoFar J z d i t f sum → i < get_or J d 0 → x ≡ scan_of J d i → v ≡ max f (t + x)
    → y ≡ desk_of J d i → w ≡ weight_of J d i → RestSoFar J z d (i + 1) (t + x) (v + y) (sum + w * (v + y))
rest_more {J} {z} {d} {i} {t} {f} {sum} {x} {v} {y} {w} j h l p q r u = rw (u, r, q, p) (record {
  within = omega arith;
  six = h.six;
  size = h.size;
  time = omega (arith, h.time, scan_small);
  free = omega (arith, greater_small, desk_small);
  sums = omega (arith, h.sums, weighted_small);
  is = omega (arith, h.is, alone_one J d (get_or J d 0) i t f l);
})
  where
    scan_small : scan_of J d i ≤ time_cap
    scan_small = j.small (d * 6 + i)

    desk_small : desk_of J d i ≤ time_cap
    desk_small = desk_capped j d i

    greater_small : max f (t + scan_of J d i) ≤ free_cap + i * strip_span + time_cap
    greater_small = max_least f (t + scan_of J d i) _ (omega (arith, h.free)) (omega (arith, h.time, scan_small))

    weighted_small : weight_of J d i * (max f (t + scan_of J d i) + desk_of J d i) ≤ rest_span
    weighted_small =
        le_trans (mul-le-mul_right (max f (t + scan_of J d i) + desk_of J d i) (j.light (d * 6 + i))) (omega (arith, h.six, greater_small, desk_small))

-- whatever number of the section weighs a strip, no sum wraps
module _ {J : List ℕ} {z d i t f sum n x v y : ℕ} (j : Instance J) (h : RestSoFar J z d i t f sum) (l : i < get_or J d 0) (behind : 3 ≤ n) (p : x ≡ scan_of J d i)
    (q : v ≡ max f (t + x)) (r : y ≡ desk_of J d i) where
  product_small : get_or J n 0 * (v + y) ≤ time_cap * (free_cap + 8 * strip_span)
  product_small = le_trans (mul-le-mul_right (v + y) small) (omega (arith, h.six, greater_small, desk_small, r))
    where
      there : 3 + (n - 3) ≡ n
      there = omega arith

      small : get_or J n 0 ≤ time_cap
      small = subst (λ (k : ℕ). get_or J k 0 ≤ time_cap) there (j.small (n - 3))

      desk_small : desk_of J d i ≤ time_cap
      desk_small = desk_capped j d i

      scan_small : scan_of J d i ≤ time_cap
      scan_small = j.small (d * 6 + i)

      greater_small : v ≤ free_cap + i * strip_span + time_cap
      greater_small = rw q (max_least f (t + x) _ (omega (arith, h.free)) (omega (arith, h.time, p, scan_small)))

  pub product_fits : get_or J n 0 * (v + y) < 2 ^ 64
  product_fits = omega (arith, product_small)

  pub sum_fits : sum + get_or J n 0 * (v + y) < 2 ^ 64
  sum_fits = omega (arith, product_small, h.sums, h.six)

pub rest_all : {J : List ℕ} {z d i t f sum : ℕ} → RestSoFar J z d i t f sum → get_or J d 0 ≤ i → (sum ≡ z) × (sum ≤ rest_cap)
rest_all {J} {z} {d} {i} {t} {f} h l = (omega (arith, h.is, alone_none J d (get_or J d 0) i t f l), omega (arith, h.sums, h.six, h.within))
