-- The second lower bound: the cost so far, and the rest as if every desk were always free. What the scanner has done is known from the counts alone,
-- so that rest is a table over count vectors. An entry is no more than a strip's share and the entry behind that strip, which is all the bound needs.
use Rattle.std.specs.Prelude.{◌≡◌, List, get_or}
use Rattle.std.proofs.Math.Path.{refl}
use Rattle.std.proofs.Common.{sym, ◌∙◌, get_or-set_same}
use Prim.Native.Nat.{ℕ, zero, suc, ◌+◌, ◌-◌, ◌*◌, ◌≤◌, ◌<◌}
use Rattle.std.proofs.Math.Nat.{mul-le-mul_left}
use native.Mathlib.Omega.{arith}
use Rattle.std.proofs.Math.Seq.{get_or-set_other}
use Rattle.interleaving.specs.declared.State.{State}
use Rattle.interleaving.specs.Instance.{Instance, weight_of}
use Rattle.interleaving.specs.Search.{StripLeft, scanned, finish, step_of, LowerBound}
use Rattle.interleaving.proofs.SearchLaws.{max_right, step_left, bound_down}
use Rattle.interleaving.specs.Consistent.{Consistent}
use Rattle.interleaving.proofs.Consistent.{consistent_step}
use Rattle.sorting_bounds.specs.Layout.{count_key, labels_length, key_digits}
use Rattle.sorting_bounds.specs.ScannerBound.{first_count, second_count, third_count, time_at, share, entry_at, Entry, EntriesFrom, scanner_bound}

module _ (J M : List ℕ) (j : Instance J) (t : EntriesFrom J M 0) where
  module _ (s : State) (g : Consistent J s) where
    few : (get_or s.taken 0 0 ≤ 6) × (get_or s.taken 1 0 ≤ 6) × (get_or s.taken 2 0 ≤ 6)
    few = key_digits J j s g

    first_is : first_count (count_key s) ≡ get_or s.taken 0 0
    first_is = omega (arith, few)

    second_is : second_count (count_key s) ≡ get_or s.taken 1 0
    second_is = omega (arith, few)

    third_is : third_count (count_key s) ≡ get_or s.taken 2 0
    third_is = omega (arith, few)

    time_is : time_at J (count_key s) ≡ s.time
    unfolding time_at
    time_is = rw (first_is, second_is, third_is) (sym g.time)

    entry : Entry J M (count_key s) (entry_at M (count_key s))
    unfolding EntriesFrom
    entry = t (count_key s) (omega arith) (omega (arith, few))

    -- a strip ends no sooner than its scan and its desk time after it
    share_least : (d : ℕ) → share J s.time d (get_or s.taken d 0) ≤ weight_of J d (get_or s.taken d 0) * finish J s d
    unfolding share
    share_least d = mul-le-mul_left (weight_of J d (get_or s.taken d 0)) (omega (arith, max_right (get_or s.free d 0) (scanned J s d)))

    step_key : (d v : ℕ) → count_key (step_of J s d) ≡ v
        → scanner_bound M (step_of J s d) ≡ s.cost + weight_of J d (get_or s.taken d 0) * finish J s d + entry_at M v
    unfolding step_of
    step_key d v e = rw e refl

    key_0 : count_key (step_of J s 0) ≡ count_key s + 49
    unfolding step_of
    key_0 =
        rw
        (get_or-set_same s.taken 0 (get_or s.taken 0 0 + 1) 0 (omega (arith, g.fits.takens)), get_or-set_other s.taken 0 1 (get_or s.taken 0 0 + 1) 0 (λ e. omega arith), get_or-set_other s.taken 0 2 (get_or s.taken 0 0 + 1) 0 (λ e. omega arith))
        (omega arith)

    key_1 : count_key (step_of J s 1) ≡ count_key s + 7
    unfolding step_of
    key_1 =
        rw
        (get_or-set_same s.taken 1 (get_or s.taken 1 0 + 1) 0 (omega (arith, g.fits.takens)), get_or-set_other s.taken 1 0 (get_or s.taken 1 0 + 1) 0 (λ e. omega arith), get_or-set_other s.taken 1 2 (get_or s.taken 1 0 + 1) 0 (λ e. omega arith))
        (omega arith)

    key_2 : count_key (step_of J s 2) ≡ count_key s + 1
    unfolding step_of
    key_2 =
        rw
        (get_or-set_same s.taken 2 (get_or s.taken 2 0 + 1) 0 (omega (arith, g.fits.takens)), get_or-set_other s.taken 2 0 (get_or s.taken 2 0 + 1) 0 (λ e. omega arith), get_or-set_other s.taken 2 1 (get_or s.taken 2 0 + 1) 0 (λ e. omega arith))
        (omega arith)

    share_at : (d i : ℕ) → i ≡ get_or s.taken d 0 → share J (time_at J (count_key s)) d i ≤ weight_of J d (get_or s.taken d 0) * finish J s d
    share_at d i e = rw (time_is, e) (share_least d)

    scanner_step : (d : ℕ) → d < 3 → StripLeft J s d → scanner_bound M s ≤ scanner_bound M (step_of J s d)
    scanner_step zero p m = omega (arith, entry.first (omega (arith, first_is)), share_at 0 _ first_is, step_key 0 _ key_0)
    scanner_step (suc zero) p m = omega (arith, entry.second (omega (arith, second_is)), share_at 1 _ second_is, step_key 1 _ key_1)
    scanner_step (suc (suc zero)) p m = omega (arith, entry.third (omega (arith, third_is)), share_at 2 _ third_is, step_key 2 _ key_2)
    scanner_step (suc (suc (suc d))) p m = absurd (omega arith)

    scanner_leaf : s.left ≡ 0 → scanner_bound M s ≤ s.cost
    scanner_leaf e =
        omega (arith, entry.full (omega (arith, first_is, g.left)) (omega (arith, second_is, g.left)) (omega (arith, third_is, g.left)))

  pub scanner_bound_holds : (k : ℕ) (s : State) → Consistent J s → s.left ≡ k → LowerBound J k s (scanner_bound M s)
  unfolding LowerBound
  scanner_bound_holds zero s g e = scanner_leaf s g e
  scanner_bound_holds (suc k) s g e =
      λ d p m. bound_down J k (step_of J s d) _ _ (scanner_step s g d p m) (scanner_bound_holds k (step_of J s d) (consistent_step J j s g d p m (omega arith)) (step_left J s d ∙ less))
    where
      less : s.left - 1 ≡ k
      less = omega arith

-- what changes no entry keeps them
pub entries_same : (J M N : List ℕ) → ((x : ℕ) → labels_length ≤ x → get_or N x 0 ≡ get_or M x 0) → EntriesFrom J M 0 → EntriesFrom J N 0
unfolding EntriesFrom
entries_same J M N same h = λ x p q. record {
  capped = rw (at x) (h x p q).capped;
  first = λ l. rw (at x, at (x + 49)) ((h x p q).first l);
  second = λ l. rw (at x, at (x + 7)) ((h x p q).second l);
  third = λ l. rw (at x, at (x + 1)) ((h x p q).third l);
  full = λ a b c. rw (at x) ((h x p q).full a b c);
}
  where
    at : (x : ℕ) → entry_at N x ≡ entry_at M x
    at x = same (labels_length + x) (omega arith)
