-- How the scanner's table is filled: an entry from those behind it, from the last count vector down.
use Rattle.std.specs.Prelude.{◌≡◌, refl, cond, List, ℕ, zero, suc, ◌+◌, ◌-◌, ◌*◌, ◌≤◌, ◌<◌, min, leb, length, get_or, set}
use Rattle.std.proofs.Common.{sym, ap, subst, ◌∙◌, le_refl, le_trans, mul-le-mul_right, add-one, arith, length-set, get_or-set_same, get_or-set_other, le-leb}
use Rattle.std.proofs.Math.Decide.{dec_lt, ℕ_discrete}
use Rattle.std.proofs.lemmas.Bool.{lt-leb}
use Rattle.sheet.specs.Limits.{table_length}
use Rattle.interleaving.specs.declared.State.{State}
use Rattle.interleaving.specs.Instance.{Instance, desk_capped, scan_of, desk_of, weight_of, time_cap}
use Rattle.interleaving.specs.Consistent.{scan_sum}
use Rattle.sorting_bounds.specs.Layout.{labels_length}
use Rattle.sorting_bounds.specs.DeskBound.{bound_cap}
use Rattle.sorting_bounds.specs.ScannerBound.{entry_cap, first_count, second_count, third_count, time_at, share, entry_at, through_of, entry_of, filled_from}
use Rattle.sorting_bounds.specs.ScannerBound.{Entry, EntriesFrom, scanner_bound}
use Rattle.sorting_bounds.specs.ScannerTable.{ScanSum, SumSoFar, ThroughPre, StripSums, ScannerEntryPre, Filled, Filling, ScannerBoundPre}

pub sum_start : {J : List ℕ} {d n : ℕ} → Instance J × (d < 3) × (n ≤ 6) → SumSoFar J d n 0 0
unfolding scan_sum
sum_start h = record { size = h.0.size; desk = h.1; most = h.2; within = omega arith; is = refl; small = omega arith }

pub sum_more : {J : List ℕ} {d n sum i x : ℕ} → Instance J × (d < 3) × (n ≤ 6) → SumSoFar J d n sum i → i < n → x ≡ scan_of J d i
    → SumSoFar J d n (sum + x) (i + 1)
unfolding scan_sum
sum_more {J} {d} {n} {sum} {i} h s l e = rw e (record {
  size = s.size;
  desk = s.desk;
  most = s.most;
  within = omega arith;
  is = rw (add-one i) (ap (λ (x : ℕ). x + scan_of J d i) s.is);
  small = omega (arith, s.small, h.0.small (d * 6 + i));
})

pub sum_end : {J : List ℕ} {d n sum i : ℕ} → SumSoFar J d n sum i → n ≤ i → ScanSum J d n sum
sum_end {J} {d} {n} {sum} {i} s l = record { is = s.is ∙ ap (scan_sum J d) (same s l); small = omega (arith, s.small, s.within, s.most) }
  where
    same : SumSoFar J d n sum i → n ≤ i → i ≡ n
    same s l = omega (arith, s.within)

record Through (J : List ℕ) (time d i next r : ℕ) : Type 0 where
  pub capped : r ≤ entry_cap
  pub least : i < get_or J d 0 → r ≤ share J time d i + next

pub strip_sums : {J : List ℕ} {time d i next x y w : ℕ} → ThroughPre J time d i next → x ≡ scan_of J d i → y ≡ desk_of J d i → w ≡ weight_of J d i
    → StripSums time x y w
strip_sums {J} {time} {d} {i} h p q u = rw (u, q, p) (record {
  scan = small_scan;
  desk = small_desk;
  weighted = le_trans (mul-le-mul_right (time + scan_of J d i + desk_of J d i) (h.jobs.light (d * 6 + i))) (omega (arith, h.time, small_scan, small_desk));
})
  where
    small_scan : scan_of J d i ≤ time_cap
    small_scan = h.jobs.small (d * 6 + i)

    small_desk : desk_of J d i ≤ time_cap
    small_desk = desk_capped h.jobs d i

min_least : (a b : ℕ) → (min a b ≤ a) × (min a b ≤ b)
min_least a b = (omega arith, omega arith)

pub through_none : {J : List ℕ} {t d i rest : ℕ} → ThroughPre J t d i rest → get_or J d 0 ≤ i → entry_cap ≡ through_of J t d i rest
unfolding through_of
through_none {J} {t} {d} {i} h l = rw (le-leb (get_or J d 0) i l)

pub through_some : {J : List ℕ} {t d i rest x y w r : ℕ} → ThroughPre J t d i rest → i < get_or J d 0 → x ≡ scan_of J d i → y ≡ desk_of J d i
    → w ≡ weight_of J d i → r ≡ min (w * (t + x + y) + rest) entry_cap → r ≡ through_of J t d i rest
unfolding through_of share
through_some {J} {t} {d} {i} h l p q u e = rw (lt-leb (get_or J d 0) i l, ← p, ← q, ← u) e

through_holds : (J : List ℕ) (t d i rest : ℕ) → Through J t d i rest (through_of J t d i rest)
unfolding through_of
through_holds J t d i rest = go (dec_lt i (get_or J d 0))
  where
    go : Dec (i < get_or J d 0) → Through J t d i rest (cond (leb (get_or J d 0) i) entry_cap (min (share J t d i + rest) entry_cap))
    go (yes l) =
        rw (lt-leb (get_or J d 0) i l)
        (record { capped = (min_least (share J t d i + rest) entry_cap).1; least = λ m. (min_least (share J t d i + rest) entry_cap).0 })
    go (no l) = rw (le-leb (get_or J d 0) i (omega arith)) (record { capped = le_refl _; least = λ m. absurd (l m) })

pub enter_first : {J M : List ℕ} {k a b c : ℕ} → ScannerEntryPre J M k → ScanSum J 0 (first_count k) a → ScanSum J 1 (second_count k) b
    → ScanSum J 2 (third_count k) c → ThroughPre J (a + b + c) 0 (first_count k) (entry_at M (k + 49))
unfolding EntriesFrom
enter_first {J} {M} {k} e p q s = record {
  jobs = e.jobs;
  desk = omega arith;
  most = omega (arith, e.key);
  time = omega (arith, p.small, q.small, s.small);
  next = λ l. (e.behind (k + 49) (omega arith) (omega (arith, e.key, e.first_few, e.second_few, e.third_few))).capped;
}

pub enter_second : {J M : List ℕ} {k a b c : ℕ} → ScannerEntryPre J M k → ScanSum J 0 (first_count k) a → ScanSum J 1 (second_count k) b
    → ScanSum J 2 (third_count k) c → ThroughPre J (a + b + c) 1 (second_count k) (entry_at M (k + 7))
unfolding EntriesFrom
enter_second {J} {M} {k} e p q s = record {
  jobs = e.jobs;
  desk = omega arith;
  most = omega (arith, e.key);
  time = omega (arith, p.small, q.small, s.small);
  next = λ l. (e.behind (k + 7) (omega arith) (omega (arith, e.key, e.first_few, e.second_few, e.third_few))).capped;
}

pub enter_third : {J M : List ℕ} {k a b c : ℕ} → ScannerEntryPre J M k → ScanSum J 0 (first_count k) a → ScanSum J 1 (second_count k) b
    → ScanSum J 2 (third_count k) c → ThroughPre J (a + b + c) 2 (third_count k) (entry_at M (k + 1))
unfolding EntriesFrom
enter_third {J} {M} {k} e p q s = record {
  jobs = e.jobs;
  desk = omega arith;
  most = omega (arith, e.key);
  time = omega (arith, p.small, q.small, s.small);
  next = λ l. (e.behind (k + 1) (omega arith) (omega (arith, e.key, e.first_few, e.second_few, e.third_few))).capped;
}

time_is : {J : List ℕ} (k : ℕ) {a b c : ℕ} → ScanSum J 0 (first_count k) a → ScanSum J 1 (second_count k) b → ScanSum J 2 (third_count k) c
    → a + b + c ≡ time_at J k
unfolding time_at
time_is k p q s = rw (p.is, q.is, s.is)

pub entry_none : {J M : List ℕ} {k : ℕ} → ScannerEntryPre J M k → get_or J 0 0 + get_or J 1 0 + get_or J 2 0 ≤ first_count k + second_count k + third_count k
    → 0 ≡ entry_of J M k
unfolding entry_of
entry_none {J} {M} {k} e l = rw (le-leb (get_or J 0 0 + get_or J 1 0 + get_or J 2 0) (first_count k + second_count k + third_count k) l)

pub entry_some : {J M : List ℕ} {k t a b c x y z u r : ℕ} → ScannerEntryPre J M k → r ≡ min u z → u ≡ min x y
    → x ≡ through_of J t 0 (first_count k) (entry_at M (k + 49)) → y ≡ through_of J t 1 (second_count k) (entry_at M (k + 7))
    → z ≡ through_of J t 2 (third_count k) (entry_at M (k + 1))
    → ScanSum J 0 (first_count k) a → ScanSum J 1 (second_count k) b → ScanSum J 2 (third_count k) c → t ≡ a + b + c
    → first_count k + second_count k + third_count k < get_or J 0 0 + get_or J 1 0 + get_or J 2 0 → r ≡ entry_of J M k
unfolding entry_of
entry_some {J} {M} {k} {t} e w v f g h p q s i some =
    rw (lt-leb (get_or J 0 0 + get_or J 1 0 + get_or J 2 0) (first_count k + second_count k + third_count k) some, w, v, f, g, h, i, time_is k p q s)

-- an entry is what the bound asks of it
entry_holds : (J M : List ℕ) (k : ℕ) → Entry J M k (entry_of J M k)
unfolding entry_of
entry_holds J M k = go (dec_lt (first_count k + second_count k + third_count k) (get_or J 0 0 + get_or J 1 0 + get_or J 2 0))
  where
    x : ℕ
    x = through_of J (time_at J k) 0 (first_count k) (entry_at M (k + 49))

    y : ℕ
    y = through_of J (time_at J k) 1 (second_count k) (entry_at M (k + 7))

    z : ℕ
    z = through_of J (time_at J k) 2 (third_count k) (entry_at M (k + 1))

    least : (min (min x y) z ≤ x) × (min (min x y) z ≤ y) × (min (min x y) z ≤ z)
    least =
        (le_trans (min_least (min x y) z).0 (min_least x y).0, le_trans (min_least (min x y) z).0 (min_least x y).1, (min_least (min x y) z).1)

    go : Dec (first_count k + second_count k + third_count k < get_or J 0 0 + get_or J 1 0 + get_or J 2 0)
        → Entry J M k (cond (leb (get_or J 0 0 + get_or J 1 0 + get_or J 2 0) (first_count k + second_count k + third_count k)) 0 (min (min x y) z))
    go (yes l) = rw (lt-leb (get_or J 0 0 + get_or J 1 0 + get_or J 2 0) (first_count k + second_count k + third_count k) l) (record {
      capped = le_trans least.0 (through_holds J (time_at J k) 0 (first_count k) (entry_at M (k + 49))).capped;
      first = λ m. le_trans least.0 ((through_holds J (time_at J k) 0 (first_count k) (entry_at M (k + 49))).least m);
      second = λ m. le_trans least.1 ((through_holds J (time_at J k) 1 (second_count k) (entry_at M (k + 7))).least m);
      third = λ m. le_trans least.2 ((through_holds J (time_at J k) 2 (third_count k) (entry_at M (k + 1))).least m);
      full = λ p q r. absurd (omega (arith, l, p, q, r));
    })
    go (no l) =
        rw (le-leb (get_or J 0 0 + get_or J 1 0 + get_or J 2 0) (first_count k + second_count k + third_count k) (omega arith))
        (record { capped = omega arith; first = λ m. omega arith; second = λ m. omega arith; third = λ m. omega arith; full = λ p q r. omega arith })

fill_more : {J M₀ M : List ℕ} {k v : ℕ} → Filled J M₀ M k → 0 < k → Entry J M (k - 1) v → Filled J M₀ (set M (labels_length + (k - 1)) v) (k - 1)
unfolding EntriesFrom
fill_more {J} {M₀} {M} {k} {v} f l e = record {
  within = omega (arith, f.within);
  size = simp length-set f.size;
  entries = λ x p q. go x p q (ℕ_discrete x (k - 1));
  labels = λ i p. get_or-set_other M (labels_length + (k - 1)) i v 0 (λ w. omega arith) ∙ f.labels i p;
  rest = λ i p. get_or-set_other M (labels_length + (k - 1)) i v 0 (λ w. omega (arith, f.within)) ∙ f.rest i p;
}
  where
    N : List ℕ
    N = set M (labels_length + (k - 1)) v

    other : (x : ℕ) → k - 1 < x → entry_at (set M (labels_length + (k - 1)) v) x ≡ entry_at M x
    other x p = get_or-set_other M (labels_length + (k - 1)) (labels_length + x) v 0 (λ w. omega arith)

    same : entry_at (set M (labels_length + (k - 1)) v) (k - 1) ≡ v
    same = get_or-set_same M (labels_length + (k - 1)) v 0 (omega (arith, f.size, f.within))

    moved : (x u w : ℕ) → k - 1 ≤ x → u ≡ w → Entry J M x w → Entry J (set M (labels_length + (k - 1)) v) x u
    moved x u w p q h = record {
      capped = rw q h.capped;
      first = λ m. rw (q, other (x + 49) (omega arith)) (h.first m);
      second = λ m. rw (q, other (x + 7) (omega arith)) (h.second m);
      third = λ m. rw (q, other (x + 1) (omega arith)) (h.third m);
      full = λ a b c. rw q (h.full a b c);
    }

    go : (x : ℕ) → k - 1 ≤ x → x < 343 → Dec (x ≡ k - 1) → Entry J (set M (labels_length + (k - 1)) v) x (entry_at (set M (labels_length + (k - 1)) v) x)
    go x p q (yes w) = rw w (moved (k - 1) _ v (le_refl _) same e)
    go x p q (no w) = moved x _ (entry_at M x) p (other x (omega arith)) (f.entries x (omega arith) q)

pub filled : (J M : List ℕ) → length M ≡ table_length → (n : ℕ) → n ≤ 343 → Filled J M (filled_from J M n) (343 - n)
unfolding filled_from EntriesFrom
filled J M size zero l = record { within = omega arith; size = size; entries = λ x p q. absurd (omega arith); labels = λ i p. refl; rest = λ i p. refl }
filled J M size (suc n) l =
    subst (Filled J M (set (filled_from J M n) (labels_length + (342 - n)) (entry_of J (filled_from J M n) (342 - n)))) here
    (subst (λ (k : ℕ). Filled J M (set (filled_from J M n) (labels_length + k) (entry_of J (filled_from J M n) k)) k) there
    (fill_more (filled J M size n (omega arith)) (omega arith) (entry_holds J (filled_from J M n) (343 - n - 1))))
  where
    there : 343 - n - 1 ≡ 342 - n
    there = omega arith

    here : 342 - n ≡ 343 - suc n
    here = omega arith

pub filling_start : {J M : List ℕ} → Instance J × (length M ≡ table_length) → Filling J M M 343
unfolding filled_from
filling_start h = record { start = h.1; size = h.1; within = le_refl _; is = refl }

pub filling_enter : {J M₀ M : List ℕ} {k : ℕ} → Instance J × (length M₀ ≡ table_length) → Filling J M₀ M k → 0 < k → ScannerEntryPre J M (k - 1)
filling_enter {J} {M₀} {M} {k} j f l = record {
  jobs = j.0;
  key = omega (arith, f.within);
  size = f.size;
  behind =
      subst (EntriesFrom J M) (same f.within l)
      (subst (λ (x : List ℕ). EntriesFrom J x (343 - (343 - k))) (sym f.is) (filled J M₀ f.start (343 - k) (omega arith)).entries);
  first_few = j.0.few 0 (omega arith);
  second_few = j.0.few 1 (omega arith);
  third_few = j.0.few 2 (omega arith);
}
  where
    same : k ≤ 343 → 0 < k → 343 - (343 - k) ≡ k - 1 + 1
    same w l = omega arith

pub filling_more : {J M₀ M : List ℕ} {k v : ℕ} → Filling J M₀ M k → 0 < k → v ≡ entry_of J M (k - 1) → Filling J M₀ (set M (labels_length + (k - 1)) v) (k - 1)
unfolding filled_from
filling_more {J} {M₀} {M} {k} {v} f l e = record {
  start = f.start;
  size = simp length-set f.size;
  within = omega (arith, f.within);
  is = rw (more f.within l, ← place f.within l, ← f.is) (ap (set M (labels_length + (k - 1))) e);
}
  where
    more : k ≤ 343 → 0 < k → 343 - (k - 1) ≡ suc (343 - k)
    more w l = omega arith

    place : k ≤ 343 → 0 < k → k - 1 ≡ 342 - (343 - k)
    place w l = omega arith

pub filling_end : {J M₀ M : List ℕ} {k : ℕ} → Filling J M₀ M k → k ≤ 0 → M ≡ filled_from J M₀ 343
filling_end {J} {M₀} {M} {k} f l = f.is ∙ ap (filled_from J M₀) (all l)
  where
    all : k ≤ 0 → 343 - k ≡ 343
    all l = omega arith

pub scanner_bound_small : {J : List ℕ} {s : State} {k : ℕ} {M : List ℕ} → ScannerBoundPre J s k M → s.cost + entry_at M k ≤ bound_cap
unfolding EntriesFrom
scanner_bound_small {J} {s} {k} {M} h = omega (arith, h.state.fits.cost, (h.entries k (omega arith) h.small).capped)

pub scanner_bound_is : {J : List ℕ} {s : State} {k : ℕ} {M : List ℕ} → ScannerBoundPre J s k M
    → (s.cost + entry_at M k ≡ scanner_bound M s) × (s.cost + entry_at M k ≤ bound_cap)
scanner_bound_is {J} {s} {k} {M} h = (ap (λ (x : ℕ). s.cost + entry_at M x) h.key, scanner_bound_small h)
