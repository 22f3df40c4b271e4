-- The section as the search reads it is an instance, and has the section's times and weights.
use Rattle.std.specs.Prelude.{◌≡◌, refl, ℕ, zero, suc, ◌+◌, ◌-◌, ◌*◌, ◌≤◌, ◌<◌, length}
use Rattle.std.proofs.Common.{List, [], ◌∷◌, ◌++◌, sym, subst, ◌∙◌, arith, append-nil, ext_get_or}
use Rattle.std.proofs.Math.Path.{ap}
use Rattle.std.proofs.Math.Decide.{dec_lt}
use Rattle.std.proofs.Math.ListN.{get_or, length-append, get_or-append}
use Rattle.std.proofs.Math.Seq.{get_or-append-add}
use Rattle.sheet.specs.Limits.{most_time}
use Rattle.sheet.specs.declared.SortingSection.{SortingSection}
use Rattle.sheet.specs.Sound.{SortingSound}
use Rattle.interleaving.specs.Instance.{Instance, scan_of, desk_of, weight_of, weight_cap, instance_length}
use Rattle.sorting.specs.Plan.{instance_of}

module _ (s : SortingSection) (h : SortingSound s) where
  pub count_at : (d : ℕ) → d < 3 → get_or (instance_of s) d 0 ≡ get_or s.counts d 0
  unfolding instance_of
  count_at d l = get_or-append s.counts (s.scan ++ (s.desk ++ s.weight)) 0 d (omega (arith, h.counts_length))

  after_counts : (k : ℕ) → get_or (instance_of s) (3 + k) 0 ≡ get_or (s.scan ++ (s.desk ++ s.weight)) k 0
  unfolding instance_of
  after_counts k =
      ap (λ (x : ℕ). get_or (s.counts ++ (s.scan ++ (s.desk ++ s.weight))) (x + k) 0) (sym h.counts_length)
      ∙ get_or-append-add s.counts (s.scan ++ (s.desk ++ s.weight)) k 0

  pub scan_at : (k : ℕ) → k < 18 → get_or (instance_of s) (3 + k) 0 ≡ get_or s.scan k 0
  scan_at k l = after_counts k ∙ get_or-append s.scan (s.desk ++ s.weight) 0 k (omega (arith, h.scan_length))

  after_scans : (k : ℕ) → get_or (instance_of s) (3 + (18 + k)) 0 ≡ get_or (s.desk ++ s.weight) k 0
  after_scans k =
      after_counts (18 + k)
      ∙ ap (λ (x : ℕ). get_or (s.scan ++ (s.desk ++ s.weight)) (x + k) 0) (sym h.scan_length)
      ∙ get_or-append-add s.scan (s.desk ++ s.weight) k 0

  pub desk_at : (k : ℕ) → k < 18 → get_or (instance_of s) (3 + (18 + k)) 0 ≡ get_or s.desk k 0
  desk_at k l = after_scans k ∙ get_or-append s.desk s.weight 0 k (omega (arith, h.desk_length))

  pub weight_at : (k : ℕ) → get_or (instance_of s) (3 + (18 + (18 + k))) 0 ≡ get_or s.weight k 0
  weight_at k =
      after_scans (18 + k) ∙ ap (λ (x : ℕ). get_or (s.desk ++ s.weight) (x + k) 0) (sym h.desk_length) ∙ get_or-append-add s.desk s.weight k 0

  instance_size : length (instance_of s) ≡ instance_length
  unfolding instance_of
  instance_size =
      omega (arith, length-append s.counts (s.scan ++ (s.desk ++ s.weight)), length-append s.scan (s.desk ++ s.weight), length-append s.desk s.weight, h.counts_length, h.scan_length, h.desk_length, h.weight_length)

  -- every number behind the counts is a scan time, a desk time, a weight or none
  behind_counts : (k : ℕ) → get_or (instance_of s) (3 + k) 0 ≤ most_time
  behind_counts k = go (dec_lt k 18) (dec_lt k 36)
    where
      go : Dec (k < 18) → Dec (k < 36) → get_or (instance_of s) (3 + k) 0 ≤ most_time
      go (yes l) m = rw (scan_at k l) (h.most_scan k)
      go (no l) (yes m) = subst (λ (x : ℕ). get_or (instance_of s) (3 + x) 0 ≤ most_time) there (rw (desk_at (k - 18) (omega arith)) (h.most_desk (k - 18)))
        where
          there : 18 + (k - 18) ≡ k
          there = omega arith
      go (no l) (no m) = subst (λ (x : ℕ). get_or (instance_of s) (3 + x) 0 ≤ most_time) there (rw (weight_at (k - 36)) (omega (arith, h.most_weight_holds (k - 36))))
        where
          there : 18 + (18 + (k - 36)) ≡ k
          there = omega arith

  pub instance_sound : Instance (instance_of s)
  instance_sound = record {
    size = instance_size;
    few = λ d l. rw (count_at d l) (h.most_strips_holds d);
    small = λ k. omega (arith, behind_counts k);
    light = λ k. subst (λ (x : ℕ). get_or (instance_of s) x 0 ≤ weight_cap) (there k) (rw (weight_at k) (omega (arith, h.most_weight_holds k)));
  }
    where
      there : (k : ℕ) → 3 + (18 + (18 + k)) ≡ 3 + k + 36
      there k = omega arith

  -- the times and the weight of strip i of desk d
  module _ (d i : ℕ) (l : d * 6 + i < 18) where
    pub scan_of_lem : scan_of (instance_of s) d i ≡ get_or s.scan (d * 6 + i) 0
    scan_of_lem = scan_at (d * 6 + i) l

    pub desk_of_lem : desk_of (instance_of s) d i ≡ get_or s.desk (d * 6 + i) 0
    desk_of_lem = ap (λ (x : ℕ). get_or (instance_of s) x 0) there ∙ desk_at (d * 6 + i) l
      where
        there : 3 + (d * 6 + i) + 18 ≡ 3 + (18 + (d * 6 + i))
        there = omega arith

    pub weight_of_lem : weight_of (instance_of s) d i ≡ get_or s.weight (d * 6 + i) 0
    weight_of_lem = ap (λ (x : ℕ). get_or (instance_of s) x 0) there ∙ weight_at (d * 6 + i)
      where
        there : 3 + (d * 6 + i) + 36 ≡ 3 + (18 + (18 + (d * 6 + i)))
        there = omega arith

-- the counts, one by one
abbrev counts_of : SortingSection → List ℕ
counts_of s = get_or s.counts 0 0 ∷ get_or s.counts 1 0 ∷ get_or s.counts 2 0 ∷ []

counts_are : (s : SortingSection) → SortingSound s → counts_of s ≡ s.counts
counts_are s h = ext_get_or 0 (counts_of s) s.counts (sym h.counts_length) at
  where
    at : (i : ℕ) → i < 3 → get_or (counts_of s) i 0 ≡ get_or s.counts i 0
    at zero l = refl
    at (suc zero) l = refl
    at (suc (suc zero)) l = refl
    at (suc (suc (suc i))) l = absurd (omega arith)

-- instance_of: what its copies and stores leave
pub copied : {s : SortingSection} {a b c : List ℕ} → SortingSound s → a ≡ s.scan → b ≡ s.desk → c ≡ s.weight
    → counts_of s ++ (a ++ (b ++ (c ++ []))) ≡ instance_of s
unfolding instance_of
copied {s} {a} {b} {c} h p q r = rw (p, q, r, append-nil) (ap (λ (x : List ℕ). x ++ (s.scan ++ (s.desk ++ s.weight))) (counts_are s h))
