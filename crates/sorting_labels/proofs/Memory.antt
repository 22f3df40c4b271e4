-- The dominance memory. A state that a label dominates has no completion below those of the label's state, and a label is stored once its state is explored:
-- so what a label dominates is bounded by the incumbent. That is the memory's invariant: it is stated by its use.
use Rattle.std.specs.Prelude.{◌≡◌, set}
use Rattle.std.proofs.Common.{sym, ◌∙◌, le_trans, arith, ext_get_or}
use Rattle.std.proofs.Math.Path.{ap, subst}
use mathlib.Core.List.{List}
use Prim.Native.Nat.{ℕ, zero, suc, ◌+◌, ◌-◌, ◌*◌, ◌≤◌, ◌<◌, max}
use Rattle.std.proofs.Math.Nat.{mul-le-mul_left}
use Rattle.std.proofs.Math.Decide.{ℕ_discrete}
use Rattle.std.proofs.Math.ListN.{length, get_or, length-set, get_or-eq_default}
use Rattle.std.proofs.Math.Seq.{get_or-set_same, get_or-set_other}
use Rattle.interleaving.specs.declared.State.{State}
use Rattle.interleaving.specs.declared.Incumbent.{Incumbent}
use Rattle.interleaving.specs.Instance.{Instance, desk_of, weight_of}
use Rattle.interleaving.specs.Search.{scanned, finish, step_of, search_from, LowerBound}
use Rattle.interleaving.proofs.SearchLaws.{max_left, max_right, max_least, bound_down, search_falls}
use Rattle.interleaving.specs.Consistent.{Consistent, sum3, scan_sum}
use Rattle.sorting_bounds.specs.Layout.{count_key, labels_length, key_digits}
use Rattle.sorting_labels.specs.Labels.{no_label, label_place, LabelDominates, Dominated, store_label, costliest, with_label}
use Rattle.sorting_labels.proofs.Labels.{costliest_few}
use Rattle.sorting_labels.specs.Memory.{Dominates, LabelsHold}

module _ (J : List ℕ) where
  finish_mono : (s z : State) (d : ℕ) → Dominates s z → finish J s d ≤ finish J z d
  finish_mono s z d m =
      omega (arith, max_least (get_or s.free d 0) (scanned J s d) (max (get_or z.free d 0) (scanned J z d)) (le_trans (m.free d) (max_left _ _)) (rw same (max_right _ _)), works)
    where
      same : scanned J s d ≡ scanned J z d
      same = rw (m.time, m.taken)

      works : desk_of J d (get_or s.taken d 0) ≡ desk_of J d (get_or z.taken d 0)
      works = rw m.taken

  dominates_step : (s z : State) (d : ℕ) → d < 3 → Dominates s z → Dominates (step_of J s d) (step_of J z d)
  unfolding step_of
  dominates_step s z d p m = record {
    time = rw (m.time, m.taken);
    taken = rw m.taken;
    frees = simp length-set m.frees;
    frees' = simp length-set m.frees';
    free = λ e. go e (ℕ_discrete e d);
    cost =
        omega (arith, m.cost, mul-le-mul_left (weight_of J d (get_or s.taken d 0)) (finish_mono s z d m), ap (λ (T : List ℕ). weight_of J d (get_or T d 0) * finish J z d) m.taken);
  }
    where
      go : (e : ℕ) → Dec (e ≡ d) → get_or (set s.free d (finish J s d)) e 0 ≤ get_or (set z.free d (finish J z d)) e 0
      go e (yes q) =
          rw (q, get_or-set_same s.free d (finish J s d) 0 (omega (arith, m.frees)), get_or-set_same z.free d (finish J z d) 0 (omega (arith, m.frees')))
          (finish_mono s z d m)
      go e (no q) = rw (get_or-set_other s.free d e (finish J s d) 0 q, get_or-set_other z.free d e (finish J z d) 0 q) (m.free e)

  bound_dominates : (k : ℕ) (s z : State) (B : ℕ) → Dominates s z → LowerBound J k s B → LowerBound J k z B
  unfolding LowerBound
  bound_dominates zero s z B m h = omega (arith, m.cost)
  bound_dominates (suc k) s z B m h = λ d p l. bound_dominates k (step_of J s d) (step_of J z d) B (dominates_step s z d p m) (h d p (rw m.taken l))

labels_down : (J M : List ℕ) (B C : ℕ) → C ≤ B → LabelsHold J M B → LabelsHold J M C
unfolding LabelsHold
labels_down J M B C l h = λ s g c. bound_down J s.left s B C l (h s g c)

-- what the memory dominates is bounded
pub labels_bound : (J M : List ℕ) (s : State) (B : ℕ) → LabelsHold J M B → Consistent J s → Dominated M s → LowerBound J s.left s B
unfolding LabelsHold
labels_bound J M s B h g c = h s g c

module _ (M : List ℕ) (a : ℕ) (s : State) where
  store_other : (x : ℕ) → (x ≡ a → ⊥) → (x ≡ a + 1 → ⊥) → (x ≡ a + 2 → ⊥) → (x ≡ a + 3 → ⊥) → get_or (store_label M a s) x 0 ≡ get_or M x 0
  store_other x p q r t =
      get_or-set_other (set (set (set M a s.cost) (a + 1) (get_or s.free 0 0)) (a + 2) (get_or s.free 1 0)) (a + 3) x (get_or s.free 2 0) 0 t
      ∙ get_or-set_other (set (set M a s.cost) (a + 1) (get_or s.free 0 0)) (a + 2) x (get_or s.free 1 0) 0 r
      ∙ get_or-set_other (set M a s.cost) (a + 1) x (get_or s.free 0 0) 0 q
      ∙ get_or-set_other M a x s.cost 0 p

  module _ (h : a + 3 < length M) where
    store_0 : get_or (store_label M a s) a 0 ≡ s.cost
    store_0 =
        get_or-set_other (set (set (set M a s.cost) (a + 1) (get_or s.free 0 0)) (a + 2) (get_or s.free 1 0)) (a + 3) a (get_or s.free 2 0) 0
        (λ e. omega arith)
        ∙ get_or-set_other (set (set M a s.cost) (a + 1) (get_or s.free 0 0)) (a + 2) a (get_or s.free 1 0) 0 (λ e. omega arith)
        ∙ get_or-set_other (set M a s.cost) (a + 1) a (get_or s.free 0 0) 0 (λ e. omega arith)
        ∙ get_or-set_same M a s.cost 0 (omega arith)

    store_1 : get_or (store_label M a s) (a + 1) 0 ≡ get_or s.free 0 0
    store_1 =
        get_or-set_other (set (set (set M a s.cost) (a + 1) (get_or s.free 0 0)) (a + 2) (get_or s.free 1 0)) (a + 3) (a + 1) (get_or s.free 2 0) 0
        (λ e. omega arith)
        ∙ get_or-set_other (set (set M a s.cost) (a + 1) (get_or s.free 0 0)) (a + 2) (a + 1) (get_or s.free 1 0) 0 (λ e. omega arith)
        ∙ get_or-set_same (set M a s.cost) (a + 1) (get_or s.free 0 0) 0 (simp length-set (omega arith))

    store_2 : get_or (store_label M a s) (a + 2) 0 ≡ get_or s.free 1 0
    store_2 =
        get_or-set_other (set (set (set M a s.cost) (a + 1) (get_or s.free 0 0)) (a + 2) (get_or s.free 1 0)) (a + 3) (a + 2) (get_or s.free 2 0) 0
        (λ e. omega arith)
        ∙ get_or-set_same (set (set M a s.cost) (a + 1) (get_or s.free 0 0)) (a + 2) (get_or s.free 1 0) 0 (simp length-set (omega arith))

    store_3 : get_or (store_label M a s) (a + 3) 0 ≡ get_or s.free 2 0
    store_3 =
        get_or-set_same (set (set (set M a s.cost) (a + 1) (get_or s.free 0 0)) (a + 2) (get_or s.free 1 0)) (a + 3) (get_or s.free 2 0) 0
        (simp length-set (omega arith))

module _ (J : List ℕ) (j : Instance J) where
  -- equal numbers, equal counts
  same_counts : (s z : State) → Consistent J s → Consistent J z → count_key s ≡ count_key z → s.taken ≡ z.taken
  same_counts s z g h e = ext_get_or 0 s.taken z.taken (g.fits.takens ∙ sym h.fits.takens) (λ i l. go i (omega (arith, g.fits.takens)))
    where
      go : (i : ℕ) → i < 3 → get_or s.taken i 0 ≡ get_or z.taken i 0
      go zero p = omega (arith, key_digits J j s g, key_digits J j z h)
      go (suc zero) p = omega (arith, key_digits J j s g, key_digits J j z h)
      go (suc (suc zero)) p = omega (arith, key_digits J j s g, key_digits J j z h)
      go (suc (suc (suc i))) p = absurd (omega arith)

  dominated : (s z : State) → Consistent J s → Consistent J z → count_key s ≡ count_key z → s.cost ≤ z.cost → get_or s.free 0 0 ≤ get_or z.free 0 0
      → get_or s.free 1 0 ≤ get_or z.free 1 0 → get_or s.free 2 0 ≤ get_or z.free 2 0 → Dominates s z
  dominated s z g h e c p q r = record {
    time = g.time ∙ ap (sum3 (scan_sum J)) same ∙ sym h.time;
    taken = same;
    frees = g.fits.frees;
    frees' = h.fits.frees;
    free = go;
    cost = c;
  }
    where
      same : s.taken ≡ z.taken
      same = same_counts s z g h e

      go : (d : ℕ) → get_or s.free d 0 ≤ get_or z.free d 0
      go zero = p
      go (suc zero) = q
      go (suc (suc zero)) = r
      go (suc (suc (suc d))) = rw (get_or-eq_default s.free 0 {n = suc (suc (suc d))} (omega (arith, g.fits.frees))) (omega arith)

  key_small : (s : State) → Consistent J s → count_key s < 343
  key_small s g = omega (arith, key_digits J j s g)

  pub labels_store : (M : List ℕ) (s : State) (slot B : ℕ) → labels_length ≤ length M → slot < 4 → Consistent J s → LabelsHold J M B → LowerBound J s.left s B
      → LabelsHold J (store_label M (label_place (count_key s) slot) s) B
  unfolding LabelsHold
  labels_store M s slot B size l g h b = λ z k c. go z k c (ℕ_discrete (label_place (count_key z) c.slot) (label_place (count_key s) slot))
    where
      room : label_place (count_key s) slot + 3 < length M
      room = omega (arith, key_small s g)

      go : (z : State) → Consistent J z → (c : Dominated (store_label M (label_place (count_key s) slot) s) z)
          → Dec (label_place (count_key z) c.slot ≡ label_place (count_key s) slot) → LowerBound J z.left z B
      go z k c (yes e) = subst (λ (n : ℕ). LowerBound J n z B) (sym left) (bound_dominates J s.left s z B under b)
        where
          same : count_key s ≡ count_key z
          same = omega (arith, c.few)

          left : z.left ≡ s.left
          left = k.left ∙ ap (sum3 (λ d i. get_or J d 0 - i)) (sym (same_counts s z g k same)) ∙ sym g.left

          u : LabelDominates (store_label M (label_place (count_key s) slot) s) (label_place (count_key s) slot) z
          u = rw e at c.under

          under : Dominates s z
          under =
              dominated s z g k same (rw (store_0 M (label_place (count_key s) slot) s room) at u.cost)
              (rw (store_1 M (label_place (count_key s) slot) s room) at u.one)
              (rw (store_2 M (label_place (count_key s) slot) s room) at u.two) (rw (store_3 M (label_place (count_key s) slot) s room) at u.three)
      go z k c (no n) = h z k (record { slot = c.slot; few = c.few; under = u })
        where
          apart : (x y : ℕ) → x < 4 → y < 4 → label_place (count_key z) c.slot + x ≡ label_place (count_key s) slot + y → ⊥
          apart x y p q e = n (omega arith)

          same : (x : ℕ) → x < 4
              → get_or (store_label M (label_place (count_key s) slot) s) (label_place (count_key z) c.slot + x) 0
              ≡ get_or M (label_place (count_key z) c.slot + x) 0
          same x p =
              store_other M (label_place (count_key s) slot) s _ (λ e. apart x 0 p (omega arith) (omega arith)) (apart x 1 p (omega arith))
              (apart x 2 p (omega arith)) (apart x 3 p (omega arith))

          u : LabelDominates M (label_place (count_key z) c.slot) z
          u = record {
            cost =
                omega (arith, c.under.cost, store_other M (label_place (count_key s) slot) s (label_place (count_key z) c.slot) n (λ e. apart 0 1 (omega arith) (omega arith) (omega arith)) (λ e. apart 0 2 (omega arith) (omega arith) (omega arith)) (λ e. apart 0 3 (omega arith) (omega arith) (omega arith)));
            one = omega (arith, c.under.one, same 1 (omega arith));
            two = omega (arith, c.under.two, same 2 (omega arith));
            three = omega (arith, c.under.three, same 3 (omega arith));
          }

pub labels_search : (J M : List ℕ) (k : ℕ) (s : State) (b r : Incumbent) → LabelsHold J M b.figure → r ≡ search_from J k s b → LabelsHold J M r.figure
labels_search J M k s b r h e = labels_down J M b.figure r.figure (rw e (search_falls J k s b)) h

-- it changes no number behind the labels, and no length
pub stored_behind : (M : List ℕ) (k : ℕ) (s : State) → k < 343 → (x : ℕ) → labels_length ≤ x → get_or (with_label M k s) x 0 ≡ get_or M x 0
unfolding with_label
stored_behind M k s l x p =
    store_other M (label_place k (costliest M k)) s x (λ e. apart 0 (omega arith) (omega arith)) (apart 1 (omega arith)) (apart 2 (omega arith))
    (apart 3 (omega arith))
  where
    apart : (y : ℕ) → y < 4 → x ≡ label_place k (costliest M k) + y → ⊥
    apart y q e = omega (arith, costliest_few M k)

pub stored_length : (M : List ℕ) (k : ℕ) (s : State) → length (with_label M k s) ≡ length M
unfolding with_label
stored_length M k s = simp length-set

-- a table without labels
pub labels_none : (J : List ℕ) → Instance J → (M : List ℕ) (B : ℕ) → ((i : ℕ) → i < labels_length → get_or M i 0 ≡ no_label) → LabelsHold J M B
unfolding LabelsHold
labels_none J j M B e = λ s g c. absurd (go s g c)
  where
    go : (s : State) → Consistent J s → Dominated M s → ⊥
    go s g c = omega (arith, c.under.cost, e (label_place (count_key s) c.slot) (omega (arith, key_small J j s g, c.few)), g.fits.cost)
