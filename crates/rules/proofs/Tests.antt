-- The rules as tests that can be computed, by index as the rules are: each test says whether the timetable obeys them under the ceiling c (`mosaic_decided`,
-- `sorting_decided`, `flight_decided`).
use Prim.Native.Nat.{ℕ, zero, suc, ◌+◌, ◌-◌, ◌*◌, ◌≤◌, ◌<◌}
use mathlib.Core.Path.{◌≡◌, refl, sym, ap, subst, ◌∙◌}
use mathlib.Core.Bool.{Bool, true, false, not, ◌&&◌, ◌||◌, true≢false}
use mathlib.Core.List.{List}
use mathlib.Core.Logic.{◌⊎◌, inl, inr, ⊎_elim}
use native.Mathlib.Decide.{ℕ_discrete}
use native.Mathlib.Omega.{arith}
use lib.ListN.{length, get_or}
use lib.Dec.{ltb, leb, eqb}
use borrow.Author.Tests.{lt-ltb, le-leb, eq-eqb, ltb-true, leb-true, eqb-true}
use Rattle.base.specs.Branch.{both}
use Rattle.order.specs.Order.{is_proper, Decides}
use Rattle.order.specs.Decided.{proper_true, true_proper}
use Rattle.order.specs.Passes.{pass_at}
use Rattle.sheet.specs.declared.MosaicSection.{MosaicSection}
use Rattle.sheet.specs.declared.SortingSection.{SortingSection}
use Rattle.sheet.specs.declared.FlightSection.{FlightSection}
use Rattle.rules.specs.Mosaic.{batch_at, batch_before, finish_due, BatchUnder, MosaicUnder}
use Rattle.rules.specs.Sorting.{strips_of, scan_end, desk_finish, job_at, jobs_of, JobUnder, SortingUnder}
use Rattle.rules.specs.Flight.{passes_at, pass_start, pass_end, second_due, DelayKept, clear_at, Clear, FlightUnder, Keeps, OrderAllowed}
use Rattle.rules.specs.declared.Batch.{Batch}
use Rattle.rules.specs.declared.Job.{Job}
use Rattle.rules.specs.declared.Passes.{Passes}

-- a test that holds of all numbers below n
unfoldable pub all_below : ℕ → (ℕ → Bool) → Bool
all_below zero t = true
all_below (suc n) t = all_below n t && t n

join : (a b : Bool) → a ≡ true → b ≡ true → a && b ≡ true
join a b p q = rw (p, q)

either : (a b : Bool) → a || b ≡ true → (a ≡ true) ⊎ (b ≡ true)
either true b e = inl refl
either false b e = inr e

left : (a b : Bool) → a ≡ true → a || b ≡ true
left a b p = rw p

right : (a b : Bool) → b ≡ true → a || b ≡ true
right true b q = refl
right false b q = q

apply : (a b : Bool) → not a || b ≡ true → a ≡ true → b ≡ true
apply true b e p = e
apply false b e p = absurd (true≢false (sym p))

suppose : (a b : Bool) → (a ≡ true → b ≡ true) → not a || b ≡ true
suppose true b h = h refl
suppose false b h = refl

all_true : (n : ℕ) (t : ℕ → Bool) → all_below n t ≡ true → (i : ℕ) → i < n → t i ≡ true
unfolding all_below
all_true zero t e i l = absurd (omega arith)
all_true (suc n) t e i l = go (both (all_below n t) (t n) e) (ℕ_discrete i n) (λ p. all_true n t p i)
  where
    go : (all_below n t ≡ true) × (t n ≡ true) → Dec (i ≡ n) → (all_below n t ≡ true → i < n → t i ≡ true) → t i ≡ true
    go w (yes q) ih = ap t q ∙ w.1
    go w (no q) ih = ih w.0 (omega arith)

true_all : (n : ℕ) (t : ℕ → Bool) → ((i : ℕ) → i < n → t i ≡ true) → all_below n t ≡ true
unfolding all_below
true_all zero t h = refl
true_all (suc n) t h = join (all_below n t) (t n) (true_all n t (λ i l. h i (omega arith))) (h n (omega arith))

decides : (P : Type 0) (r : Bool) → (r ≡ true → P) → (P → r ≡ true) → Decides P r
decides P r f g = record { holds = f; fails = λ e p. true≢false (sym (g p) ∙ e) }

-- The mosaic.
unfoldable pub batch_test : ℕ → MosaicSection → Batch → Batch → Bool
batch_test c m before b =
    ltb before.last b.last
    && (leb before.finish b.start
    && (eqb b.finish (finish_due m before b)
    && leb b.finish c))

unfoldable pub batches_test : ℕ → MosaicSection → List Batch → ℕ → Bool
batches_test c m bs i = batch_test c m (batch_before bs i) (batch_at bs i)

unfoldable pub is_mosaic : ℕ → MosaicSection → List Batch → Bool
is_mosaic c m bs = eqb (batch_before bs (length bs)).last m.strips && all_below (length bs) (batches_test c m bs)

module _ (m : MosaicSection) (before b : Batch) (c : ℕ) where
  batch_true : batch_test c m before b ≡ true → BatchUnder c m before b
  unfolding batch_test
  batch_true e =
      let p = both _ _ e in
      let q = both _ _ p.1 in
      let r = both _ _ q.1 in
      record {
        rises = ltb-true _ _ p.0;
        waits_batch = leb-true _ _ q.0;
        finishes = eqb-true _ _ r.0;
        within = leb-true _ _ r.1;
      }

  true_batch : BatchUnder c m before b → batch_test c m before b ≡ true
  unfolding batch_test
  true_batch L =
      join _ _ (lt-ltb _ _ L.rises)
      (join _ _ (le-leb _ _ L.waits_batch)
      (join _ _ (eq-eqb _ _ L.finishes) (le-leb _ _ L.within)))

module _ (m : MosaicSection) (bs : List Batch) (c : ℕ) where
  mosaic_true : is_mosaic c m bs ≡ true → MosaicUnder c m bs
  unfolding is_mosaic batches_test
  mosaic_true e =
      let w = both (eqb (batch_before bs (length bs)).last m.strips) (all_below (length bs) (batches_test c m bs)) e in
      record {
        each = λ i l. batch_true m (batch_before bs i) (batch_at bs i) c (all_true (length bs) (batches_test c m bs) w.1 i l);
        covers = eqb-true _ _ w.0;
      }

  true_mosaic : MosaicUnder c m bs → is_mosaic c m bs ≡ true
  unfolding is_mosaic batches_test
  true_mosaic L =
      join _ _ (eq-eqb _ _ L.covers)
      (true_all (length bs) (batches_test c m bs) (λ i l. true_batch m (batch_before bs i) (batch_at bs i) c (L.each i l)))

  pub mosaic_decided : Decides (MosaicUnder c m bs) (is_mosaic c m bs)
  mosaic_decided = decides (MosaicUnder c m bs) (is_mosaic c m bs) mosaic_true true_mosaic

-- The sorting.
unfoldable pub job_test : ℕ → SortingSection → Job → Bool
job_test c s j = leb 1 j.desk && (leb j.desk s.desks && (leb (scan_end s j) j.start && leb (desk_finish s j) c))

-- job i is the next strip of its desk
unfoldable pub turn_test : List Job → ℕ → Bool
turn_test js i = eqb (job_at js i).number (jobs_of js (job_at js i).desk i + 1)

-- two jobs of which the first comes earlier in the list
unfoldable pub jobs_test : SortingSection → Job → Job → Bool
jobs_test s a b = leb (scan_end s a) b.scan && (not (eqb a.desk b.desk) || leb (desk_finish s a) b.start)

unfoldable pub is_sorting : ℕ → SortingSection → List Job → Bool
is_sorting c s js =
    all_below (length js) (λ i. job_test c s (job_at js i))
    && (all_below (length js) (turn_test js)
    && (all_below s.desks (λ d. eqb (jobs_of js (d + 1) (length js)) (strips_of s (d + 1)))
    && all_below (length js) (λ k. all_below k (λ i. jobs_test s (job_at js i) (job_at js k)))))

module _ (s : SortingSection) (j : Job) (c : ℕ) where
  job_true : job_test c s j ≡ true → JobUnder c s j
  unfolding job_test
  job_true e =
      let p = both _ _ e in
      let q = both _ _ p.1 in
      let r = both _ _ q.1 in
      record { least_desk = leb-true _ _ p.0; most_desk = leb-true _ _ q.0; after_scan = leb-true _ _ r.0; within = leb-true _ _ r.1 }

  true_job : JobUnder c s j → job_test c s j ≡ true
  unfolding job_test
  true_job L =
      join _ _ (le-leb _ _ L.least_desk)
      (join _ _ (le-leb _ _ L.most_desk)
      (join _ _ (le-leb _ _ L.after_scan) (le-leb _ _ L.within)))

module _ (s : SortingSection) (js : List Job) where
  record JobsTested (a b : Job) : Type 0 where
    pub one_scan : scan_end s a ≤ b.scan
    pub one_job : a.desk ≡ b.desk → desk_finish s a ≤ b.start

  jobs_tested : (a b : Job) → jobs_test s a b ≡ true → JobsTested a b
  unfolding jobs_test
  jobs_tested a b e =
      let w = both _ _ e in
      record {
        one_scan = leb-true _ _ w.0;
        one_job = λ q. leb-true _ _
            (apply (eqb a.desk b.desk) (leb (desk_finish s a) b.start) w.1 (eq-eqb _ _ q));
      }

  strips_at : (desk : ℕ) → 1 ≤ desk → jobs_of js (desk - 1 + 1) (length js) ≡ strips_of s (desk - 1 + 1) → jobs_of js desk (length js) ≡ strips_of s desk
  strips_at desk p e = subst (λ (d : ℕ). jobs_of js d (length js) ≡ strips_of s d) (omega arith) e

  module _ (c : ℕ) where
    sorting_true : is_sorting c s js ≡ true → SortingUnder c s js
    unfolding is_sorting turn_test
    sorting_true e =
        let w = both _ _ e in
        let u = both _ _ w.1 in
        let v = both _ _ u.1 in
        let pair : (i k : ℕ) → i < k → k < length js → JobsTested (job_at js i) (job_at js k)
        = λ i k h l. jobs_tested (job_at js i) (job_at js k) (all_true k (λ i. jobs_test s (job_at js i) (job_at js k)) (all_true (length js) (λ k. all_below k (λ i. jobs_test s (job_at js i) (job_at js k))) v.1 k l) i h) in
        record {
          each = λ i l. job_true s (job_at js i) c (all_true (length js) (λ i. job_test c s (job_at js i)) w.0 i l);
          in_turn = λ i l. eqb-true _ _ (all_true (length js) (turn_test js) u.0 i l);
          all_strips =
              λ desk p q. strips_at desk p (eqb-true _ _ (all_true s.desks (λ d. eqb (jobs_of js (d + 1) (length js)) (strips_of s (d + 1))) v.0 (desk - 1) (omega arith)));
          one_scan = λ i k h l. (pair i k h l).one_scan;
          one_job = λ i k h l q. (pair i k h l).one_job q;
        }

    true_sorting : SortingUnder c s js → is_sorting c s js ≡ true
    unfolding is_sorting turn_test jobs_test
    true_sorting L =
        join _ _ (true_all (length js) (λ i. job_test c s (job_at js i)) (λ i l. true_job s (job_at js i) c (L.each i l)))
        (join _ _ (true_all (length js) (turn_test js) (λ i l. eq-eqb _ _ (L.in_turn i l)))
        (join _ _
        (true_all s.desks (λ d. eqb (jobs_of js (d + 1) (length js)) (strips_of s (d + 1))) (λ d l. eq-eqb _ _ (L.all_strips (d + 1) (omega arith) (omega arith))))
        (true_all (length js) (λ k. all_below k (λ i. jobs_test s (job_at js i) (job_at js k))) (λ k l.
        true_all k (λ i. jobs_test s (job_at js i) (job_at js k)) (λ i h.
        join _ _ (le-leb _ _ (L.one_scan i k h l))
        (suppose (eqb (job_at js i).desk (job_at js k).desk) (leb (desk_finish s (job_at js i)) (job_at js k).start) (λ q. le-leb _ _ (L.one_job i k h l (eqb-true _ _ q)))))))))

    pub sorting_decided : Decides (SortingUnder c s js) (is_sorting c s js)
    sorting_decided = decides (SortingUnder c s js) (is_sorting c s js) sorting_true true_sorting

-- The flight, with its order.
unfoldable pub block_test : FlightSection → List Passes → ℕ → Bool
block_test f ps i =
    leb (second_due f i (passes_at ps i) (get_or f.shortest i 0)) (passes_at ps i).second
    && leb (passes_at ps i).second (second_due f i (passes_at ps i) (get_or f.longest i 0))

-- pass q comes after pass p, clear of it
unfoldable pub clear_test : FlightSection → List Passes → ℕ → ℕ → Bool
clear_test f ps p q = leb (clear_at f ps p) (pass_start f ps q)

unfoldable pub apart_test : FlightSection → List Passes → ℕ → ℕ → Bool
apart_test f ps p q = eqb p q || (clear_test f ps p q || clear_test f ps q p)

unfoldable pub is_flight : ℕ → FlightSection → List Passes → Bool
is_flight c f ps =
    eqb (length ps) f.blocks
    && (all_below f.blocks (block_test f ps)
    && (all_below (2 * f.blocks) (λ p. all_below (2 * f.blocks) (apart_test f ps p))
    && all_below (2 * f.blocks) (λ p. leb (pass_end f ps p) c)))

-- the pass at position k starts after each pass before it in the order
unfoldable pub start_test : FlightSection → ℕ → List Passes → ℕ → ℕ → Bool
start_test f order ps k j = ltb (pass_start f ps (pass_at f.blocks order j)) (pass_start f ps (pass_at f.blocks order k))

unfoldable pub keeps_order : FlightSection → ℕ → List Passes → Bool
keeps_order f order ps = all_below (2 * f.blocks) (λ k. all_below k (start_test f order ps k))

unfoldable pub may_have_order : FlightSection → ℕ → Bool
may_have_order f order = is_proper f.blocks order && (not f.ordered || eqb order f.order)

module _ (f : FlightSection) (ps : List Passes) where
  apart_true : (p q : ℕ) → apart_test f ps p q ≡ true → (p ≡ q → ⊥) → Clear f ps p q ⊎ Clear f ps q p
  unfolding apart_test clear_test
  apart_true p q e ne =
      ⊎_elim (λ h. absurd (ne (eqb-true p q h)))
      (λ h. ⊎_elim (λ a. inl (leb-true _ _ a)) (λ b. inr (leb-true _ _ b)) (either (clear_test f ps p q) (clear_test f ps q p) h))
      (either (eqb p q) (clear_test f ps p q || clear_test f ps q p) e)

  true_apart : (p q : ℕ) → ((p ≡ q → ⊥) → Clear f ps p q ⊎ Clear f ps q p) → apart_test f ps p q ≡ true
  unfolding apart_test clear_test
  true_apart p q h = go (ℕ_discrete p q)
    where
      go : Dec (p ≡ q) → eqb p q || (clear_test f ps p q || clear_test f ps q p) ≡ true
      go (yes e) = left (eqb p q) _ (eq-eqb p q e)
      go (no n) =
          right (eqb p q) _
          (⊎_elim (λ a. left (clear_test f ps p q) _ (le-leb _ _ a)) (λ b. right (clear_test f ps p q) _ (le-leb _ _ b)) (h n))

  delay_true : (i : ℕ) → block_test f ps i ≡ true → DelayKept f i (passes_at ps i)
  unfolding block_test
  delay_true i e = let p = both _ _ e in record { at_least = leb-true _ _ p.0; at_most = leb-true _ _ p.1 }

  true_delay : (i : ℕ) → DelayKept f i (passes_at ps i) → block_test f ps i ≡ true
  unfolding block_test
  true_delay i k = join _ _ (le-leb _ _ k.at_least) (le-leb _ _ k.at_most)

  module _ (c : ℕ) where
    flight_true : is_flight c f ps ≡ true → FlightUnder c f ps
    unfolding is_flight block_test
    flight_true e =
        let a = both _ _ e in
        let b = both _ _ a.1 in
        let d = both _ _ b.1 in
        record {
          every_block = eqb-true _ _ a.0;
          delay_kept = λ i l. delay_true i (all_true f.blocks (block_test f ps) b.0 i l);
          apart =
              λ p q lp lq ne. apart_true p q (all_true (2 * f.blocks) (apart_test f ps p) (all_true (2 * f.blocks) (λ p. all_below (2 * f.blocks) (apart_test f ps p)) d.0 p lp) q lq) ne;
          within = λ p l. leb-true _ _ (all_true (2 * f.blocks) (λ p. leb (pass_end f ps p) c) d.1 p l);
        }

    true_flight : FlightUnder c f ps → is_flight c f ps ≡ true
    unfolding is_flight block_test
    true_flight L =
        join _ _ (eq-eqb _ _ L.every_block)
        (join _ _ (true_all f.blocks (block_test f ps) (λ i l. true_delay i (L.delay_kept i l)))
        (join _ _
        (true_all (2 * f.blocks) (λ p. all_below (2 * f.blocks) (apart_test f ps p)) (λ p lp.
        true_all (2 * f.blocks) (apart_test f ps p) (λ q lq. true_apart p q (λ ne. L.apart p q lp lq ne))))
        (true_all (2 * f.blocks) (λ p. leb (pass_end f ps p) c) (λ p l. le-leb _ _ (L.within p l)))))

    pub flight_decided : Decides (FlightUnder c f ps) (is_flight c f ps)
    flight_decided = decides (FlightUnder c f ps) (is_flight c f ps) flight_true true_flight

  module _ (order : ℕ) where
    keeps_true : keeps_order f order ps ≡ true → Keeps f order ps
    unfolding keeps_order start_test
    keeps_true e =
        record { by_start = λ j k h l. ltb-true _ _ (all_true k (start_test f order ps k) (all_true _ (λ k. all_below k (start_test f order ps k)) e k l) j h) }

    true_keeps : Keeps f order ps → keeps_order f order ps ≡ true
    unfolding keeps_order start_test
    true_keeps K = true_all _ (λ k. all_below k (start_test f order ps k)) (λ k l. true_all k (start_test f order ps k) (λ j h. lt-ltb _ _ (K.by_start j k h l)))

    pub keeps_decided : Decides (Keeps f order ps) (keeps_order f order ps)
    keeps_decided = decides (Keeps f order ps) (keeps_order f order ps) keeps_true true_keeps

module _ (f : FlightSection) (order : ℕ) where
  order_true : may_have_order f order ≡ true → OrderAllowed f order
  unfolding may_have_order
  order_true e =
      let w = both (is_proper f.blocks order) (not f.ordered || eqb order f.order) e in
      record { proper = proper_true f.blocks order w.0; as_given = λ g. eqb-true _ _ (apply f.ordered (eqb order f.order) w.1 g) }

  true_order : OrderAllowed f order → may_have_order f order ≡ true
  unfolding may_have_order
  true_order A = join _ _ (true_proper f.blocks order A.proper) (suppose f.ordered (eqb order f.order) (λ g. eq-eqb _ _ (A.as_given g)))

  pub order_decided : Decides (OrderAllowed f order) (may_have_order f order)
  order_decided = decides (OrderAllowed f order) (may_have_order f order) order_true true_order
