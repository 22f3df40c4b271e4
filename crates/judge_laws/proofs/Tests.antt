-- Each test of the judge decides its rule: where it answers true the rule as it runs over the members holds, and where the rule holds it answers true.
-- The parts of a conjunction are the fields of the rule's record, in their order; the tests over desks and passes go one by one.
use Prim.Native.Nat.{ℕ, zero, suc, ◌+◌, ◌-◌, ◌*◌, ◌<◌}
use Rattle.std.specs.Prelude.{◌≡◌, Bool, false, not, ◌&&◌, ◌||◌, List, length, leb, eqb}
use Rattle.std.proofs.Math.Path.{refl, sym, subst}
use Rattle.std.proofs.Common.{◌∙◌}
use Rattle.std.proofs.Math.Bool.{true}
use Rattle.std.proofs.Math.Decide.{ℕ_discrete}
use native.Mathlib.Omega.{arith}
use Rattle.std.proofs.Math.ListN.{get_or}
use borrow.Author.Tests.{lt-ltb, le-leb, eq-eqb, ltb-true, leb-true, eqb-true}
use Rattle.base.specs.Branch.{both}
use Rattle.order.specs.Decided.{proper_true, true_proper}
use Rattle.order.specs.Passes.{pass_at}
use Rattle.sheet.specs.declared.MosaicSection.{MosaicSection}
use Rattle.sheet.specs.declared.SortingSection.{SortingSection}
use Rattle.sheet.specs.declared.FlightSection.{FlightSection}
use Rattle.rules.specs.Sorting.{strips_of}
use Rattle.rules.specs.Flight.{pass_start, clear_at, Clear}
use Rattle.running.specs.Running.{BatchFollows, JobFollows, AllDone, BlockFollows, FlightHead}
use Rattle.rules.specs.declared.Batch.{Batch}
use Rattle.rules.specs.declared.Job.{Job}
use Rattle.rules.specs.declared.Passes.{Passes}
use Rattle.running.specs.declared.Desks.{Desks}
use Rattle.judge_rules.specs.Follows.{batch_in_run, batch_in_time, batch_follows, job_in_turn, job_in_time, job_follows, block_in_time, block_follows, all_done}
use Rattle.judge_rules.specs.Follows.{passes_in_order, flight_head}

-- a conjunction of two that hold
all_of : (a b : Bool) → a ≡ true → b ≡ true → (a && b) ≡ true
all_of a b p q = rw (p, q)

module _ (m : MosaicSection) (before b : Batch) where
  pub true_batch : batch_follows m before b ≡ true → BatchFollows m before b
  unfolding batch_follows batch_in_run batch_in_time
  true_batch e =
      let p = both _ _ e in
      let q = both _ _ p.0 in
      let r = both _ _ p.1 in
      let t = both _ _ r.1 in
      record {
        lawful = record {
          rises = ltb-true _ _ q.0;
          waits_batch = leb-true _ _ r.0;
          finishes = eqb-true _ _ t.0;
          within = leb-true _ _ t.1;
        };
        known = leb-true _ _ q.1;
      }

  pub batch_true : BatchFollows m before b → batch_follows m before b ≡ true
  unfolding batch_follows batch_in_run batch_in_time
  batch_true f =
      all_of _ _ (all_of _ _ (lt-ltb _ _ f.lawful.rises) (le-leb _ _ f.known))
      (all_of _ _ (le-leb _ _ f.lawful.waits_batch)
      (all_of _ _ (eq-eqb _ _ f.lawful.finishes) (le-leb _ _ f.lawful.within)))

module _ (s : SortingSection) (d : Desks) (j : Job) where
  pub true_job : job_follows s d j ≡ true → JobFollows s d j
  unfolding job_follows job_in_turn job_in_time
  true_job e =
      let p = both _ _ e in
      let q = both _ _ p.0 in
      let r = both _ _ q.1 in
      let t = both _ _ r.1 in
      let u = both _ _ p.1 in
      let v = both _ _ u.1 in
      let w = both _ _ v.1 in
      record {
        lawful = record {
          least_desk = leb-true _ _ q.0;
          most_desk = leb-true _ _ r.0;
          after_scan = leb-true _ _ v.0;
          within = leb-true _ _ w.1;
        };
        in_turn = eqb-true _ _ t.0;
        known = leb-true _ _ t.1;
        one_scan = leb-true _ _ u.0;
        one_job = leb-true _ _ w.0;
      }

  pub job_true : JobFollows s d j → job_follows s d j ≡ true
  unfolding job_follows job_in_turn job_in_time
  job_true f =
      all_of _ _
      (all_of _ _ (le-leb _ _ f.lawful.least_desk)
      (all_of _ _ (le-leb _ _ f.lawful.most_desk)
      (all_of _ _ (eq-eqb _ _ f.in_turn) (le-leb _ _ f.known))))
      (all_of _ _ (le-leb _ _ f.one_scan)
      (all_of _ _ (le-leb _ _ f.lawful.after_scan)
      (all_of _ _ (le-leb _ _ f.one_job) (le-leb _ _ f.lawful.within))))

module _ (f : FlightSection) (i : ℕ) (p : Passes) where
  pub true_block : block_follows f i p ≡ true → BlockFollows f i p
  unfolding block_follows block_in_time
  true_block e =
      let q = both _ _ e in
      let r = both _ _ q.1 in
      let t = both _ _ r.1 in
      record {
        known = ltb-true _ _ q.0;
        delay_kept = record { at_least = leb-true _ _ r.0; at_most = leb-true _ _ t.0 };
        within = leb-true _ _ t.1;
      }

  pub block_true : BlockFollows f i p → block_follows f i p ≡ true
  unfolding block_follows block_in_time
  block_true b =
      all_of _ _ (lt-ltb _ _ b.known)
      (all_of _ _ (le-leb _ _ b.delay_kept.at_least) (all_of _ _ (le-leb _ _ b.delay_kept.at_most) (le-leb _ _ b.within)))

-- the desks, one by one
done_each : (counts done : List ℕ) (n : ℕ) → all_done counts done n ≡ true → (d : ℕ) → d < n → get_or done d 0 ≡ get_or counts d 0
unfolding all_done
done_each counts done zero e d h = absurd (omega arith)
done_each counts done (suc n) e d h = go (ℕ_discrete d n) (both _ _ e) (done_each counts done n)
  where
    go : Dec (d ≡ n) → (all_done counts done n ≡ true) × (eqb (get_or done n 0) (get_or counts n 0) ≡ true)
        → (all_done counts done n ≡ true → (k : ℕ) → k < n → get_or done k 0 ≡ get_or counts k 0) → get_or done d 0 ≡ get_or counts d 0
    go (yes q) p ih = subst (λ (k : ℕ). get_or done k 0 ≡ get_or counts k 0) (sym q) (eqb-true _ _ p.1)
    go (no q) p ih = ih p.0 d (omega arith)

each_done : (counts done : List ℕ) (n : ℕ) → ((d : ℕ) → d < n → get_or done d 0 ≡ get_or counts d 0) → all_done counts done n ≡ true
unfolding all_done
each_done counts done zero h = refl
each_done counts done (suc n) h = all_of _ _ (each_done counts done n (λ d l. h d (omega arith))) (eq-eqb _ _ (h n (omega arith)))

module _ (s : SortingSection) (d : Desks) where
  pub true_done : all_done s.counts d.done s.desks ≡ true → AllDone s d
  unfolding strips_of
  true_done e = record { all = λ desk p q. done_each s.counts d.done s.desks e (desk - 1) (omega arith) }

  pub done_true : AllDone s d → all_done s.counts d.done s.desks ≡ true
  unfolding strips_of
  done_true a = each_done s.counts d.done s.desks (λ k l. each k l)
    where
      each : (k : ℕ) → k < s.desks → get_or d.done k 0 ≡ get_or s.counts k 0
      each k l =
          let q : k + 1 - 1 ≡ k = omega arith in
          subst (λ (i : ℕ). get_or d.done i 0 ≡ get_or s.counts i 0) q (a.all (k + 1) (omega arith) (omega arith))

-- the passes, one by one
module _ (f : FlightSection) (order : ℕ) (ps : List Passes) where
  order_each : (n : ℕ) → passes_in_order f order ps n ≡ true → (k : ℕ) → k < n → Clear f ps (pass_at f.blocks order k) (pass_at f.blocks order (k + 1))
  unfolding passes_in_order
  order_each zero e k h = absurd (omega arith)
  order_each (suc n) e k h = go (ℕ_discrete k n) (both _ _ e) (order_each n)
    where
      go : Dec (k ≡ n)
          → (passes_in_order f order ps n ≡ true) × (leb (clear_at f ps (pass_at f.blocks order n)) (pass_start f ps (pass_at f.blocks order (n + 1))) ≡ true)
          → (passes_in_order f order ps n ≡ true → (i : ℕ) → i < n → Clear f ps (pass_at f.blocks order i) (pass_at f.blocks order (i + 1)))
          → Clear f ps (pass_at f.blocks order k) (pass_at f.blocks order (k + 1))
      go (yes q) p ih = subst (λ (i : ℕ). Clear f ps (pass_at f.blocks order i) (pass_at f.blocks order (i + 1))) (sym q) (leb-true _ _ p.1)
      go (no q) p ih = ih p.0 k (omega arith)

  each_order : (n : ℕ) → ((k : ℕ) → k < n → Clear f ps (pass_at f.blocks order k) (pass_at f.blocks order (k + 1))) → passes_in_order f order ps n ≡ true
  unfolding passes_in_order
  each_order zero h = refl
  each_order (suc n) h = all_of _ _ (each_order n (λ k l. h k (omega arith))) (le-leb _ _ (h n (omega arith)))

  given_is : (o : Bool) (x : ℕ) → (not o || eqb order x) ≡ true → o ≡ true → order ≡ x
  given_is true x e h = eqb-true _ _ e
  given_is false x e h = let z : ◌≡◌ {A = ℕ} 0 1 = cc in absurd (omega arith)

  is_given : (o : Bool) (x : ℕ) → (o ≡ true → order ≡ x) → (not o || eqb order x) ≡ true
  is_given true x h = eq-eqb _ _ (h refl)
  is_given false x h = refl

  module _ (members : ℕ) (em : members ≡ length ps) where
    pub true_head : flight_head f members order ps ≡ true → FlightHead f order ps
    unfolding flight_head
    true_head e =
        let p = both _ _ e in
        let q = both _ _ p.1 in
        let r = both _ _ q.1 in
        record {
          every_block = sym em ∙ eqb-true _ _ p.0;
          allowed = record { proper = proper_true f.blocks order q.0; as_given = given_is f.ordered f.order r.0 };
          in_order = λ k l. order_each (2 * f.blocks - 1) r.1 k (omega arith);
        }

    pub head_true : FlightHead f order ps → flight_head f members order ps ≡ true
    unfolding flight_head
    head_true h =
        all_of _ _ (eq-eqb _ _ (em ∙ h.every_block))
        (all_of _ _ (true_proper f.blocks order h.allowed.proper)
        (all_of _ _ (is_given f.ordered f.order h.allowed.as_given) (each_order (2 * f.blocks - 1) (λ k l. h.in_order k (omega arith)))))
