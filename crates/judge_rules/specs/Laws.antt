-- Laws of the tests: what they read is what the rules name, their sums fit, and how the loop over the desks decides.
use Rattle.std.specs.Prelude.{ℕ, zero, suc, ◌+◌, ◌-◌, ◌^◌, ◌≤◌, ◌<◌, ◌≡◌, refl, Bool, true, false, not, ◌&&◌, List, get_or, set, eqb}
use Rattle.std.proofs.Common.{sym, ap, ◌∙◌, add-one, arith}
use borrow.Author.Tests.{lt-ltb, le-ltb, eq-eqb, ne_eqb, not-true, not-false, ltb-true, leb-true, eqb-true}
use Rattle.base.specs.Branch.{both}
use Rattle.sheet.specs.Sections.{strips_of_desk}
use Rattle.sheet.specs.declared.MosaicSection.{MosaicSection}
use Rattle.sheet.specs.Limits.{most_strips_of_desk}
use Rattle.sheet.specs.declared.SortingSection.{SortingSection}
use Rattle.sheet.specs.declared.FlightSection.{FlightSection}
use Rattle.rules.specs.Mosaic.{finish_due}
use Rattle.rules.specs.Flight.{second_due}
use Rattle.rules.specs.Sorting.{strips_of, scan_time, desk_time, scan_end, desk_finish}
use Rattle.running.specs.Running.{after_job}
use Rattle.running.specs.FunctionLaws.{FinishDuePre, SlotPre, TimeTold}
use Rattle.rules.specs.declared.Batch.{Batch}
use Rattle.rules.specs.declared.Job.{Job}
use Rattle.rules.specs.declared.Passes.{Passes}
use Rattle.running.specs.declared.Desks.{Desks}
use Rattle.judge_rules.specs.Follows.{batch_in_run, batch_in_time, batch_follows, job_in_turn, job_in_time, job_follows, block_in_time, block_follows, all_done}
use Rattle.judge_rules.specs.Clauses.{BatchFollowsPre, JobFollowsPre, AfterJobPre, BlockFollowsPre}

-- batches

pub run_is : (strips before last : ℕ) → batch_in_run strips before last ≡ true → (before < last) × (last ≤ strips)
unfolding batch_in_run
run_is strips before last e = let p = both _ _ e in (ltb-true _ _ p.0, leb-true _ _ p.1)

-- the finish before may be written in any way
same_before : (x y start finish due : ℕ) → x ≡ y → batch_in_time x start finish due ≡ batch_in_time y start finish due
same_before x y start finish due e = ap (λ (z : ℕ). batch_in_time z start finish due) e

module _ (m : MosaicSection) (before b : Batch) (x : Bool) (ex : x ≡ batch_in_run m.strips before.last b.last) where
  pub batch_wrong : not x ≡ true → false ≡ batch_follows m before b
  unfolding batch_follows
  batch_wrong h = rw (← ex, not-true x h)

  module _ (h : not x ≡ false) where
    in_run : (before.last < b.last) × (b.last ≤ m.strips)
    in_run = run_is m.strips before.last b.last (sym ex ∙ not-false x h)

    pub batch_due : BatchFollowsPre m b → FinishDuePre m before b
    batch_due a = record {
      asked = record { sound = a.sound; strips = omega (arith, in_run.1, a.sound.most_strips_holds); fits = a.fits.start };
      rises = omega (arith, in_run.0);
    }

    pub batch_right : (r : Bool) (due : ℕ) → due ≡ finish_due m before b → r ≡ batch_in_time before.finish b.start b.finish due
        → r ≡ batch_follows m before b
    unfolding batch_follows
    batch_right r due u e = rw (← ex, not-false x h, ← u) (e ∙ same_before before.finish _ b.start b.finish due (omega arith))

-- jobs

strips_same : (s : SortingSection) (desk : ℕ) → strips_of_desk s.counts desk ≡ strips_of s desk
unfolding strips_of_desk strips_of
strips_same s desk = refl

turn_is : (desks strips done desk number : ℕ) → job_in_turn desks strips done desk number ≡ true
    → (1 ≤ desk) × (desk ≤ desks) × (number ≡ done + 1) × (number ≤ strips)
unfolding job_in_turn
turn_is desks strips done desk number e =
    let p = both _ _ e in
    let q = both _ _ p.1 in
    let r = both _ _ q.1 in
    (leb-true _ _ p.0, leb-true _ _ q.0, eqb-true _ _ r.0, leb-true _ _ r.1)

pub done_few : (s : SortingSection) (d : Desks) (j : Job) (done : ℕ) → JobFollowsPre s d j → done ≡ get_or d.done (j.desk - 1) 0 → done ≤ most_strips_of_desk
done_few s d j done a e = rw e (a.desks.most_done (j.desk - 1))

module _ (s : SortingSection) (d : Desks) (j : Job) (strips done : ℕ) (es : strips ≡ strips_of_desk s.counts j.desk)
    (ed : done ≡ get_or d.done (j.desk - 1) 0) (x : Bool) (ex : x ≡ job_in_turn s.desks strips done j.desk j.number) where
  turned : job_in_turn s.desks (strips_of s j.desk) (get_or d.done (j.desk - 1) 0) j.desk j.number ≡ x
  turned =
      sym
      (ex ∙ ap (λ n. job_in_turn s.desks n done j.desk j.number) (es ∙ strips_same s j.desk) ∙ ap (λ n. job_in_turn s.desks (strips_of s j.desk) n j.desk j.number) ed)

  pub job_wrong : not x ≡ true → false ≡ job_follows s d j
  unfolding job_follows
  job_wrong h = rw (turned, not-true x h)

  module _ (h : not x ≡ false) (a : JobFollowsPre s d j) where
    pub job_slot : SlotPre s j
    unfolding strips_of_desk
    job_slot =
        let t = turn_is s.desks strips done j.desk j.number (sym ex ∙ not-false x h) in
        record {
          sound = a.sound;
          in_slots = record {
            least_desk = t.0;
            most_desk = omega (arith, t.1, a.sound.most_desks_holds);
            least_number = omega (arith, t.2);
            most_number_holds = omega (arith, t.3, es, a.sound.most_strips_holds (j.desk - 1));
          };
        }

    pub job_right : (r : Bool) (free scan time : ℕ) → free ≡ get_or d.free (j.desk - 1) 0 → TimeTold (scan_time s j) scan → TimeTold (desk_time s j) time
        → r ≡ job_in_time d.scanner free j.scan (j.scan + scan) j.start (j.start + time) → r ≡ job_follows s d j
    unfolding job_follows scan_end desk_finish
    job_right r free scan time ef t u e = rw (turned, not-false x h, ← ef, ← t.is, ← u.is) e

module _ (s : SortingSection) (d : Desks) (j : Job) (k : AfterJobPre s d j) where
  pub after_is : (i scan time : ℕ) → i ≡ j.desk - 1 → TimeTold (scan_time s j) scan → TimeTold (desk_time s j) time
      → ◌≡◌ {A = Desks} (record { done = set d.done i j.number; free = set d.free i (j.start + time); scanner = j.scan + scan }) (after_job s d j)
  unfolding after_job scan_end desk_finish
  after_is i scan time e t u = rw (e, t.is, u.is)

-- the first d desks have had all their strips
pub record DoneSoFar (counts done : List ℕ) (desks d : ℕ) : Type 0 where
  pub within : d ≤ desks
  pub so_far : all_done counts done d ≡ true

done_suc : (counts done : List ℕ) (d : ℕ) → all_done counts done (suc d) ≡ (all_done counts done d && eqb (get_or done d 0) (get_or counts d 0))
unfolding all_done
done_suc counts done d = refl

pub done_none : (counts done : List ℕ) (desks : ℕ) → DoneSoFar counts done desks 0
unfolding all_done
done_none counts done desks = record { within = omega arith; so_far = refl }

done_stays : (counts done : List ℕ) (d n : ℕ) → all_done counts done d ≡ false → all_done counts done (d + n) ≡ false
done_stays counts done d zero e = ap (all_done counts done) (omega arith) ∙ e
done_stays counts done d (suc n) e =
    ap (all_done counts done) next
    ∙ done_suc counts done (d + n)
    ∙ ap (λ b. b && eqb (get_or done (d + n) 0) (get_or counts (d + n) 0)) (done_stays counts done d n e)
  where
    next : d + suc n ≡ suc (d + n)
    next = omega arith

module _ (counts done : List ℕ) (desks d : ℕ) (t : DoneSoFar counts done desks d) where
  pub done_more : d < desks → get_or done d 0 ≡ get_or counts d 0 → DoneSoFar counts done desks (d + 1)
  done_more h e = record { within = omega arith; so_far = ap (all_done counts done) (add-one d) ∙ done_suc counts done d ∙ rw (t.so_far, eq-eqb _ _ e) }

  pub done_wrong : d < desks → (get_or done d 0 ≡ get_or counts d 0 → ⊥) → false ≡ all_done counts done desks
  done_wrong h e = sym (ap (all_done counts done) all ∙ done_stays counts done (suc d) (desks - suc d) here)
    where
      all : desks ≡ suc d + (desks - suc d)
      all = omega arith

      here : all_done counts done (suc d) ≡ false
      here = done_suc counts done d ∙ rw (t.so_far, ne_eqb _ _ e)

  pub done_all : desks ≤ d → true ≡ all_done counts done desks
  done_all h = sym (ap (all_done counts done) all ∙ t.so_far)
    where
      all : desks ≡ d
      all = let w = t.within in omega arith

-- blocks

module _ (f : FlightSection) (i : ℕ) (p : Passes) where
  pub block_past : f.blocks ≤ i → false ≡ block_follows f i p
  unfolding block_follows
  block_past h = rw (le-ltb _ _ h)

  pub block_due : (r : Bool) → i < f.blocks
      → r
      ≡ block_in_time (p.first + get_or f.first i 0 + get_or f.shortest i 0) (p.first + get_or f.first i 0 + get_or f.longest i 0) p.second
      (p.second + get_or f.second i 0)
      → r ≡ block_follows f i p
  unfolding block_follows second_due
  block_due r h e = rw (lt-ltb _ _ h) e

  module _ (a : BlockFollowsPre f p) where
    pub flown_fits : p.first + get_or f.first i 0 < 2 ^ 64
    flown_fits = omega (arith, a.fits.first, a.sound.most_first i)

    pub earliest_fits : p.first + get_or f.first i 0 + get_or f.shortest i 0 < 2 ^ 64
    earliest_fits = omega (arith, a.fits.first, a.sound.most_first i, a.sound.window i, a.sound.most_delay i)

    pub latest_fits : p.first + get_or f.first i 0 + get_or f.longest i 0 < 2 ^ 64
    latest_fits = omega (arith, a.fits.first, a.sound.most_first i, a.sound.most_delay i)

    pub end_fits : p.second + get_or f.second i 0 < 2 ^ 64
    end_fits = omega (arith, a.fits.second, a.sound.most_second i)
