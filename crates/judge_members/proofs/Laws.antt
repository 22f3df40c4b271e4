-- What the judge of a member and of a head requires and keeps to, and that what the code reads is what the definitions name.
use Rattle.std.specs.Prelude.{ℕ, zero, suc, ◌+◌, ◌-◌, ◌*◌, ◌^◌, ◌≤◌, ◌<◌, ◌≡◌, refl, Bool, true, false, cond, ◌&&◌, List, ◌∷◌, [], length, get_or, set, leb, eqb}
use Rattle.std.proofs.Common.{sym, ◌∙◌, arith, length-set}
use Rattle.std.proofs.Math.Path.{ap}
use Rattle.std.proofs.Math.Nat.{mul-le-mul}
use borrow.Author.Tests.{ne_eqb, eqb-true, ltb-true, leb-true}
use Rattle.base.specs.Branch.{both}
use Rattle.sheet.specs.Limits.{most_desks, most_strips_of_desk, ceiling}
use Rattle.sheet.specs.Sound.{SortingSound, SheetSound}
use Rattle.sheet.proofs.Stores.{set_here, set_there, set_most}
use Rattle.sheet.specs.declared.Sheet.{Sheet}
use Rattle.rules.specs.Mosaic.{no_batch}
use Rattle.rules.specs.Sorting.{strips_of, slot, job_weight, desk_finish, desk_time}
use Rattle.rules.specs.Flight.{flight_figure}
use Rattle.plan_format.specs.Format.{size_of, flight_head_form}
use Rattle.plan_read.specs.PlanRead.{batch_from, job_from, passes_from, blocks_from, BatchRead, JobRead}
use Rattle.running.specs.Running.{batch_weight, free_desks, after_job}
use Rattle.running.specs.FunctionLaws.{TimeTold, WeightTold, JobWeightTold, batch_weight_most}
use Rattle.rules.specs.declared.Batch.{Batch}
use Rattle.rules.specs.declared.Job.{Job}
use Rattle.running.specs.declared.Desks.{Desks}
use Rattle.judge_rules.specs.Follows.{batch_in_run, batch_in_time, batch_follows, job_in_turn, job_in_time, job_follows, block_follows, flight_head}
use Rattle.judge_rules.specs.Clauses.{DesksFit, JobFollowsPre}
use Rattle.judge_flight.specs.Starts.{FigureTold}
use Rattle.judge_layout.specs.declared.Part.{Part}
use Rattle.judge_members.specs.Members.{section_of, begun, member_follows, after_batch, after_strip, after_member, head_follows, figure_of}
use Rattle.judge_members.specs.declared.Progress.{Progress}
use Rattle.judge_members.specs.declared.Section.{Section}
use Rattle.judge_members.specs.declared.Section.TheVariants.{Mosaic, Sorting, Flight}
use Rattle.judge_members.specs.Laws.{most_of_strip, Kept, MemberFollowsPre, AfterMemberPre, AfterBatchPre, AfterStripPre, FigureOfPre}

-- the section by its number
module _ (section : ℕ) (x : Section) (ex : x ≡ section_of section) where
  pub of_mosaic : x ≡ Mosaic → section ≡ 1
  of_mosaic h = grind arith

  pub of_sorting : x ≡ Sorting → section ≡ 2
  of_sorting h = grind arith

  pub not_mosaic : x ≡ Flight → section ≡ 1 → ⊥
  not_mosaic h e = grind arith

  pub not_sorting : x ≡ Flight → section ≡ 2 → ⊥
  not_sorting h e = grind arith

-- members

module _ (s : Sheet) (plan : List ℕ) (place : ℕ) (p : Progress) (a : MemberFollowsPre s p) where
  pub job_asked : (j : Job) → JobRead plan place j → JobFollowsPre s.sorting p.desks j
  job_asked j t = record { sound = a.sound.sorting; desks = a.kept.desks; fits = t.fits }

-- after a member that follows

batch_within : (before start finish due : ℕ) → batch_in_time before start finish due ≡ true → finish ≤ ceiling
unfolding batch_in_time
batch_within before start finish due e =
    let u = both (leb before start) (eqb finish due && leb finish ceiling) e in
    leb-true finish ceiling (both (eqb finish due) (leb finish ceiling) u.1).1

job_within : (scanner free scan scanned start finish : ℕ) → job_in_time scanner free scan scanned start finish ≡ true → finish ≤ ceiling
unfolding job_in_time
job_within scanner free scan scanned start finish e =
    let u = both (leb scanner scan) (leb scanned start && (leb free start && leb finish ceiling)) e in
    let v = both (leb scanned start) (leb free start && leb finish ceiling) u.1 in
    leb-true finish ceiling (both (leb free start) (leb finish ceiling) v.1).1

batch_facts : (s : Sheet) (p : Progress) (b : Batch) → batch_follows s.mosaic p.before b ≡ true
    → (p.before.last < b.last) × (b.last ≤ s.mosaic.strips) × (b.finish ≤ ceiling)
unfolding batch_follows batch_in_run
batch_facts s p b e =
    let x = both _ _ e in
    let y = both _ _ x.0 in
    (ltb-true _ _ y.0, leb-true _ _ y.1, batch_within _ _ _ _ x.1)

job_facts : (s : Sheet) (p : Progress) (j : Job) → job_follows s.sorting p.desks j ≡ true
    → (1 ≤ j.desk) × (j.desk ≤ s.sorting.desks) × (j.number ≡ get_or p.desks.done (j.desk - 1) 0 + 1) × (j.number ≤ strips_of s.sorting j.desk)
    × (desk_finish s.sorting j ≤ ceiling)
unfolding job_follows job_in_turn
job_facts s p j e =
    let x = both _ _ e in
    let t = both _ _ x.0 in
    let u = both _ _ t.1 in
    let v = both _ _ u.1 in
    (leb-true _ _ t.0, leb-true _ _ u.0, eqb-true _ _ v.0, leb-true _ _ v.1, job_within _ _ _ _ _ _ x.1)

module _ (s : Sheet) (plan : List ℕ) (section place : ℕ) (p : Progress) (a : AfterMemberPre s plan section place p) where
  pub after_batch_asked : (b : Batch) → section ≡ 1 → BatchRead plan place b → AfterBatchPre s p b
  unfolding member_follows
  after_batch_asked b e t =
      let f = batch_facts s p b (rw t.is (rw e at a.follows)) in
      record { sound = a.asked.sound.mosaic; kept = a.asked.kept; rises = omega (arith, f.0); most_last = omega (arith, f.1, a.asked.sound.mosaic.most_strips_holds); within = f.2 }

  pub after_strip_asked : (j : Job) → section ≡ 2 → JobRead plan place j → AfterStripPre s p j
  unfolding member_follows strips_of
  after_strip_asked j e t =
      let f = job_facts s p j (rw t.is (rw e at a.follows)) in
      let S = a.asked.sound.sorting in
      record {
        kept = a.asked.kept;
        taken =
            record {
              asked = job_asked s plan place p a.asked j t;
              least_desk = f.0;
              most_desk = omega (arith, f.1, S.most_desks_holds);
              least_number = omega (arith, f.2);
              most_number_holds = omega (arith, f.3, S.most_strips_holds (j.desk - 1));
            };
        in_turn = f.2;
        within = f.4;
      }

sums_few : (d : Desks) → DesksFit d → get_or d.done 0 0 + get_or d.done 1 0 + get_or d.done 2 0 ≤ most_desks * most_strips_of_desk
sums_few d f = omega (arith, f.most_done 0, f.most_done 1, f.most_done 2)

module _ (s : Sheet) (p : Progress) (b : Batch) (a : AfterBatchPre s p b) where
  module _ (weight : ℕ) (t : WeightTold s.mosaic p.before.last b.last weight) where
    most : weight * b.finish ≤ (b.last - p.before.last) * most_of_strip
    most = omega (arith, mul-le-mul t.fits a.within)

    pub after_batch_is : ◌≡◌ {A = Progress} (record { before = b; desks = p.desks; figure = p.figure + weight * b.finish }) (after_batch s p b)
    unfolding after_batch
    after_batch_is = ap (λ (w : ℕ). record { before = b; desks = p.desks; figure = p.figure + w * b.finish }) t.is

  pub batch_kept : Kept (after_batch s p b)
  unfolding after_batch
  batch_kept =
      let k = a.kept.most_figure in
      let l = a.most_last in
      let r = a.rises in
      let w = batch_weight_most s.mosaic a.sound p.before.last b.last in
      let added = most (batch_weight s.mosaic p.before.last b.last) (record { is = refl; fits = w }) in
      record { desks = a.kept.desks; most_last = a.most_last; most_figure = omega (arith, added) }

module _ (s : Sheet) (p : Progress) (j : Job) (a : AfterStripPre s p j) where
  module _ (time weight : ℕ) (t : TimeTold (desk_time s.sorting j) time) (w : JobWeightTold s.sorting j weight) where
    added : weight * (j.start + time) ≤ most_of_strip
    unfolding desk_finish
    added = let h : j.start + time ≤ ceiling = omega (arith, t.is, a.within) in mul-le-mul w.fits h

    pub strip_figure_fits : p.figure + weight * (j.start + time) < 2 ^ 64
    strip_figure_fits = let l = a.kept.most_last in omega (arith, added, a.kept.most_figure, sums_few p.desks a.kept.desks)

    pub after_strip_is : (d : Desks) → d ≡ after_job s.sorting p.desks j
        → ◌≡◌ {A = Progress} (record { before = p.before; desks = d; figure = p.figure + weight * (j.start + time) }) (after_strip s p j)
    unfolding after_strip desk_finish
    after_strip_is d e =
        rw (e, t.is)
        (ap (λ (n : ℕ). record {
          before = p.before;
          desks = after_job s.sorting p.desks j;
          figure = p.figure + n * (j.start + desk_time s.sorting j);
        }) w.is)

-- one strip more is done
one_more : (l : List ℕ) (d n : ℕ) → length l ≡ 3 → d < 3 → n ≡ get_or l d 0 + 1
    → get_or (set l d n) 0 0 + get_or (set l d n) 1 0 + get_or (set l d n) 2 0 ≡ get_or l 0 0 + get_or l 1 0 + get_or l 2 0 + 1
one_more l zero n long h e =
    omega (arith, set_here l 0 0 n (omega arith) refl, set_there l 0 1 n (λ q. omega arith), set_there l 0 2 n (λ q. omega arith))
one_more l (suc zero) n long h e =
    omega (arith, set_there l 1 0 n (λ q. omega arith), set_here l 1 1 n (omega arith) refl, set_there l 1 2 n (λ q. omega arith))
one_more l (suc (suc zero)) n long h e =
    omega (arith, set_there l 2 0 n (λ q. omega arith), set_there l 2 1 n (λ q. omega arith), set_here l 2 2 n (omega arith) refl)
one_more l (suc (suc (suc d))) n long h e = absurd (omega arith)

strip_kept : (s : Sheet) (p : Progress) (j : Job) → SortingSound s.sorting → Kept p → 1 ≤ j.desk → j.desk ≤ most_desks → j.number ≡ get_or p.desks.done (j.desk - 1) 0 + 1
    → j.number ≤ most_strips_of_desk → desk_finish s.sorting j ≤ ceiling → Kept (after_strip s p j)
unfolding after_strip after_job job_weight
strip_kept s p j sound k least most turn few within =
    let f = k.most_figure in
    let D = k.desks in
    let added = mul-le-mul (sound.most_weight_holds (slot j.desk j.number)) within in
    record {
      desks =
          record {
            done_length = simp length-set D.done_length;
            free_length = simp length-set D.free_length;
            most_done = set_most p.desks.done most_strips_of_desk (j.desk - 1) j.number D.most_done few;
          };
      most_last = k.most_last;
      most_figure = omega (arith, one_more p.desks.done (j.desk - 1) j.number D.done_length (omega arith) turn, added);
    }

strips_within : (s : Sheet) (desk : ℕ) → SheetSound s → strips_of s.sorting desk ≤ most_strips_of_desk
unfolding strips_of
strips_within s desk sound = sound.sorting.most_strips_holds (desk - 1)

-- a member that follows keeps what holds
pub member_kept : (s : Sheet) (plan : List ℕ) (section k place : ℕ) (p : Progress) → SheetSound s → Kept p → member_follows s plan section k place p ≡ true
    → Kept (after_member s plan section place p)
unfolding member_follows after_member
member_kept s plan section k place p sound kept e = by_section (eqb section 1) (eqb section 2) e
  where
    by_section : (x y : Bool)
        → cond x (batch_follows s.mosaic p.before (batch_from plan place))
        (cond y (job_follows s.sorting p.desks (job_from plan place)) (block_follows s.flight k (passes_from plan place)))
        ≡ true
        → Kept (cond x (after_batch s p (batch_from plan place)) (cond y (after_strip s p (job_from plan place)) p))
    by_section true y h =
        let f = batch_facts s p (batch_from plan place) h in
        batch_kept s p (batch_from plan place)
        (record {
          sound = sound.mosaic;
          kept = kept;
          rises = omega (arith, f.0);
          most_last = omega (arith, f.1, sound.mosaic.most_strips_holds);
          within = f.2;
        })
    by_section false true h =
        let f = job_facts s p (job_from plan place) h in
        strip_kept s p (job_from plan place) sound.sorting kept f.0 (omega (arith, f.1, sound.sorting.most_desks_holds)) f.2
        (omega (arith, f.3, strips_within s (job_from plan place).desk sound)) f.4
    by_section false false h = kept

pub begun_kept : Kept begun
unfolding begun no_batch free_desks
begun_kept = record { desks = record { done_length = refl; free_length = refl; most_done = none }; most_last = omega arith; most_figure = omega arith }
  where
    none : (i : ℕ) → get_or (0 ∷ 0 ∷ 0 ∷ []) i 0 ≤ most_strips_of_desk
    none zero = omega arith
    none (suc zero) = omega arith
    none (suc (suc zero)) = omega arith
    none (suc (suc (suc i))) = omega arith

-- heads

module _ (s : Sheet) (plan : List ℕ) (section : ℕ) (part : Part) (p : Progress) where
  pub figure_flight : (r : ℕ) → FigureOfPre s plan section part p → (section ≡ 1 → ⊥) → (section ≡ 2 → ⊥)
      → FigureTold (flight_figure s.flight (blocks_from plan (part.head + size_of flight_head_form) s.flight.blocks)) r → r ≡ figure_of s plan section part p
  unfolding figure_of head_follows flight_head
  figure_flight r a h₁ h₂ t =
      let q = both _ _ (rw (ne_eqb _ _ h₁, ne_eqb _ _ h₂) at a.follows) in
      t.is
      ∙ rw (ne_eqb _ _ h₁, ne_eqb _ _ h₂) (ap (λ n. flight_figure s.flight (blocks_from plan (part.head + size_of flight_head_form) n)) (sym (eqb-true _ _ q.0)))
