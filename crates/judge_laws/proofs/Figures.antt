-- Where every member of a section follows and its head does too, the figure that the judge has added up is the one that the rules give.
-- The members are judged from the first on, and the rules' running forms take them in the same order.
use Prim.{Unit, tt}
use Prim.Native.Nat.{ℕ, zero, suc, ◌+◌}
use Rattle.std.specs.Prelude.{◌≡◌, refl}
use Rattle.std.proofs.Math.Path.{sym, ap, subst}
use Rattle.std.proofs.Common.{◌∙◌, ne_eqb}
use mathlib.Core.List.{List}
use Rattle.std.proofs.Math.Decide.{ℕ_discrete}
use native.Mathlib.Omega.{arith}
use Rattle.sheet.specs.declared.Sheet.{Sheet}
use Rattle.rules.specs.Mosaic.{no_batch, mosaic_figure}
use Rattle.rules.specs.Sorting.{sorting_figure}
use Rattle.plan_format.specs.Format.{size_of}
use Rattle.plan_read.specs.PlanRead.{batch_from, job_from, members_from, batches_from, jobs_from}
use Rattle.running.specs.Running.{MosaicRunsUnder, MosaicRuns}
use Rattle.rules.specs.declared.Batch.{Batch}
use Rattle.rules.specs.declared.Job.{Job}
use Rattle.rules_laws.specs.MosaicRunning.{running_figure}
use Rattle.rules_laws.specs.SortingRunning.{weighted_finishes}
use Rattle.rules_laws.proofs.Equivalent.{mosaic_figure_lem, sorting_figure_lem}
use Rattle.judge_layout.specs.declared.Part.{Part}
use Rattle.judge_members.specs.Members.{head_form, member_place, begun, after_batch, after_strip, after_member, figure_of}
use Rattle.judge_members.specs.declared.Progress.{Progress}
use Rattle.judge.specs.Judged.{part_at}
use Rattle.judge_laws.proofs.Sections.{batches_more, jobs_more, regroup}
use Rattle.judge_laws.specs.Fault.{MemberFollows, HeadFollows, rule_figure, Reached}

-- n members of a section judged, from member k on: what is known then, and that each follows
module _ (s : Sheet) (plan : List ℕ) (section head : ℕ) where
  unfoldable advanced : ℕ → ℕ → Progress → Progress
  advanced zero k st = st
  advanced (suc n) k st = advanced n (k + 1) (after_member s plan section (member_place section head k) st)

  unfoldable AllFollow : ℕ → ℕ → Progress → Type 0
  AllFollow zero k st = Unit
  AllFollow (suc n) k st =
      MemberFollows s plan section k (member_place section head k) st × AllFollow n (k + 1) (after_member s plan section (member_place section head k) st)

  -- one member more
  advanced_last : (n k : ℕ) (st : Progress) → advanced (suc n) k st ≡ after_member s plan section (member_place section head (k + n)) (advanced n k st)
  unfolding advanced
  advanced_last zero k st = ap (λ (i : ℕ). after_member s plan section (member_place section head i) st) (omega arith)
  advanced_last (suc n) k st =
      let next = after_member s plan section (member_place section head k) st in
      let q : k + 1 + n ≡ k + suc n = omega arith in
      advanced_last n (k + 1) next ∙ ap (λ (i : ℕ). after_member s plan section (member_place section head i) (advanced n (k + 1) next)) q

  follow_last : (n k : ℕ) (st : Progress) → AllFollow n k st → MemberFollows s plan section (k + n) (member_place section head (k + n)) (advanced n k st)
      → AllFollow (suc n) k st
  unfolding advanced AllFollow
  follow_last zero k st a h =
      let q : k + 0 ≡ k = omega arith in
      (subst (λ (i : ℕ). MemberFollows s plan section i (member_place section head i) st) q h, tt)
  follow_last (suc n) k st a h =
      let next = after_member s plan section (member_place section head k) st in
      let q : k + suc n ≡ k + 1 + n = omega arith in
      (a.0, follow_last n (k + 1) next a.1 (subst (λ (i : ℕ). MemberFollows s plan section i (member_place section head i) (advanced n (k + 1) next)) q h))

-- what Reached says, from the first member on
module _ (s : Sheet) (plan : List ℕ) (section : ℕ) where
  reached_all : {k : ℕ} {st : Progress} → Reached s plan section k st
      → AllFollow s plan section (part_at s plan section).head k 0 begun × (st ≡ advanced s plan section (part_at s plan section).head k 0 begun)
  unfolding advanced AllFollow
  reached_all Reached.first = (tt, refl)
  reached_all (Reached.next {k} {st} r l h) =
      let head = (part_at s plan section).head in
      let p = reached_all r in
      let q : suc k ≡ k + 1 = omega arith in
      let z : k ≡ 0 + k = omega arith in
      let now = subst (λ (i : ℕ). MemberFollows s plan section i (member_place section head i) (advanced s plan section head k 0 begun)) z (subst (λ (x : Progress). MemberFollows s plan section k (member_place section head k) x) p.1 h) in
      let all = follow_last s plan section head k 0 begun p.0 now in
      let here = ap (λ (x : Progress). after_member s plan section (member_place section head k) x) p.1 in
      let there = ap (λ (i : ℕ). after_member s plan section (member_place section head i) (advanced s plan section head k 0 begun)) z in (
        subst (λ (i : ℕ). AllFollow s plan section head i 0 begun) q all,
        here ∙ there ∙ sym (advanced_last s plan section head k 0 begun) ∙ ap (λ (i : ℕ). advanced s plan section head i 0 begun) q,
      )

module _ (s : Sheet) (plan : List ℕ) (part : Part) where
  mosaic_runs : (n k : ℕ) (st : Progress) → AllFollow s plan 1 part.head n k st → (advanced s plan 1 part.head n k st).before.last ≡ s.mosaic.strips
      → MosaicRuns s.mosaic st.before (batches_from plan (member_place 1 part.head k) n)
      × ((advanced s plan 1 part.head n k st).figure ≡ st.figure + running_figure s.mosaic st.before (batches_from plan (member_place 1 part.head k) n))
  unfolding advanced AllFollow MemberFollows after_member after_batch members_from running_figure
  mosaic_runs zero k st a e = (MosaicRunsUnder.none e, omega arith)
  mosaic_runs (suc n) k st a e =
      let b = batch_from plan (member_place 1 part.head k) in
      let r = mosaic_runs n (k + 1) (after_batch s st b) a.1 e in
      subst
      (λ (bs : List Batch). MosaicRuns s.mosaic st.before bs × ((advanced s plan 1 part.head n (k + 1) (after_batch s st b)).figure ≡ st.figure + running_figure s.mosaic st.before bs))
      (sym (batches_more s plan part n k))
      (MosaicRunsUnder.more a.0 r.0, r.1 ∙ regroup _ _ _)

  sorting_sum : (n k : ℕ) (st : Progress)
      → (advanced s plan 2 part.head n k st).figure ≡ st.figure + weighted_finishes s.sorting (jobs_from plan (member_place 2 part.head k) n)
  unfolding advanced after_member after_strip members_from weighted_finishes
  sorting_sum zero k st = omega arith
  sorting_sum (suc n) k st =
      let j = job_from plan (member_place 2 part.head k) in
      sorting_sum n (k + 1) (after_strip s st j)
      ∙ regroup _ _ _
      ∙ ap (λ (js : List Job). st.figure + weighted_finishes s.sorting js) (sym (jobs_more s plan part n k))

first_place : (section head : ℕ) → member_place section head 0 ≡ head + size_of (head_form section)
unfolding member_place
first_place section head = omega arith

from_none : (x : ℕ) → 0 + x ≡ x
from_none x = omega arith

module _ (s : Sheet) (plan : List ℕ) where
  mosaic_true : (st : Progress) → Reached s plan 1 (part_at s plan 1).members st → HeadFollows s plan 1 (part_at s plan 1) st
      → figure_of s plan 1 (part_at s plan 1) st ≡ rule_figure s plan 1 (part_at s plan 1)
  unfolding HeadFollows figure_of rule_figure begun head_form
  mosaic_true st r h =
      let part = part_at s plan 1 in
      let a = reached_all s plan 1 r in
      let m = mosaic_runs s plan part part.members 0 begun a.0 (ap (λ (x : Progress). x.before.last) (sym a.1) ∙ h) in
      ap (λ (x : Progress). x.figure) a.1
      ∙ m.1
      ∙ from_none (running_figure s.mosaic no_batch (batches_from plan (member_place 1 part.head 0) part.members))
      ∙ sym (mosaic_figure_lem s.mosaic (batches_from plan (member_place 1 part.head 0) part.members) m.0)
      ∙ ap (λ (at : ℕ). mosaic_figure s.mosaic (batches_from plan at part.members)) (first_place 1 part.head)

  sorting_true : (st : Progress) → Reached s plan 2 (part_at s plan 2).members st
      → figure_of s plan 2 (part_at s plan 2) st ≡ rule_figure s plan 2 (part_at s plan 2)
  unfolding figure_of rule_figure begun head_form
  sorting_true st r =
      let part = part_at s plan 2 in
      let a = reached_all s plan 2 r in
      ap (λ (x : Progress). x.figure) a.1
      ∙ sorting_sum s plan part part.members 0 begun
      ∙ from_none (weighted_finishes s.sorting (jobs_from plan (member_place 2 part.head 0) part.members))
      ∙ sym (sorting_figure_lem s.sorting (jobs_from plan (member_place 2 part.head 0) part.members))
      ∙ ap (λ (at : ℕ). sorting_figure s.sorting (jobs_from plan at part.members)) (first_place 2 part.head)

  pub reached_figure : (section : ℕ) (st : Progress) → Reached s plan section (part_at s plan section).members st
      → HeadFollows s plan section (part_at s plan section) st
      → figure_of s plan section (part_at s plan section) st ≡ rule_figure s plan section (part_at s plan section)
  unfolding figure_of rule_figure
  reached_figure section st = go (ℕ_discrete 1 section) (ℕ_discrete 2 section)
    where
      Same : ℕ → Type 0
      Same n =
          Reached s plan n (part_at s plan n).members st → HeadFollows s plan n (part_at s plan n) st → figure_of s plan n (part_at s plan n) st ≡ rule_figure s plan n (part_at s plan n)

      go : Dec (1 ≡ section) → Dec (2 ≡ section) → Same section
      go (yes e) d = subst Same e (mosaic_true st)
      go (no n) (yes e) = subst Same e (λ r h. sorting_true st r)
      go (no n) (no m) = λ r h. rw (ne_eqb section 1 (λ e. n (sym e)), ne_eqb section 2 (λ e. m (sym e))) refl
