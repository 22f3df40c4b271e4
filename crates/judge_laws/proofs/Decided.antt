-- The judge's tests of a member and of a head decide the rules that a fault is named by: one case a section.
use Rattle.std.specs.Prelude.{ℕ, ◌+◌, ◌≡◌, refl, Bool, true, false, cond, List, eqb}
use Rattle.std.proofs.Common.{sym, ◌∙◌, true≢false, eq-eqb, eqb-true}
use Rattle.order.specs.Order.{Decides}
use Rattle.sheet.specs.declared.Sheet.{Sheet}
use Rattle.plan_format.specs.Format.{size_of, flight_head_form, passes_form}
use Rattle.plan_read.specs.PlanRead.{order_from, batch_from, job_from, passes_from, blocks_from}
use Rattle.plan_read.specs.Laws.{length_from}
use Rattle.judge_layout.specs.declared.Part.{Part}
use Rattle.judge_members.specs.Members.{member_follows, head_follows}
use Rattle.judge_members.specs.declared.Progress.{Progress}
use Rattle.judge_laws.proofs.Tests.{true_batch, batch_true, true_job, job_true, true_done, done_true, true_block, block_true, true_head, head_true}
use Rattle.judge_laws.specs.Fault.{MemberFollows, HeadFollows}

-- a test that is true exactly where a rule holds
both_ways : {P : Type 0} {b : Bool} → (b ≡ true → P) → (P → b ≡ true) → Decides P b
both_ways there back = record { holds = there; fails = λ e p. true≢false (sym (back p) ∙ e) }

one_of_three : {P Q R : Type 0} {p q r : Bool} (b c : Bool) → Decides P p → Decides Q q → Decides R r
    → Decides (elim b [ true ↦ P | false ↦ elim c [ true ↦ Q | false ↦ R ] ]) (cond b p (cond c q r))
one_of_three true c dp dq dr = dp
one_of_three false true dp dq dr = dq
one_of_three false false dp dq dr = dr

pub member_decided : (s : Sheet) (plan : List ℕ) (section k place : ℕ) (st : Progress)
    → Decides (MemberFollows s plan section k place st) (member_follows s plan section k place st)
unfolding MemberFollows member_follows
member_decided s plan section k place st =
    one_of_three (eqb section 1) (eqb section 2)
    (both_ways (true_batch s.mosaic st.before (batch_from plan place)) (batch_true s.mosaic st.before (batch_from plan place)))
    (both_ways (true_job s.sorting st.desks (job_from plan place)) (job_true s.sorting st.desks (job_from plan place)))
    (both_ways (true_block s.flight k (passes_from plan place)) (block_true s.flight k (passes_from plan place)))

pub head_decided : (s : Sheet) (plan : List ℕ) (section : ℕ) (part : Part) (st : Progress)
    → Decides (HeadFollows s plan section part st) (head_follows s plan section part st)
unfolding HeadFollows head_follows
head_decided s plan section part st =
    one_of_three (eqb section 1) (eqb section 2)
    (both_ways (eqb-true _ _) (eq-eqb _ _))
    (both_ways (true_done s.sorting st.desks) (done_true s.sorting st.desks))
    (both_ways
    (true_head s.flight (order_from plan part.head) (blocks_from plan (part.head + size_of flight_head_form) part.members) part.members (sym (length_from passes_from (size_of passes_form) plan (part.head + size_of flight_head_form) part.members)))
    (head_true s.flight (order_from plan part.head) (blocks_from plan (part.head + size_of flight_head_form) part.members) part.members (sym (length_from passes_from (size_of passes_form) plan (part.head + size_of flight_head_form) part.members))))

-- by what a rule says, what its test answers
pub decided_true : {P : Type 0} {b : Bool} → Decides P b → P → b ≡ true
decided_true {b = true} d p = refl
decided_true {b = false} d p = absurd (d.fails refl p)

pub decided_false : {P : Type 0} {b : Bool} → Decides P b → (P → ⊥) → b ≡ false
decided_false {b = true} d n = absurd (n (d.holds refl))
decided_false {b = false} d n = refl
