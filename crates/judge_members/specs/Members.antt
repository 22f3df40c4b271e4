-- The members of a plan's section, one after another, and what is checked at its head (01, the end of "Turned back").
use Rattle.std.specs.Prelude.{ℕ, ◌+◌, ◌*◌, Bool, cond, List, ltb, eqb}
use Rattle.base.specs.Branch.{check}
use Rattle.sheet.specs.Refusals.{rule_broken, figure_untrue}
use Rattle.sheet.specs.Sound.{strips_in_all}
use Rattle.sheet.specs.declared.Sheet.{Sheet}
use Rattle.plan_format.specs.Format.{Form, size_of, mosaic_head_form, batch_form, sorting_head_form, job_form, flight_head_form, passes_form}
use Rattle.rules.specs.Mosaic.{no_batch}
use Rattle.rules.specs.Sorting.{job_weight, desk_finish}
use Rattle.rules.specs.Flight.{flight_figure}
use Rattle.plan_read.specs.PlanRead.{figure_from, order_from, batch_from, job_from, passes_from, blocks_from}
use Rattle.running.specs.Running.{batch_weight, free_desks, after_job}
use Rattle.rules.specs.declared.Batch.{Batch}
use Rattle.rules.specs.declared.Job.{Job}
use Rattle.judge_rules.specs.Follows.{batch_follows, job_follows, block_follows, all_done, flight_head}
use Rattle.judge_layout.specs.declared.Part.{Part}
use Rattle.judge_members.specs.declared.Progress.{Progress}
use Rattle.judge_members.specs.declared.Section.{Section}
use Rattle.judge_members.specs.declared.Section.TheVariants.{Mosaic, Sorting, Flight}

-- The sections are numbered 1, mosaic; 2, sorting; 3, flight.
abbrev pub section_of : ℕ → Section
section_of section = cond (eqb section 1) Mosaic (cond (eqb section 2) Sorting Flight)

unfoldable pub present : Sheet → ℕ → Bool
present s section =
    cond (eqb section 1) (ltb 0 s.mosaic.strips)
    (cond (eqb section 2) (ltb 0 (strips_in_all s.sorting))
    (ltb 0 s.flight.blocks))

-- the forms of a section's head and of its members
unfoldable pub head_form : ℕ → Form
head_form section = cond (eqb section 1) mosaic_head_form (cond (eqb section 2) sorting_head_form flight_head_form)

unfoldable pub member_form : ℕ → Form
member_form section = cond (eqb section 1) batch_form (cond (eqb section 2) job_form passes_form)

-- the place of member k, from 0, of a section whose head stands at an offset
unfoldable pub member_place : ℕ → ℕ → ℕ → ℕ
member_place section head k = head + size_of (head_form section) + k * size_of (member_form section)

unfoldable pub begun : Progress
begun = record { before = no_batch; desks = free_desks; figure = 0 }

-- member k of a section at a place follows what was judged before it
unfoldable pub member_follows : Sheet → List ℕ → ℕ → ℕ → ℕ → Progress → Bool
member_follows s plan section k place st =
    cond (eqb section 1) (batch_follows s.mosaic st.before (batch_from plan place))
    (cond (eqb section 2) (job_follows s.sorting st.desks (job_from plan place))
    (block_follows s.flight k (passes_from plan place)))

-- a strip is complete when its batch finishes, and in a sorting when its desk does; the figure adds up "weight × completion" (02, Req 09)
unfoldable pub after_batch : Sheet → Progress → Batch → Progress
after_batch s st b =
    record { before = b; desks = st.desks; figure = st.figure + batch_weight s.mosaic st.before.last b.last * b.finish }

unfoldable pub after_strip : Sheet → Progress → Job → Progress
after_strip s st j =
    record {
      before = st.before;
      desks = after_job s.sorting st.desks j;
      figure = st.figure + job_weight s.sorting j * desk_finish s.sorting j;
    }

unfoldable pub after_member : Sheet → List ℕ → ℕ → ℕ → Progress → Progress
after_member s plan section place st =
    cond (eqb section 1) (after_batch s st (batch_from plan place))
    (cond (eqb section 2) (after_strip s st (job_from plan place))
    st)

-- what is checked at the head, the members judged
unfoldable pub head_follows : Sheet → List ℕ → ℕ → Part → Progress → Bool
head_follows s plan section part st =
    cond (eqb section 1) (eqb st.before.last s.mosaic.strips)
    (cond (eqb section 2) (all_done s.sorting.counts st.desks.done s.sorting.desks)
    (flight_head s.flight part.members (order_from plan part.head) (blocks_from plan (part.head + size_of flight_head_form) part.members)))

-- the figure that the rules give
unfoldable pub figure_of : Sheet → List ℕ → ℕ → Part → Progress → ℕ
figure_of s plan section part st =
    cond (eqb section 1) st.figure
    (cond (eqb section 2) st.figure
    (flight_figure s.flight (blocks_from plan (part.head + size_of flight_head_form) part.members)))

unfoldable pub head_number : Sheet → List ℕ → ℕ → Part → Progress → ℕ
head_number s plan section part st =
    check (head_follows s plan section part st) rule_broken
    (check (eqb (figure_from (head_form section) plan part.head) (figure_of s plan section part st)) figure_untrue
    0)
