-- Laws of reading a plan: the numbers that the code reads make the member or head of the definitions, and members that fit have values that fit their widths.
-- The forms compute, so each law is by unfolding.
use Rattle.std.specs.Prelude.{ℕ, zero, suc, ◌+◌, ◌*◌, ◌≤◌, ◌<◌, ◌≡◌, refl, List, length, get_or}
use Rattle.std.proofs.Common.{ap, ◌∙◌, mul-suc, arith}
use Rattle.field.specs.Bytes.{NumberRead}
use Rattle.field.specs.Numbers.{past_read}
use Rattle.plan_format.specs.Format.{width_of, offset_of, EachFits, batch_form, job_form, passes_form}
use Rattle.rules.specs.Plan.{batch_values, job_values, passes_values}
use Rattle.rules.specs.declared.Batch.{Batch}
use Rattle.rules.specs.declared.Job.{Job}
use Rattle.rules.specs.declared.Passes.{Passes}
use Rattle.plan_read.specs.PlanRead.{batch_from, job_from, passes_from, members_from, BatchFits, JobFits, PassesFits, BatchRead}
use Rattle.plan_read.specs.PlanRead.{JobRead, PassesRead}

-- past the end every number is 0
pub past_behind : (plan : List ℕ) (at skip width : ℕ) → length plan ≤ at → NumberRead plan (at + skip) width 0
past_behind plan at skip width h = past_read plan (at + skip) width (omega arith)

module _ (plan : List ℕ) (at : ℕ) where
  pub batch_read : (last start finish : ℕ) → NumberRead plan (at + offset_of batch_form 0) (width_of batch_form 0) last
      → NumberRead plan (at + offset_of batch_form 1) (width_of batch_form 1) start
      → NumberRead plan (at + offset_of batch_form 2) (width_of batch_form 2) finish
      → BatchRead plan at (record { last = last; start = start; finish = finish })
  unfolding batch_from
  batch_read last start finish a b c = record { is = rw (a.is, b.is, c.is); fits = record { last = a.fits; start = b.fits; finish = c.fits } }

  pub job_read : (desk number scan start : ℕ) → NumberRead plan (at + offset_of job_form 0) (width_of job_form 0) desk
      → NumberRead plan (at + offset_of job_form 1) (width_of job_form 1) number
      → NumberRead plan (at + offset_of job_form 2) (width_of job_form 2) scan
      → NumberRead plan (at + offset_of job_form 3) (width_of job_form 3) start
      → JobRead plan at (record { desk = desk; number = number; scan = scan; start = start })
  unfolding job_from
  job_read desk number scan start a b c d =
      record { is = rw (a.is, b.is, c.is, d.is); fits = record { desk = a.fits; number = b.fits; scan = c.fits; start = d.fits } }

  pub passes_read : (first second : ℕ) → NumberRead plan (at + offset_of passes_form 0) (width_of passes_form 0) first
      → NumberRead plan (at + offset_of passes_form 1) (width_of passes_form 1) second
      → PassesRead plan at (record { first = first; second = second })
  unfolding passes_from
  passes_read first second a b = record { is = rw (a.is, b.is); fits = record { first = a.fits; second = b.fits } }

-- the values of members that fit
pub batch_each : (b : Batch) → BatchFits b → EachFits batch_form.widths (batch_values b)
batch_each b f = EachFits.more f.last (EachFits.more f.start (EachFits.more f.finish EachFits.none))

pub job_each : (j : Job) → JobFits j → EachFits job_form.widths (job_values j)
job_each j f = EachFits.more f.desk (EachFits.more f.number (EachFits.more f.scan (EachFits.more f.start EachFits.none)))

pub passes_each : (p : Passes) → PassesFits p → EachFits passes_form.widths (passes_values p)
passes_each p f = EachFits.more f.first (EachFits.more f.second EachFits.none)

-- a member of a plan, by its index
pub member_at : {A : Type 0} (read : List ℕ → ℕ → A) (size : ℕ) (plan : List ℕ) (at n i : ℕ) (none : A) → i < n
    → get_or (members_from read size plan at n) i none ≡ read plan (at + size * i)
unfolding members_from
member_at read size plan at zero i none h = absurd (omega arith)
member_at read size plan at (suc n) zero none h = ap (read plan) (omega arith)
member_at read size plan at (suc n) (suc i) none h =
    member_at read size plan (at + size) n i none (omega arith) ∙ ap (read plan) place
  where
    place : at + size + size * i ≡ at + size * suc i
    place = omega (arith, mul-suc size i)

pub length_from : {A : Type 0} (read : List ℕ → ℕ → A) (size : ℕ) (plan : List ℕ) (at n : ℕ) → length (members_from read size plan at n) ≡ n
unfolding members_from
length_from read size plan at zero = refl
length_from read size plan at (suc n) = ap suc (length_from read size plan (at + size) n)
