-- The sections as they are stored: the lines of the members one behind the other, all of one length, behind the head line.
use Rattle.std.specs.Prelude.{ℕ, ◌+◌, ◌*◌, ◌≤◌, ◌<◌, ◌≡◌, List, ◌∷◌}
use Rattle.std.proofs.Common.{sym, ◌∙◌, arith}
use Rattle.std.proofs.Math.Path.{ap}
use Rattle.std.proofs.Math.Decide.{dec_lt}
use Rattle.std.proofs.Math.Nat.{mul-le-mul_left}
use Rattle.std.proofs.Math.ListN.{length, length-append}
use Rattle.base.specs.Listed.{listed}
use Rattle.field.specs.Put.{put, put_none, Written, then_written}
use Rattle.field.specs.Members.{Storing, storing_none, storing_more, storing_all, length_members}
use Rattle.plan_format.specs.Format.{size_of, mosaic_head_form, batch_form, sorting_head_form, job_form, flight_head_form, passes_form}
use Rattle.rules.specs.Plan.{members_bytes, if_present}
use Rattle.rules.specs.declared.Batch.{Batch}
use Rattle.rules.specs.declared.Job.{Job}
use Rattle.rules.specs.declared.Passes.{Passes}
use Rattle.rules_laws.proofs.Joined.{members_listed}
use Rattle.rules_laws.proofs.Present.{present_none, present_some}
use Rattle.plan_read.specs.PlanRead.{BatchRead, JobRead, PassesRead}
use Rattle.judge_layout.specs.declared.Part.{Part}
use Rattle.page_lines.specs.Line.{line_length, line_bytes, lines_bytes, batch_line, job_line, block_line, mosaic_head_letter, sorting_head_letter, flight_head_letter}
use Rattle.page_lines.specs.Columns.{HasColumns}
use Rattle.page_lines.proofs.Columns.{length_line, head_columns, batch_columns, job_columns, block_columns}
use Rattle.page_sections.specs.Printed.{PutLinePre, batch_line_from, job_line_from, block_line_from, mosaic_printed, sorting_printed, flight_printed}

-- The loops over the members: the lines of the first i are stored.
abbrev pub LinesStored : (ℕ → List ℕ) → List ℕ → List ℕ → ℕ → ℕ → ℕ → Type 0
LinesStored line d₀ d at n i = Storing line_bytes line d₀ d at n i

module _ (line : ℕ → List ℕ) (wide : (i : ℕ) → length (line i) ≡ 32) where
  pub lines_more : (d₀ d d₁ : List ℕ) (at n i : ℕ) → LinesStored line d₀ d at n i → i < n → d₁ ≡ put d (at + line_length * i) (line_bytes (line i))
      → LinesStored line d₀ d₁ at n (i + 1)
  lines_more d₀ d d₁ at n i s l e = storing_more line_bytes line line_length (λ k. length_line (line k) (wide k)) d₀ d d₁ at n i s l e

pub lines_none : (line : ℕ → List ℕ) (d : List ℕ) (at n : ℕ) → LinesStored line d d at n 0
lines_none line d at n = storing_none line_bytes line d at n

pub lines_all : (line : ℕ → List ℕ) (d₀ d : List ℕ) (at n i : ℕ) → LinesStored line d₀ d at n i → n ≤ i → d ≡ put d₀ at (lines_bytes (listed n line))
lines_all line d₀ d at n i s h = storing_all line_bytes line d₀ d at n i s h ∙ ap (put d₀ at) (sym (members_listed line_bytes n line))

-- what the line of one of n members asks
pub line_asked : (line : ℕ → List ℕ) (d₀ d plan : List ℕ) (at head size n i : ℕ) → LinesStored line d₀ d at n i → at + line_length * n ≤ length d₀
    → head + size * n ≤ length plan → i < n → (from : ℕ) → from ≤ at + line_length * i → PutLinePre d from plan head size i
line_asked line d₀ d plan at head size n i s room place l from upto =
    record { room = omega (arith, s.long); place = omega (arith, mul-le-mul_left size more) }
  where
    more : i + 1 ≤ n
    more = omega arith

-- the line of a member that was read
module _ (plan : List ℕ) (first i : ℕ) (d d₁ : List ℕ) (at : ℕ) where
  pub batch_put : (b : Batch) → BatchRead plan (first + size_of batch_form * i) b → d₁ ≡ put d at (line_bytes (batch_line (i + 1) b))
      → d₁ ≡ put d at (line_bytes (batch_line_from plan first i))
  unfolding batch_line_from
  batch_put b r e = e ∙ ap (λ (x : Batch). put d at (line_bytes (batch_line (i + 1) x))) r.is

  pub job_put : (j : Job) → JobRead plan (first + size_of job_form * i) j → d₁ ≡ put d at (line_bytes (job_line j))
      → d₁ ≡ put d at (line_bytes (job_line_from plan first i))
  unfolding job_line_from
  job_put j r e = e ∙ ap (λ (x : Job). put d at (line_bytes (job_line x))) r.is

  pub block_put : (p : Passes) → PassesRead plan (first + size_of passes_form * i) p → d₁ ≡ put d at (line_bytes (block_line (i + 1) p))
      → d₁ ≡ put d at (line_bytes (block_line_from plan first i))
  unfolding block_line_from
  block_put p r e = e ∙ ap (λ (x : Passes). put d at (line_bytes (block_line (i + 1) x))) r.is

-- each has 32 columns
pub batch_wide : (plan : List ℕ) (head i : ℕ) → HasColumns (batch_line_from plan (head + size_of mosaic_head_form) i)
unfolding batch_line_from
batch_wide plan head i = batch_columns (i + 1) _

pub job_wide : (plan : List ℕ) (head i : ℕ) → HasColumns (job_line_from plan (head + size_of sorting_head_form) i)
unfolding job_line_from
job_wide plan head i = job_columns _

pub block_wide : (plan : List ℕ) (head i : ℕ) → HasColumns (block_line_from plan (head + size_of flight_head_form) i)
unfolding block_line_from
block_wide plan head i = block_columns (i + 1) _

-- A section: its head line and its members' lines; an absent one is nothing.
pub absent : (d : List ℕ) (at n : ℕ) (lines : List (List ℕ)) → n < 1 → Written d d at (lines_bytes (if_present n lines)) at
unfolding members_bytes
absent d at n lines h = rw (present_none n lines h) (record { buffer = put_none d at; end = none })
  where
    none : at ≡ at + 0
    none = omega arith

module _ (n : ℕ) (head : List ℕ) (line : ℕ → List ℕ) (h : length head ≡ 32) (wide : (i : ℕ) → length (line i) ≡ 32) where
  members_long : length (lines_bytes (listed n line)) ≡ line_length * n
  members_long = ap length (members_listed line_bytes n line) ∙ length_members line_bytes line line_length (λ k. length_line (line k) (wide k)) n

  section_long : length (lines_bytes (if_present n (head ∷ listed n line))) ≤ line_length + line_length * n
  unfolding members_bytes
  section_long = go (dec_lt 0 n)
    where
      go : Dec (0 < n) → length (lines_bytes (if_present n (head ∷ listed n line))) ≤ line_length + line_length * n
      go (yes some) =
          rw (present_some n (head ∷ listed n line) some)
          (omega (arith, length-append (line_bytes head) (lines_bytes (listed n line)), length_line head h, members_long))
      go (no none) = rw (present_none n (head ∷ listed n line) (omega arith)) (omega arith)

pub section : (d d₁ d₂ : List ℕ) (at n : ℕ) (head : List ℕ) (line : ℕ → List ℕ) → length head ≡ 32 → ((i : ℕ) → length (line i) ≡ 32) → 1 ≤ n
    → d₁ ≡ put d at (line_bytes head) → d₂ ≡ put d₁ (at + line_length) (lines_bytes (listed n line))
    → Written d d₂ at (lines_bytes (if_present n (head ∷ listed n line))) (at + line_length + line_length * n)
unfolding members_bytes
section d d₁ d₂ at n head line h wide some e₁ e₂ =
    rw (present_some n (head ∷ listed n line) some)
    (then_written d d₁ d₂ at (at + line_length) (at + line_length + line_length * n) (line_bytes head) (lines_bytes (listed n line))
    (record { buffer = e₁; end = omega (arith, length_line head h) })
    (record { buffer = e₂; end = omega (arith, members_long n head line h wide) }))

module _ (plan : List ℕ) (part : Part) (figure : ℕ) (d : List ℕ) (at : ℕ) where
  -- how long a section is at most
  pub mosaic_long : length (lines_bytes (mosaic_printed plan part figure)) ≤ line_length + line_length * part.members
  unfolding mosaic_printed batch_line_from
  mosaic_long = section_long part.members _ _ (head_columns mosaic_head_letter figure) (λ k. batch_columns (k + 1) _)

  pub sorting_long : length (lines_bytes (sorting_printed plan part figure)) ≤ line_length + line_length * part.members
  unfolding sorting_printed job_line_from
  sorting_long = section_long part.members _ _ (head_columns sorting_head_letter figure) (λ k. job_columns _)

  pub flight_long : length (lines_bytes (flight_printed plan part figure)) ≤ line_length + line_length * part.members
  unfolding flight_printed block_line_from
  flight_long = section_long part.members _ _ (head_columns flight_head_letter figure) (λ k. block_columns (k + 1) _)
