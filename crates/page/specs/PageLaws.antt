-- The whole page: its sections stored one behind the other have room and are the lines of the plan that was examined; and where the judge allows the plan,
-- those are the page of the timetable that it states. Then each way out of a call is its answer.
use Rattle.std.specs.Prelude.{ℕ, ◌+◌, ◌≤◌, ◌<◌, ◌≡◌, Bool, length}
use Rattle.std.proofs.Math.Path.{sym, ap, ap₂}
use Rattle.std.proofs.Common.{subst, ◌∙◌, arith, length-append}
use Rattle.std.proofs.Math.Bool.{true, false, cond}
use mathlib.Core.List.{List, [], ◌∷◌, ◌++◌}
use Rattle.std.proofs.Math.Decide.{dec_lt}
use Rattle.std.proofs.Math.Dec.{ltb, eqb}
use borrow.Author.Tests.{lt-ltb, le-ltb, eq-eqb, ne_eqb}
use Rattle.base.specs.Answer.{answer}
use Rattle.base.specs.Listed.{listed, listed_same}
use Rattle.field.specs.Put.{put, put_whole, length_put, holding_none, Written, then_written}
use Rattle.sheet.specs.Limits.{page_length}
use Rattle.sheet.specs.Refusals.{buffer_too_small}
use Rattle.sheet.specs.Read.{read_sheet}
use Rattle.sheet.specs.Sound.{SheetSound, strips_in_all}
use Rattle.sheet.proofs.Theorems.{read_sound}
use Rattle.sheet.specs.declared.Sheet.{Sheet}
use Rattle.plan_format.specs.Format.{size_of, mosaic_head_form, batch_form, sorting_head_form, job_form, flight_head_form, passes_form}
use Rattle.rules.specs.Mosaic.{no_batch, batch_at, batch_before, mosaic_figure, MosaicLawful}
use Rattle.rules.specs.Sorting.{no_job, job_at, sorting_figure}
use Rattle.rules.specs.Flight.{no_passes, passes_at, flight_figure}
use Rattle.rules.specs.Plan.{if_present, PlanLawful}
use Rattle.rules.specs.declared.Batch.{Batch}
use Rattle.sheet.specs.declared.MosaicSection.{MosaicSection}
use Rattle.rules_laws.proofs.Fits.{batches_most, jobs_all, jobs_most}
use Rattle.rules_laws.proofs.Joined.{members_append}
use Rattle.rules_laws.proofs.Present.{present_none, present_some}
use Rattle.plan_read.specs.PlanRead.{batch_from, job_from, passes_from}
use Rattle.plan_read.specs.Laws.{member_at, length_from}
use Rattle.judge_layout.specs.Layout.{mosaic_part, sorting_part, flight_part}
use Rattle.judge_layout.specs.Laws.{parts_fit}
use Rattle.judge.specs.Judged.{judged}
use Rattle.judge.specs.Stated.{stated_batches, stated_jobs, stated_passes, stated_plan}
use Rattle.judge.specs.Examined.{examined_plan, examined, judged_by}
use Rattle.judge.specs.declared.Examined.{Examined}
use Rattle.judge_laws.proofs.Outcomes.{judged_right}
use Rattle.judge_laws.specs.Theorems.{FiguresTrue}
use Rattle.judge_laws.proofs.Theorems.{judged_stated}
use Rattle.page_lines.specs.Line.{lines_bytes, head_line, batch_line, job_line, block_line, mosaic_head_letter, sorting_head_letter, flight_head_letter}
use Rattle.page_sections.specs.Printed.{batch_line_from, job_line_from, block_line_from, mosaic_printed, sorting_printed, flight_printed, PrintSectionPre}
use Rattle.page_sections.specs.SectionLaws.{mosaic_long, sorting_long, flight_long}
use Rattle.page.specs.Page.{mosaic_lines, sorting_lines, flight_lines, page_lines, page_bytes}
use Rattle.page.specs.Call.{page_of, printed_answer, printed, page_answer, paged_bytes, Paged}
use Rattle.page.specs.Printed.{examined_lines, PrintSectionsPre}

-- The sections one behind the other.
lines_apart : (plan : List ℕ) (e : Examined) → lines_bytes (examined_lines plan e)
    ≡ lines_bytes (mosaic_printed plan e.mosaic e.judged.mosaic) ++ lines_bytes (sorting_printed plan e.sorting e.judged.sorting) ++ lines_bytes (flight_printed plan e.flight e.judged.flight)
unfolding examined_lines
lines_apart plan e =
    members_append _ (mosaic_printed plan e.mosaic e.judged.mosaic ++ sorting_printed plan e.sorting e.judged.sorting) (flight_printed plan e.flight e.judged.flight)
    ∙ ap (λ (l : List ℕ). l ++ lines_bytes (flight_printed plan e.flight e.judged.flight))
    (members_append _ (mosaic_printed plan e.mosaic e.judged.mosaic) (sorting_printed plan e.sorting e.judged.sorting))

module _ (page plan : List ℕ) (e : Examined) (asked : PrintSectionsPre page plan e) where
  -- all of them have room
  lines_fit : length (lines_bytes (examined_lines plan e)) ≤ length page
  lines_fit =
      omega (
        arith,
        ap length (lines_apart plan e),
        length-append (lines_bytes (mosaic_printed plan e.mosaic e.judged.mosaic) ++ lines_bytes (sorting_printed plan e.sorting e.judged.sorting))
            (lines_bytes (flight_printed plan e.flight e.judged.flight)),
        length-append (lines_bytes (mosaic_printed plan e.mosaic e.judged.mosaic)) (lines_bytes (sorting_printed plan e.sorting e.judged.sorting)),
        mosaic_long plan e.mosaic e.judged.mosaic [] 0,
        sorting_long plan e.sorting e.judged.sorting [] 0,
        flight_long plan e.flight e.judged.flight [] 0,
        asked.room,
        asked.batches,
        asked.jobs,
        asked.blocks,
      )

  module _ (d₁ : List ℕ) (at₁ : ℕ) (w₁ : Written page d₁ 0 (lines_bytes (mosaic_printed plan e.mosaic e.judged.mosaic)) at₁) where
    first_long : length d₁ ≡ length page
    first_long = ap length w₁.buffer ∙ length_put page 0 (lines_bytes (mosaic_printed plan e.mosaic e.judged.mosaic))

    pub sorting_asked : PrintSectionPre d₁ at₁ plan (size_of job_form) e.sorting
    sorting_asked =
        record {
          room = omega (arith, first_long, w₁.end, mosaic_long plan e.mosaic e.judged.mosaic [] 0, asked.room, asked.batches, asked.jobs);
          place = asked.sorting;
        }

    module _ (d₂ : List ℕ) (at₂ : ℕ) (w₂ : Written d₁ d₂ at₁ (lines_bytes (sorting_printed plan e.sorting e.judged.sorting)) at₂) where
      second_long : length d₂ ≡ length d₁
      second_long = ap length w₂.buffer ∙ length_put d₁ at₁ (lines_bytes (sorting_printed plan e.sorting e.judged.sorting))

      pub flight_asked : PrintSectionPre d₂ at₂ plan (size_of passes_form) e.flight
      flight_asked =
          record {
            room =
                omega (
                  arith,
                  first_long,
                  second_long,
                  w₁.end,
                  w₂.end,
                  mosaic_long plan e.mosaic e.judged.mosaic [] 0,
                  sorting_long plan e.sorting e.judged.sorting [] 0,
                  asked.room,
                  asked.batches,
                  asked.jobs,
                  asked.blocks,
                );
            place = asked.flight;
          }

      pub sections_stored : (d₃ : List ℕ) (at₃ : ℕ) → Written d₂ d₃ at₂ (lines_bytes (flight_printed plan e.flight e.judged.flight)) at₃
          → Written page d₃ 0 (lines_bytes (examined_lines plan e)) at₃
      sections_stored d₃ at₃ w₃ =
          subst (λ (l : List ℕ). Written page d₃ 0 l at₃) (sym (lines_apart plan e))
          (then_written page d₂ d₃ 0 at₂ at₃ _ _ (then_written page d₁ d₂ 0 at₁ at₂ _ _ w₁ w₂) w₃)

-- A section is present by its members as by the sheet.
same_presence : {A : Type 0} (m n : ℕ) (l : List A) → (0 < m → 0 < n) → (0 < n → 0 < m) → if_present m l ≡ if_present n l
same_presence m n l to from = go (dec_lt 0 m)
  where
    go : Dec (0 < m) → if_present m l ≡ if_present n l
    go (yes h) = present_some m l h ∙ sym (present_some n l (to h))
    go (no h) = present_none m l (omega arith) ∙ sym (present_none n l (less (dec_lt 0 n)))
      where
        less : Dec (0 < n) → n < 1
        less (yes k) = absurd (h (from k))
        less (no k) = omega arith

some_batch : (m : MosaicSection) (bs : List Batch) → MosaicLawful m bs → 0 < m.strips → 0 < length bs
unfolding batch_before no_batch
some_batch m [] L h = absurd (omega (arith, L.covers))
some_batch m (b ∷ bs) L h = omega arith

-- What is printed of each section of a lawful plan is its lines.
module _ (s : Sheet) (plan : List ℕ) (sound : SheetSound s) (L : PlanLawful s (stated_plan s plan)) where
  batches_count : length (stated_batches s plan) ≡ (mosaic_part s plan).members
  unfolding stated_batches
  batches_count = length_from batch_from (size_of batch_form) plan ((mosaic_part s plan).head + size_of mosaic_head_form) (mosaic_part s plan).members

  jobs_count : length (stated_jobs s plan) ≡ (sorting_part s plan).members
  unfolding stated_jobs
  jobs_count = length_from job_from (size_of job_form) plan ((sorting_part s plan).head + size_of sorting_head_form) (sorting_part s plan).members

  passes_count : length (stated_passes s plan) ≡ (flight_part s plan).members
  unfolding stated_passes
  passes_count = length_from passes_from (size_of passes_form) plan ((flight_part s plan).head + size_of flight_head_form) (flight_part s plan).members

  mosaic_is : (figure : ℕ) → mosaic_printed plan (mosaic_part s plan) figure ≡ if_present s.mosaic.strips (mosaic_lines figure (stated_batches s plan))
  unfolding mosaic_printed mosaic_lines batch_line_from stated_batches batch_at stated_plan
  mosaic_is figure =
      same_presence (mosaic_part s plan).members s.mosaic.strips _
      (λ h. omega (arith, batches_count, batches_most s.mosaic (stated_batches s plan) sound.mosaic L.mosaic))
      (λ h. omega (arith, batches_count, some_batch s.mosaic (stated_batches s plan) L.mosaic h))
      ∙ ap (λ (lines : List (List ℕ)). if_present s.mosaic.strips (head_line mosaic_head_letter figure ∷ lines))
      (listed_same (mosaic_part s plan).members _ _ (λ i l. ap (batch_line (i + 1)) (sym (member_at batch_from (size_of batch_form) plan _ _ i no_batch l)))
      ∙ ap (λ (n : ℕ). listed n (λ i. batch_line (i + 1) (batch_at (stated_batches s plan) i))) (sym batches_count))

  sorting_is : (figure : ℕ) → sorting_printed plan (sorting_part s plan) figure ≡ if_present (strips_in_all s.sorting) (sorting_lines figure (stated_jobs s plan))
  unfolding sorting_printed sorting_lines job_line_from stated_jobs job_at stated_plan
  sorting_is figure =
      same_presence (sorting_part s plan).members (strips_in_all s.sorting) _
      (λ h. omega (arith, jobs_count, jobs_all s.sorting (stated_jobs s plan) sound.sorting L.sorting))
      (λ h. omega (arith, jobs_count, jobs_all s.sorting (stated_jobs s plan) sound.sorting L.sorting))
      ∙ ap (λ (lines : List (List ℕ)). if_present (strips_in_all s.sorting) (head_line sorting_head_letter figure ∷ lines))
      (listed_same (sorting_part s plan).members _ _ (λ i l. ap job_line (sym (member_at job_from (size_of job_form) plan _ _ i no_job l)))
      ∙ ap (λ (n : ℕ). listed n (λ i. job_line (job_at (stated_jobs s plan) i))) (sym jobs_count))

  flight_is : (figure : ℕ) → flight_printed plan (flight_part s plan) figure ≡ if_present s.flight.blocks (flight_lines figure (stated_passes s plan))
  unfolding flight_printed flight_lines block_line_from stated_passes passes_at stated_plan
  flight_is figure =
      same_presence (flight_part s plan).members s.flight.blocks _
      (λ h. omega (arith, passes_count, L.flight.every_block))
      (λ h. omega (arith, passes_count, L.flight.every_block))
      ∙ ap (λ (lines : List (List ℕ)). if_present s.flight.blocks (head_line flight_head_letter figure ∷ lines))
      (listed_same (flight_part s plan).members _ _ (λ i l. ap (block_line (i + 1)) (sym (member_at passes_from (size_of passes_form) plan _ _ i no_passes l)))
      ∙ ap (λ (n : ℕ). listed n (λ i. block_line (i + 1) (passes_at (stated_passes s plan) i))) (sym passes_count))

-- A plan that the judge allows: what was examined of it, and that its lines are the page.
module _ (sheet plan : List ℕ) (e : Examined) (ex : e ≡ examined sheet plan) (z : e.judged.number ≡ 0) where
  no_fault : (judged sheet plan).number ≡ 0
  no_fault = sym (ap (λ j. j.number) (judged_by sheet plan e ex)) ∙ z

  whole : SheetSound (read_sheet sheet)
  whole = read_sound sheet (judged_right sheet plan no_fault).0

  parts : examined sheet plan ≡ examined_plan (read_sheet sheet) plan
  unfolding examined
  parts = rw (eq-eqb (read_sheet sheet).number 0 (judged_right sheet plan no_fault).0)

  lawful : PlanLawful (read_sheet sheet) (stated_plan (read_sheet sheet) plan)
  lawful = (judged_stated sheet plan no_fault).0

  figures : FiguresTrue (read_sheet sheet) (stated_plan (read_sheet sheet) plan) (judged sheet plan)
  figures = (judged_stated sheet plan no_fault).1

  pub print_asked : (page : List ℕ) → page_length ≤ length page → PrintSectionsPre page plan e
  unfolding examined_plan stated_plan
  print_asked page large =
      let fit = parts_fit (read_sheet sheet) plan in
      rw (ex, parts)
      (record {
        room = large;
        batches = omega (arith, batches_count (read_sheet sheet) plan whole lawful, batches_most (read_sheet sheet).mosaic (stated_batches (read_sheet sheet) plan) whole.mosaic lawful.mosaic, whole.mosaic.most_strips_holds);
        jobs = omega (arith, jobs_count (read_sheet sheet) plan whole lawful, jobs_most (read_sheet sheet).sorting (stated_jobs (read_sheet sheet) plan) whole.sorting lawful.sorting);
        blocks = omega (arith, passes_count (read_sheet sheet) plan whole lawful, lawful.flight.every_block, whole.flight.most_blocks_holds);
        mosaic = omega (arith, fit.0.members, fit.0.within);
        sorting = omega (arith, fit.1.members, fit.1.within);
        flight = omega (arith, fit.2.members, fit.2.within);
      })

  same_parts : e ≡ examined_plan (read_sheet sheet) plan
  same_parts = ex ∙ parts

  mosaic_lines_are : mosaic_printed plan e.mosaic e.judged.mosaic
      ≡ if_present (read_sheet sheet).mosaic.strips (mosaic_lines (mosaic_figure (read_sheet sheet).mosaic (stated_batches (read_sheet sheet) plan)) (stated_batches (read_sheet sheet) plan))
  unfolding examined_plan stated_plan
  mosaic_lines_are =
      ap₂ (mosaic_printed plan) (ap (λ (x : Examined). x.mosaic) same_parts) (ap (λ j. j.mosaic) (judged_by sheet plan e ex) ∙ figures.mosaic)
      ∙ mosaic_is (read_sheet sheet) plan whole lawful (mosaic_figure (read_sheet sheet).mosaic (stated_batches (read_sheet sheet) plan))

  sorting_lines_are : sorting_printed plan e.sorting e.judged.sorting
      ≡ if_present (strips_in_all (read_sheet sheet).sorting) (sorting_lines (sorting_figure (read_sheet sheet).sorting (stated_jobs (read_sheet sheet) plan)) (stated_jobs (read_sheet sheet) plan))
  unfolding examined_plan stated_plan
  sorting_lines_are =
      ap₂ (sorting_printed plan) (ap (λ (x : Examined). x.sorting) same_parts) (ap (λ j. j.sorting) (judged_by sheet plan e ex) ∙ figures.sorting)
      ∙ sorting_is (read_sheet sheet) plan whole lawful (sorting_figure (read_sheet sheet).sorting (stated_jobs (read_sheet sheet) plan))

  flight_lines_are : flight_printed plan e.flight e.judged.flight
      ≡ if_present (read_sheet sheet).flight.blocks (flight_lines (flight_figure (read_sheet sheet).flight (stated_passes (read_sheet sheet) plan)) (stated_passes (read_sheet sheet) plan))
  unfolding examined_plan stated_plan
  flight_lines_are =
      ap₂ (flight_printed plan) (ap (λ (x : Examined). x.flight) same_parts) (ap (λ j. j.flight) (judged_by sheet plan e ex) ∙ figures.flight)
      ∙ flight_is (read_sheet sheet) plan whole lawful (flight_figure (read_sheet sheet).flight (stated_passes (read_sheet sheet) plan))

  lines_are : lines_bytes (examined_lines plan e) ≡ page_of sheet plan
  unfolding examined_lines page_of page_bytes page_lines stated_plan
  lines_are = ap lines_bytes (ap₂ ◌++◌ (ap₂ ◌++◌ mosaic_lines_are sorting_lines_are) flight_lines_are)

  page_fits : (page : List ℕ) → page_length ≤ length page → length (page_of sheet plan) ≤ length page
  page_fits page large = subst (λ (l : List ℕ). length l ≤ length page) lines_are (lines_fit page plan e (print_asked page large))

-- The ways out of a call.
module _ (sheet plan page : List ℕ) where
  pub page_small : length page < page_length → Paged sheet plan page page (answer buffer_too_small 0 0)
  unfolding page_answer paged_bytes
  page_small h =
      record {
        answer = sym (ap (λ (b : Bool). cond b (answer buffer_too_small 0 0) (printed_answer sheet plan)) small);
        buffer = rw small (holding_none page);
      }
    where
      small : ltb (length page) page_length ≡ true
      small = lt-ltb (length page) page_length h

  module _ (large : page_length ≤ length page) (e : Examined) (ex : e ≡ examined sheet plan) where
    pub page_refused : (e.judged.number ≡ 0 → ⊥) → Paged sheet plan page page (answer e.judged.number e.judged.place 0)
    unfolding page_answer paged_bytes printed_answer printed
    page_refused h =
        rw (judged_by sheet plan e ex)
        (record {
          answer = rw (le-ltb (length page) page_length large, fault);
          buffer = rw (le-ltb (length page) page_length large, fault) (holding_none page);
        })
      where
        fault : eqb (judged sheet plan).number 0 ≡ false
        fault = ne_eqb (judged sheet plan).number 0 (λ q. h (ap (λ j. j.number) (judged_by sheet plan e ex) ∙ q))

    pub page_printed : e.judged.number ≡ 0 → (after : List ℕ) (n : ℕ) → Written page after 0 (lines_bytes (examined_lines plan e)) n
        → Paged sheet plan page after (answer 0 0 n)
    unfolding page_answer paged_bytes printed_answer printed
    page_printed z after n w =
        record {
          answer = rw (le-ltb (length page) page_length large, right) (ap (λ (k : ℕ). answer 0 0 k) long);
          buffer =
              rw (le-ltb (length page) page_length large, right)
              (w.buffer ∙ ap (put page 0) is ∙ put_whole page (page_of sheet plan) (page_fits sheet plan e ex z page large));
        }
      where
        is : lines_bytes (examined_lines plan e) ≡ page_of sheet plan
        is = lines_are sheet plan e ex z

        long : n ≡ length (page_of sheet plan)
        long = omega (arith, w.end, ap length is)

        right : eqb (judged sheet plan).number 0 ≡ true
        right = eq-eqb (judged sheet plan).number 0 (no_fault sheet plan e ex z)
