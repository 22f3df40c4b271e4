-- What a call of `page` answers and leaves, for every sheet, every plan and every page buffer (02, Req 02).
use Rattle.std.specs.Prelude.{ℕ, ◌≡◌, cond, List, [], length, ltb, eqb}
use Rattle.base.specs.Answer.{answer}
use Rattle.base.specs.declared.Answer.{Answer}
use Rattle.field.specs.Put.{holding}
use Rattle.sheet.specs.Limits.{page_length}
use Rattle.sheet.specs.Refusals.{buffer_too_small}
use Rattle.sheet.specs.Read.{read_sheet}
use Rattle.judge.specs.Judged.{judged}
use Rattle.judge.specs.Stated.{stated_plan}
use Rattle.page.specs.Page.{page_bytes}

-- the page of the timetable that a plan states for a sheet
unfoldable pub page_of : List ℕ → List ℕ → List ℕ
page_of sheet plan = page_bytes (read_sheet sheet) (stated_plan (read_sheet sheet) plan)

-- "Only a plan the judge allows is printed; for any other the judge's number and place come back": what a call with a page buffer that is large enough answers
unfoldable pub printed_answer : List ℕ → List ℕ → Answer
printed_answer sheet plan =
    cond (eqb (judged sheet plan).number 0)
    (answer 0 0 (length (page_of sheet plan)))
    (answer (judged sheet plan).number (judged sheet plan).place 0)

-- ".. and the page is untouched": the bytes that it writes
unfoldable pub printed : List ℕ → List ℕ → List ℕ
printed sheet plan = cond (eqb (judged sheet plan).number 0) (page_of sheet plan) []

-- "Number 2 is given also for a page buffer below 3,069 bytes, before the judge is tried": the same with a page buffer of this length
unfoldable pub page_answer : List ℕ → List ℕ → ℕ → Answer
page_answer sheet plan room = cond (ltb room page_length) (answer buffer_too_small 0 0) (printed_answer sheet plan)

unfoldable pub paged_bytes : List ℕ → List ℕ → ℕ → List ℕ
paged_bytes sheet plan room = cond (ltb room page_length) [] (printed sheet plan)

-- What a call does: its answer, and the page buffer with the page at its start and behind it what stood there. "No byte past the last line is written."
pub record Paged (sheet plan page page_after : List ℕ) (r : Answer) : Type 0 where
  pub answer : r ≡ page_answer sheet plan (length page)
  pub buffer : page_after ≡ holding (paged_bytes sheet plan (length page)) page
