-- The page is "lines of exactly 32 columns and a line feed": every line has 32 columns, none of them a line feed, and the bytes are these lines, each with a
-- line feed behind it. The columns are those of the fields, one behind another; the bytes of line i then stand from 33 * i on. A lawful plan of a sound sheet
-- has at most 93 lines.
use Rattle.std.specs.Prelude.{ℕ, zero, suc, ◌+◌, ◌*◌, ◌≤◌, ◌<◌, ◌≡◌, ◌≢◌, Bool, cond, length, get_or, take, drop, ltb}
use Rattle.std.proofs.Math.Path.{refl}
use Rattle.std.proofs.Common.{sym, ap, ◌∙◌, subst, arith, length-append, get_or-drop, take_at}
use Rattle.std.proofs.Math.Bool.{true, false}
use mathlib.Core.List.{List, [], ◌∷◌, ◌++◌, append_assoc}
use Rattle.std.proofs.Math.Seq.{drop-append-add}
use Rattle.std.proofs.lemmas.List.{get_or_at}
use Rattle.base.specs.Listed.{listed, listed_length, listed_at}
use Rattle.decimal.specs.Columns.{space, columns}
use Rattle.decimal.proofs.Laws.{length_columns, no_line_feed}
use Rattle.sheet.specs.Limits.{most_desks, most_strips_of_desk, most_strips, most_blocks}
use Rattle.sheet.specs.Sound.{SheetSound, strips_in_all}
use Rattle.sheet.specs.declared.Sheet.{Sheet}
use Rattle.rules.specs.Mosaic.{batch_at, mosaic_figure}
use Rattle.rules.specs.Sorting.{job_at, sorting_figure}
use Rattle.rules.specs.Flight.{passes_at, flight_figure}
use Rattle.rules.specs.Plan.{Plan, PlanLawful, members_bytes, if_present}
use Rattle.rules.specs.declared.Batch.{Batch}
use Rattle.rules.specs.declared.Job.{Job}
use Rattle.rules.specs.declared.Passes.{Passes}
use Rattle.rules_laws.proofs.Fits.{batches_most, jobs_most}
use Rattle.rules_laws.proofs.Present.{present_most}
use Rattle.page_lines.specs.Line.{line_feed, line_bytes, lines_bytes, head_line, member_line, second_field, blanks, batch_line, job_line, block_line}
use Rattle.page_lines.specs.Line.{mosaic_head_letter, sorting_head_letter, flight_head_letter, batch_letter, job_letter, block_letter}
use Rattle.page_lines.specs.Columns.{HasColumns}
use Rattle.page_lines.proofs.Columns.{length_line, head_columns, member_columns, second_columns, blanks_columns}
use Rattle.page.specs.Page.{mosaic_lines, sorting_lines, flight_lines, page_lines, page_bytes}
use Rattle.page_laws.specs.Lines.{Each, NoFeed, Line, InLines, mosaic_of_page, sorting_of_page, flight_of_page}

module _ {A : Type 0} (none : A) (Has : A → Type 0) where
  each_empty : Each none Has []
  each_empty i h = absurd (omega arith)

  each_more : (x : A) (xs : List A) → Has x → Each none Has xs → Each none Has (x ∷ xs)
  each_more x xs p e zero h = p
  each_more x xs p e (suc i) h = e i (omega arith)

  each_append : (xs ys : List A) → Each none Has xs → Each none Has ys → Each none Has (xs ++ ys)
  each_append [] ys e f = f
  each_append (x ∷ xs) ys e f = each_more x (xs ++ ys) (e 0 (omega arith)) (each_append xs ys (λ i h. e (suc i) (omega arith)) f)

  each_listed : (n : ℕ) (g : ℕ → A) → ((i : ℕ) → i < n → Has (g i)) → Each none Has (listed n g)
  each_listed n g e i h = subst Has (sym (listed_at n g i none below)) (e i below)
    where
      below : i < n
      below = omega (arith, listed_length n g)

  each_present : (n : ℕ) (xs : List A) → Each none Has xs → Each none Has (if_present n xs)
  unfolding if_present
  each_present n xs e = go (ltb 0 n)
    where
      go : (b : Bool) → Each none Has (cond b xs [])
      go true = e
      go false = each_empty

-- The bytes of lines of 32 columns.
pub lines_long : (lines : List (List ℕ)) → Each [] HasColumns lines → length (lines_bytes lines) ≡ 33 * length lines
unfolding members_bytes
lines_long [] each = refl
lines_long (l ∷ lines) each =
    omega (arith, length-append (line_bytes l) (lines_bytes lines), length_line l (each 0 (omega arith)), lines_long lines (λ i h. each (suc i) (omega arith)))

-- line i, its line feed and the lines behind it stand from 33 * i on
pub line_from : (lines : List (List ℕ)) → Each [] HasColumns lines → (i : ℕ) → i < length lines
    → drop (33 * i) (lines_bytes lines) ≡ get_or lines i [] ++ (line_feed ∷ lines_bytes (drop (suc i) lines))
unfolding members_bytes line_bytes
line_from [] each i h = absurd (omega arith)
line_from (l ∷ lines) each zero h = append_assoc l (line_feed ∷ []) (lines_bytes lines)
line_from (l ∷ lines) each (suc i) h =
    ap (λ (k : ℕ). drop k (line_bytes l ++ lines_bytes lines)) next
    ∙ drop-append-add (line_bytes l) (lines_bytes lines) (33 * i)
    ∙ line_from lines (λ k b. each (suc k) (omega arith)) i (omega arith)
  where
    next : 33 * suc i ≡ length (line_bytes l) + 33 * i
    next = omega (arith, length_line l (each 0 (omega arith)))

pub in_lines : (lines : List (List ℕ)) → Each [] Line lines → InLines lines (lines_bytes lines)
in_lines lines each = record {
  columns = wide;
  no_feed = λ i k h b. (each i h).no_feed k (omega (arith, wide i h));
  long = lines_long lines wide;
  line = λ i h. ap (take 32) (line_from lines wide i h) ∙ take_at (get_or lines i []) (line_feed ∷ lines_bytes (drop (suc i) lines)) 32 (wide i h);
  feed =
      λ i h. sym (get_or-drop (33 * i) (lines_bytes lines) 32 0)
      ∙ ap (λ (l : List ℕ). get_or l 32 0) (line_from lines wide i h)
      ∙ get_or_at (get_or lines i []) line_feed (lines_bytes (drop (suc i) lines)) 0 32 (wide i h);
}
  where
    wide : Each [] HasColumns lines
    wide i h = (each i h).columns

-- The lines of the page.
columns_feed : (width value : ℕ) → Each 0 NoFeed (columns space width value)
columns_feed width value i h = no_line_feed width value i (omega (arith, length_columns space width value))

head_is_line : (letter figure : ℕ) → NoFeed letter → Line (head_line letter figure)
unfolding head_line
head_is_line letter figure h =
    record { columns = head_columns letter figure; no_feed = each_more 0 NoFeed letter (columns space 31 figure) h (columns_feed 31 figure) }

module _ (letter first : ℕ) (second : List ℕ) (third fourth : ℕ) (four : length second ≡ 4) where
  member_is_line : NoFeed letter → Each 0 NoFeed second → Line (member_line letter first second third fourth)
  unfolding member_line
  member_is_line h e = record {
    columns = member_columns letter first second third fourth four;
    no_feed =
        each_append 0 NoFeed ((letter ∷ columns space 3 first) ++ second) (columns space 12 third ++ columns space 12 fourth)
        (each_append 0 NoFeed (letter ∷ columns space 3 first) second (each_more 0 NoFeed letter (columns space 3 first) h (columns_feed 3 first)) e)
        (each_append 0 NoFeed (columns space 12 third) (columns space 12 fourth) (columns_feed 12 third) (columns_feed 12 fourth));
  }

second_feed : (value : ℕ) → Each 0 NoFeed (second_field value)
unfolding second_field
second_feed value = columns_feed 4 value

blanks_feed : Each 0 NoFeed blanks
unfolding blanks
blanks_feed = one (space ∷ space ∷ space ∷ []) (one (space ∷ space ∷ []) (one (space ∷ []) (one [] (each_empty 0 NoFeed))))
  where
    one : (l : List ℕ) → Each 0 NoFeed l → Each 0 NoFeed (space ∷ l)
    one l e = each_more 0 NoFeed space l (λ f. omega arith) e

batch_is_line : (number : ℕ) (b : Batch) → Line (batch_line number b)
unfolding batch_line
batch_is_line number b =
    member_is_line batch_letter number (second_field b.last) _ _ (second_columns b.last) (λ f. omega arith) (second_feed b.last)

job_is_line : (j : Job) → Line (job_line j)
unfolding job_line
job_is_line j =
    member_is_line job_letter j.desk (second_field j.number) _ _ (second_columns j.number) (λ f. omega arith) (second_feed j.number)

block_is_line : (number : ℕ) (p : Passes) → Line (block_line number p)
unfolding block_line
block_is_line number p = member_is_line block_letter number blanks _ _ blanks_columns (λ f. omega arith) blanks_feed

-- the lines of a section: a head line, and as many lines as there are members
section_lines : (n head figure : ℕ) (member : ℕ → List ℕ) → NoFeed head → ((i : ℕ) → Line (member i))
    → Each [] Line (head_line head figure ∷ listed n member)
section_lines n head figure member h each =
    each_more [] Line (head_line head figure) (listed n member) (head_is_line head figure h) (each_listed [] Line n member (λ i l. each i))

pub mosaic_count : (figure : ℕ) (bs : List Batch) → length (mosaic_lines figure bs) ≡ length bs + 1
unfolding mosaic_lines
mosaic_count figure bs = omega (arith, listed_length (length bs) (λ i. batch_line (i + 1) (batch_at bs i)))

pub sorting_count : (figure : ℕ) (js : List Job) → length (sorting_lines figure js) ≡ length js + 1
unfolding sorting_lines
sorting_count figure js = omega (arith, listed_length (length js) (λ i. job_line (job_at js i)))

pub flight_count : (figure : ℕ) (ps : List Passes) → length (flight_lines figure ps) ≡ length ps + 1
unfolding flight_lines
flight_count figure ps = omega (arith, listed_length (length ps) (λ i. block_line (i + 1) (passes_at ps i)))

mosaic_lines_lem : (figure : ℕ) (bs : List Batch) → Each [] Line (mosaic_lines figure bs)
unfolding mosaic_lines
mosaic_lines_lem figure bs =
    section_lines (length bs) mosaic_head_letter figure (λ i. batch_line (i + 1) (batch_at bs i)) (λ f. omega arith) (λ i. batch_is_line (i + 1) (batch_at bs i))

sorting_lines_lem : (figure : ℕ) (js : List Job) → Each [] Line (sorting_lines figure js)
unfolding sorting_lines
sorting_lines_lem figure js = section_lines (length js) sorting_head_letter figure (λ i. job_line (job_at js i)) (λ f. omega arith) (λ i. job_is_line (job_at js i))

flight_lines_lem : (figure : ℕ) (ps : List Passes) → Each [] Line (flight_lines figure ps)
unfolding flight_lines
flight_lines_lem figure ps =
    section_lines (length ps) flight_head_letter figure (λ i. block_line (i + 1) (passes_at ps i)) (λ f. omega arith) (λ i. block_is_line (i + 1) (passes_at ps i))

module _ (s : Sheet) (p : Plan) where
  pub page_parts : page_lines s p ≡ mosaic_of_page s p ++ sorting_of_page s p ++ flight_of_page s p
  unfolding page_lines
  page_parts = refl

  pub page_lines_lem : Each [] Line (page_lines s p)
  unfolding page_lines
  page_lines_lem =
      each_append [] Line (mosaic_of_page s p ++ sorting_of_page s p) (flight_of_page s p)
      (each_append [] Line (mosaic_of_page s p) (sorting_of_page s p)
      (each_present [] Line s.mosaic.strips _ (mosaic_lines_lem (mosaic_figure s.mosaic p.batches) p.batches))
      (each_present [] Line (strips_in_all s.sorting) _ (sorting_lines_lem (sorting_figure s.sorting p.jobs) p.jobs)))
      (each_present [] Line s.flight.blocks _ (flight_lines_lem (flight_figure s.flight p.passes) p.passes))

  pub page_in_lines : InLines (page_lines s p) (page_bytes s p)
  unfolding page_bytes
  page_in_lines = in_lines (page_lines s p) page_lines_lem

  pub page_length_lem : length (page_bytes s p) ≡ 33 * length (page_lines s p)
  page_length_lem = page_in_lines.long

  pub parts_length : length (page_lines s p) ≡ length (mosaic_of_page s p) + length (sorting_of_page s p) + length (flight_of_page s p)
  parts_length =
      omega (
        arith,
        ap length page_parts,
        length-append (mosaic_of_page s p ++ sorting_of_page s p) (flight_of_page s p),
        length-append (mosaic_of_page s p) (sorting_of_page s p),
      )

  module _ (sound : SheetSound s) (L : PlanLawful s p) where
    -- three heads, and the members that a sound sheet can have
    pub lines_most : length (page_lines s p) ≤ 3 + most_strips + most_desks * most_strips_of_desk + most_blocks
    lines_most =
        omega (
          arith,
          parts_length,
          present_most s.mosaic.strips (mosaic_lines (mosaic_figure s.mosaic p.batches) p.batches),
          mosaic_count (mosaic_figure s.mosaic p.batches) p.batches,
          batches_most s.mosaic p.batches sound.mosaic L.mosaic,
          sound.mosaic.most_strips_holds,
          present_most (strips_in_all s.sorting) (sorting_lines (sorting_figure s.sorting p.jobs) p.jobs),
          sorting_count (sorting_figure s.sorting p.jobs) p.jobs,
          jobs_most s.sorting p.jobs sound.sorting L.sorting,
          present_most s.flight.blocks (flight_lines (flight_figure s.flight p.passes) p.passes),
          flight_count (flight_figure s.flight p.passes) p.passes,
          L.flight.every_block,
          sound.flight.most_blocks_holds,
        )
