-- Every line has 32 columns: those of its fields, one behind another. With the line feed it takes 33 bytes.
use Rattle.std.specs.Prelude.{ℕ, suc, ◌≡◌, refl, List, [], ◌∷◌, ◌++◌, length}
use Rattle.std.proofs.Common.{ap, arith, length-append}
use Rattle.decimal.specs.Columns.{space, columns}
use Rattle.decimal.proofs.Laws.{length_columns}
use Rattle.rules.specs.declared.Batch.{Batch}
use Rattle.rules.specs.declared.Job.{Job}
use Rattle.rules.specs.declared.Passes.{Passes}
use Rattle.page_lines.specs.Line.{line_feed, line_bytes, head_line, member_line, second_field, blanks, batch_line, job_line, block_line}
use Rattle.page_lines.specs.Line.{batch_letter, job_letter, block_letter}
use Rattle.page_lines.specs.Columns.{HasColumns}

pub length_line : (line : List ℕ) → HasColumns line → length (line_bytes line) ≡ 33
unfolding line_bytes
length_line line e = omega (arith, length-append line (line_feed ∷ []))

pub head_columns : (letter figure : ℕ) → length (head_line letter figure) ≡ 32
unfolding head_line
head_columns letter figure = ap suc (length_columns space 31 figure)

pub second_columns : (value : ℕ) → length (second_field value) ≡ 4
unfolding second_field
second_columns value = length_columns space 4 value

pub blanks_columns : length blanks ≡ 4
unfolding blanks
blanks_columns = refl

pub member_columns : (letter first : ℕ) (second : List ℕ) (third fourth : ℕ) → length second ≡ 4 → length (member_line letter first second third fourth) ≡ 32
unfolding member_line
member_columns letter first second third fourth four =
    omega (
      arith,
      length-append ((letter ∷ columns space 3 first) ++ second) (columns space 12 third ++ columns space 12 fourth),
      length-append (letter ∷ columns space 3 first) second,
      length_columns space 3 first,
      length-append (columns space 12 third) (columns space 12 fourth),
      length_columns space 12 third,
      length_columns space 12 fourth,
    )

pub batch_columns : (number : ℕ) (b : Batch) → length (batch_line number b) ≡ 32
unfolding batch_line
batch_columns number b = member_columns batch_letter number (second_field b.last) _ _ (second_columns b.last)

pub job_columns : (j : Job) → length (job_line j) ≡ 32
unfolding job_line
job_columns j = member_columns job_letter j.desk (second_field j.number) _ _ (second_columns j.number)

pub block_columns : (number : ℕ) (p : Passes) → length (block_line number p) ≡ 32
unfolding block_line
block_columns number p = member_columns block_letter number blanks _ _ blanks_columns
