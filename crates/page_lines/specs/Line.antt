-- The lines of a page (02, Req 02), column by column, and their bytes. A column is a byte, letters, digits and spaces as in ASCII.
use Rattle.std.specs.Prelude.{ℕ, List, [], ◌∷◌, ◌++◌}
use Rattle.decimal.specs.Columns.{space, columns}
use Rattle.rules.specs.Plan.{members_bytes}
use Rattle.rules.specs.declared.Batch.{Batch}
use Rattle.rules.specs.declared.Job.{Job}
use Rattle.rules.specs.declared.Passes.{Passes}

-- "lines of exactly 32 columns and a line feed"
abbrev pub line_feed : ℕ
line_feed = 10

-- so that each takes 33 bytes
abbrev pub line_length : ℕ
line_length = 33

unfoldable pub line_bytes : List ℕ → List ℕ
line_bytes line = line ++ (line_feed ∷ [])

-- the bytes of lines one behind the other
abbrev pub lines_bytes : List (List ℕ) → List ℕ
lines_bytes lines = members_bytes line_bytes lines

-- "m, s or f", "M, S or F"
abbrev pub mosaic_head_letter : ℕ
mosaic_head_letter = 109

abbrev pub sorting_head_letter : ℕ
sorting_head_letter = 115

abbrev pub flight_head_letter : ℕ
flight_head_letter = 102

abbrev pub batch_letter : ℕ
batch_letter = 77

abbrev pub job_letter : ℕ
job_letter = 83

abbrev pub block_letter : ℕ
block_letter = 70

-- "A head line is m, s or f and the figure right-aligned in 31 columns."
unfoldable pub head_line : ℕ → ℕ → List ℕ
head_line letter figure = letter ∷ columns space 31 figure

-- "A member line is M, S or F, then fields of 3, 4, 12 and 12 columns, right-aligned with spaces, no leading zeros." The second field is given by its columns.
unfoldable pub member_line : ℕ → ℕ → List ℕ → ℕ → ℕ → List ℕ
member_line letter first second third fourth = (letter ∷ columns space 3 first) ++ second ++ (columns space 12 third ++ columns space 12 fourth)

unfoldable pub second_field : ℕ → List ℕ
second_field value = columns space 4 value

-- "four blanks"
unfoldable pub blanks : List ℕ
blanks = space ∷ space ∷ space ∷ space ∷ []

-- "M: batch number, last strip, start, finish."
unfoldable pub batch_line : ℕ → Batch → List ℕ
batch_line number b = member_line batch_letter number (second_field b.last) b.start b.finish

-- "S: desk, number within the desk, scan start, desk start."
unfoldable pub job_line : Job → List ℕ
job_line j = member_line job_letter j.desk (second_field j.number) j.scan j.start

-- "F: block number, four blanks, first start, second start."
unfoldable pub block_line : ℕ → Passes → List ℕ
block_line number p = member_line block_letter number blanks p.first p.second
