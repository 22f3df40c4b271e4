-- The format of a plan's fields (01, "The plan"): of each field its tag, and the widths in bytes of the numbers of its content, in order.
-- From a form follow its size, its bytes and the numbers that are read from it, for every form alike.
use Rattle.std.specs.Prelude.{ℕ, ◌+◌, ◌*◌, ◌^◌, ◌<◌, List, [], ◌∷◌, ◌++◌, get_or, take}
use Rattle.field.specs.Bytes.{bytes_of, number_at}
use Rattle.field.specs.Field.{field_bytes}
use Rattle.sheet.specs.Tags.{plan_mosaic_tag, plan_batch_tag, plan_sorting_tag, plan_strip_tag, plan_flight_tag, plan_block_tag, plan_refusal_tag}

pub record Form : Type 0 where
  pub tag : ℕ
  pub widths : List ℕ

-- "90: mosaic figure (4 bytes)"; 02, Req 09: "Mosaic and sorting figures take eight bytes in the plan"
abbrev pub mosaic_head_form : Form
mosaic_head_form = record { tag = plan_mosaic_tag; widths = 8 ∷ [] }

-- "91 per batch: number of its last strip (1 byte), mount start, finish (4 bytes each)"
abbrev pub batch_form : Form
batch_form = record { tag = plan_batch_tag; widths = 1 ∷ 4 ∷ 4 ∷ [] }

-- "A0: sorting figure (4)", since Req 09 in eight bytes too
abbrev pub sorting_head_form : Form
sorting_head_form = record { tag = plan_sorting_tag; widths = 8 ∷ [] }

-- "A1 per strip in scanner order: desk, number within the desk (1 byte each), scan start, desk start (4 each)"
abbrev pub job_form : Form
job_form = record { tag = plan_strip_tag; widths = 1 ∷ 1 ∷ 4 ∷ 4 ∷ [] }

-- "B0: flight figure (4), order number (8)"
abbrev pub flight_head_form : Form
flight_head_form = record { tag = plan_flight_tag; widths = 4 ∷ 8 ∷ [] }

-- "B1 per block: first and second start (4 each)"
abbrev pub passes_form : Form
passes_form = record { tag = plan_block_tag; widths = 4 ∷ 4 ∷ [] }

-- "E0: refusal number (2), place (4)"
abbrev pub refusal_form : Form
refusal_form = record { tag = plan_refusal_tag; widths = 2 ∷ 4 ∷ [] }

-- the bytes that numbers of these widths take
abbrev pub widths_sum : List ℕ → ℕ
widths_sum [] = 0
widths_sum (w ∷ ws) = w + widths_sum ws

abbrev pub content_length : Form → ℕ
content_length f = widths_sum f.widths

-- "A field is a one-byte tag, a two-byte content length and the content."
abbrev pub size_of : Form → ℕ
size_of f = 3 + content_length f

-- the width of number i of a field, from 0, and how far behind the tag it stands
abbrev pub width_of : Form → ℕ → ℕ
width_of f i = get_or f.widths i 0

abbrev pub offset_of : Form → ℕ → ℕ
offset_of f i = 3 + widths_sum (take i f.widths)

-- the bytes of numbers, each in its width
unfoldable pub numbers_bytes : List ℕ → List ℕ → List ℕ
numbers_bytes [] values = []
numbers_bytes (w ∷ ws) [] = []
numbers_bytes (w ∷ ws) (v ∷ vs) = bytes_of w v ++ numbers_bytes ws vs

-- the bytes of a field
unfoldable pub form_bytes : Form → List ℕ → List ℕ
form_bytes f values = field_bytes f.tag (numbers_bytes f.widths values)

-- the numbers of these widths in a row of bytes; the first stands so many bytes behind an offset
abbrev pub numbers_from : List ℕ → List ℕ → ℕ → ℕ → List ℕ
numbers_from [] s at skip = []
numbers_from (w ∷ ws) s at skip = number_at s (at + skip) w ∷ numbers_from ws s at (skip + w)

-- the numbers of a field whose tag stands at an offset
abbrev pub values_from : Form → List ℕ → ℕ → List ℕ
values_from f s at = numbers_from f.widths s at 3

-- each number fits its width
pub data EachFits : List ℕ → List ℕ → Type 0 where
  none : EachFits [] []
  more : {w v : ℕ} {ws vs : List ℕ} → v < 2 ^ (8 * w) → EachFits ws vs → EachFits (w ∷ ws) (v ∷ vs)
