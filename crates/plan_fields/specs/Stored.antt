-- What each function stores. The layout itself is that of crate rules (specs/Plan.antt).
use Rattle.std.specs.Prelude.{ℕ, List, [], ◌∷◌, ◌++◌, take}
use Rattle.field.specs.Bytes.{bytes_of}
use Rattle.plan_format.specs.Format.{Form, content_length, numbers_bytes, job_form}
use Rattle.rules.specs.declared.Batch.{Batch}
use Rattle.rules.specs.declared.Job.{Job}
use Rattle.rules.specs.declared.Passes.{Passes}

-- tag and content length of a field
unfoldable pub tag_bytes : ℕ → ℕ → List ℕ
tag_bytes tag len = tag ∷ bytes_of 2 len

-- a field as far as its first n numbers
unfoldable pub part_bytes : Form → ℕ → List ℕ → List ℕ
part_bytes f n values = tag_bytes f.tag (content_length f) ++ numbers_bytes (take n f.widths) values

-- a job's field as far as its number within the desk
abbrev pub strip_bytes : ℕ → ℕ → List ℕ
strip_bytes desk number = part_bytes job_form 2 (desk ∷ number ∷ [])

-- the members by their numbers
abbrev pub batch : ℕ → ℕ → ℕ → Batch
batch last start finish = record { last = last; start = start; finish = finish }

abbrev pub job : ℕ → ℕ → ℕ → ℕ → Job
job desk number scan start = record { desk = desk; number = number; scan = scan; start = start }

abbrev pub passes : ℕ → ℕ → Passes
passes first second = record { first = first; second = second }
