-- What the cases of `LengthDue` mean, and the laws by which those of `length_due` are the lengths of the field table (02, Req 05).
-- The idea: for a tag that is known the table computes to the lengths that its contents have; a tag outside the table has no content.
use Rattle.std.specs.Prelude.{ℕ, ◌+◌, ◌*◌, ◌≤◌, ◌≡◌, ◌||◌, List, [], ◌∷◌}
use Rattle.std.proofs.Common.{◌∙◌}
use Rattle.sheet.specs.FieldTable.{field_table, lengths_due}
use Rattle.sheet_lengths.specs.declared.LengthDue.{LengthDue}
use Rattle.sheet_lengths.specs.declared.LengthDue.TheVariants.{Bytes, Either, None}

-- The lengths that an answer means. `Bytes n`: n alone is due. `Either m n`: m and n are. `None`: no length is due.
unfoldable pub lengths_given : LengthDue → List ℕ
lengths_given (Bytes n) = n ∷ []
lengths_given (Either m n) = m ∷ n ∷ []
lengths_given None = []

-- What `length_due` answers for a tag and a number of stations: the lengths of the tag's contents in the field table. No width depends on the number of desks.
abbrev pub GivesLength : ℕ → ℕ → LengthDue → Type 0
GivesLength tag stations due = (desks : ℕ) → lengths_given due ≡ lengths_due tag (field_table stations desks)
