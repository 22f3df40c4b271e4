-- `read_fields` meets its contract. Invariant: the reader stands on the same sheet, at the offset of the reading, and what is left to read gives the sheet's
-- answer.
use Rattle.std.proofs.Common.{◌-◌, length}
use Rattle.sheet_reader.proofs.Loop.{ReadingHolds}
use Rattle.sheet_reader.proofs.read_fields.Given as goal

abbrev pub invariant-loop-reading : goal.invariant-loop-reading
invariant-loop-reading l = ReadingHolds l.s l.reader.sheet.now l.reader.at l.reading

abbrev pub decreases-loop-reading : goal.decreases-loop-reading
decreases-loop-reading l = length l.s - l.reader.at
