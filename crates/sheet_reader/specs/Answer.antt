-- The answer of a reading: its sections, or the number and place of its refusal.
use Rattle.std.specs.Prelude.{Result, Ok, Err}
use Rattle.sheet.specs.Given.{number_of}
use Rattle.sheet.specs.Read.{refused, accepted}
use Rattle.sheet.specs.declared.Reading.{Reading}
use Rattle.sheet.specs.declared.Sheet.{Sheet}
use Rattle.sheet.specs.declared.refusals.Refused.{Refused}

abbrev pub sheet_of : Result Reading Refused → Sheet
sheet_of (Ok reading) = accepted reading
sheet_of (Err r) = refused (number_of r.refusal) r.place
