-- `length_due` meets its contract: each of its cases is the length that the field table has for the tag, or no length where it has none.
use Rattle.sheet_lengths.proofs.Lengths.{cases, mosaic_strip_case}
use borrow.Author.Rules.{rules}
use native.Mathlib.Omega.{arith}
use Rattle.sheet_lengths.proofs.length_due.Goals as goal

pub returns-in-16 : goal.returns-in-16
returns-in-16 c = search cases

pub returns-in-1 : goal.returns-in-1
returns-in-1 c = mosaic_strip_case _ _ _ _ (search rules) (omega arith) (omega arith) (omega arith) (omega arith)

pub returns-in-2 : goal.returns-in-2
returns-in-2 c = mosaic_strip_case _ _ _ _ (search rules) (omega arith) (omega arith) (omega arith) (omega arith)

pub returns-in-3 : goal.returns-in-3
returns-in-3 c = mosaic_strip_case _ _ _ _ (search rules) (omega arith) (omega arith) (omega arith) (omega arith)

pub returns-in-4 : goal.returns-in-4
returns-in-4 c = mosaic_strip_case _ _ _ _ (search rules) (omega arith) (omega arith) (omega arith) (omega arith)

pub returns-in_default-stations : goal.returns-in_default-stations
returns-in_default-stations c = search cases

pub returns-in-32 : goal.returns-in-32
returns-in-32 c = search cases

pub returns-in-33 : goal.returns-in-33
returns-in-33 c = search cases

pub returns-in-48 : goal.returns-in-48
returns-in-48 c = search cases

pub returns-in-49 : goal.returns-in-49
returns-in-49 c = search cases

pub returns-in-51 : goal.returns-in-51
returns-in-51 c = search cases

pub returns-in-50 : goal.returns-in-50
returns-in-50 c = search cases

pub returns-in_default : goal.returns-in_default
returns-in_default c = search cases
