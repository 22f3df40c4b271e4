-- `check_end` meets its contract: the first test that fails gives its number, in the order of the rows.
use borrow.Author.Tests.{le-leb, lt-leb}
use Rattle.sheet.specs.Read.{end_number, end_checks}
use Rattle.sheet.specs.Rows.{first_failure}
use Rattle.sheet.proofs.RowLaws.{test_fails, test_passes}
use Rattle.sheet_checks.specs.NumberLaws.{rows}
use Rattle.sheet_checks.proofs.check_end.Goals as goal

pub returns-then-members-lt1-clause-number : goal.returns-then-members-lt1-clause-number
unfolding end_number end_checks
returns-then-members-lt1-clause-number c = search (rows, test_fails, test_passes, le-leb, lt-leb) depth 14

pub returns-then-not-few_blocks-clause-number : goal.returns-then-not-few_blocks-clause-number
unfolding end_number end_checks
returns-then-not-few_blocks-clause-number c = search (rows, test_fails, test_passes, le-leb) depth 14

pub returns-clause-number : goal.returns-clause-number
unfolding end_number end_checks first_failure
returns-clause-number c = search (rows, test_passes, le-leb) depth 14
