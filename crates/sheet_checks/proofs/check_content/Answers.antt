-- `check_content` meets its contract: the first test that fails gives its number, in the order of the rows.
use Rattle.sheet.specs.Read.{content_checks}
use Rattle.sheet.specs.Rows.{first_failure}
use Rattle.sheet.proofs.GivenNumbers.{made_number}
use Rattle.sheet_checks.specs.NumberLaws.{rows, length_among}
use borrow.Author.Rules.{rules}
use Rattle.sheet_checks.proofs.check_content.Goals as goal

pub check_ranges-requires : goal.check_ranges-requires
check_ranges-requires c = record { begins = search rules; due = search length_among }

pub returns-then-not-is_due-clause-number : goal.returns-then-not-is_due-clause-number
unfolding content_checks
returns-then-not-is_due-clause-number c = search rows depth 14

pub returns-in-Err-clause-number : goal.returns-in-Err-clause-number
unfolding content_checks
returns-in-Err-clause-number c = search (rows, c.in-Err.ensures) depth 14

pub returns-then-not-window_ordered-clause-number : goal.returns-then-not-window_ordered-clause-number
unfolding content_checks
returns-then-not-window_ordered-clause-number c = search (rows, c.in_default.ensures) depth 14

pub returns-then-not-has_room-clause-number : goal.returns-then-not-has_room-clause-number
unfolding content_checks
returns-then-not-has_room-clause-number c = search (rows, c.in_default.ensures) depth 14

pub returns-then-not-order_proper-clause-number : goal.returns-then-not-order_proper-clause-number
unfolding content_checks
returns-then-not-order_proper-clause-number c =
    made_number _ _ _ _ c.new-then-not-order_proper.ensures (search (rows, c.in_default.ensures) depth 14)

pub returns-clause-number : goal.returns-clause-number
unfolding content_checks first_failure
returns-clause-number c = search (rows, c.in_default.ensures) depth 14
