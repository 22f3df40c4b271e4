-- `check_field` meets its contract: the first test that fails gives its number, in the order of the rows, and the place of that number.
use Rattle.std.specs.Prelude.{refl}
use Rattle.sheet.specs.Read.{field_number, field_checks, place_of}
use Rattle.sheet_checks.specs.NumberLaws.{rows}
use Rattle.sheet_checks.proofs.Places.{made_at, content_place}
use Rattle.sheet_checks.proofs.check_field.Goals as goal

pub returns-then-not-section_filled-clause-number : goal.returns-then-not-section_filled-clause-number
unfolding field_number field_checks
returns-then-not-section_filled-clause-number c = search rows depth 14

pub returns-then-not-section_filled-clause-place : goal.returns-then-not-section_filled-clause-place
unfolding place_of
returns-then-not-section_filled-clause-place c = made_at _ _ _ _ _ c.new.ensures refl

pub returns-then-not-order_given-clause-number : goal.returns-then-not-order_given-clause-number
unfolding field_number field_checks
returns-then-not-order_given-clause-number c = search rows depth 14

pub returns-then-not-order_given-clause-place : goal.returns-then-not-order_given-clause-place
unfolding place_of
returns-then-not-order_given-clause-place c = made_at _ _ _ _ _ c.new-then-not-order_given.ensures refl

pub returns-then-not-is_permitted-clause-number : goal.returns-then-not-is_permitted-clause-number
unfolding field_number field_checks
returns-then-not-is_permitted-clause-number c = search rows depth 14

pub returns-then-not-is_permitted-clause-place : goal.returns-then-not-is_permitted-clause-place
unfolding place_of
returns-then-not-is_permitted-clause-place c = made_at _ _ _ _ _ c.new-then-not-is_permitted.ensures refl

pub returns-clause-number : goal.returns-clause-number
unfolding field_number field_checks
returns-clause-number c = search rows depth 14

pub returns-clause-place : goal.returns-clause-place
returns-clause-place c = content_place _ _ _ _ _ c.check_content.ensures.number c.check_content.ensures.place
