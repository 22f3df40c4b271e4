-- The refusals of the code by their numbers, and the number that a check gives: 0 where nothing is refused.
use Rattle.std.specs.Prelude.{ℕ, Result, Ok, Err}
use Rattle.sheet.specs.Refusals.{table_too_small, buffer_too_small, field_cut, tag_not_permitted, length_wrong, out_of_range, too_many, no_members, order_not_proper}
use Rattle.sheet.specs.Refusals.{order_missing, order_impossible, layout_wrong, rule_broken, figure_untrue, time_too_large, time_of_zero, longest_below_shortest}
use Rattle.sheet.specs.declared.refusals.Refusal.{Refusal}
use Rattle.sheet.specs.declared.refusals.Refusal.TheVariants.{TableTooSmall, BufferTooSmall, FieldCut, TagNotPermitted, LengthWrong, OutOfRange, TooMany, NoMembers, OrderNotProper}
use Rattle.sheet.specs.declared.refusals.Refusal.TheVariants.{OrderMissing, OrderImpossible, LayoutWrong, RuleBroken, FigureUntrue, TimeTooLarge, TimeOfZero, LongestBelowShortest}
use Rattle.sheet.specs.declared.refusals.Refused.{Refused}

abbrev pub number_of : Refusal → ℕ
number_of TableTooSmall = table_too_small
number_of BufferTooSmall = buffer_too_small
number_of FieldCut = field_cut
number_of TagNotPermitted = tag_not_permitted
number_of LengthWrong = length_wrong
number_of OutOfRange = out_of_range
number_of TooMany = too_many
number_of NoMembers = no_members
number_of OrderNotProper = order_not_proper
number_of OrderMissing = order_missing
number_of OrderImpossible = order_impossible
number_of LayoutWrong = layout_wrong
number_of RuleBroken = rule_broken
number_of FigureUntrue = figure_untrue
number_of TimeTooLarge = time_too_large
number_of TimeOfZero = time_of_zero
number_of LongestBelowShortest = longest_below_shortest

-- the number that a check of one field gives
abbrev pub number_given : Result (Unit {0}) Refusal → ℕ
number_given (Ok _) = 0
number_given (Err refusal) = number_of refusal

-- the number and the place that a check gives: 0 and 0 where nothing is refused
abbrev pub found_number : Result (Unit {0}) Refused → ℕ
found_number (Ok _) = 0
found_number (Err refused) = number_of refused.refusal

abbrev pub found_place : Result (Unit {0}) Refused → ℕ
found_place (Ok _) = 0
found_place (Err refused) = refused.place
