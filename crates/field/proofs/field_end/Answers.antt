-- `field_end` meets its contract: a whole field lies within the row, so that the offset behind it fits.
use Rattle.std.proofs.Common.{inl, inr}
use Rattle.field.specs.Fields.{end_none, end_cut, end_whole, near_fits, behind_fits}
use borrow.Author.Rules.{rules}
use Rattle.field.proofs.field_end.Goals as goal

pub overflow_add-result : goal.overflow_add-result
overflow_add-result c = record { fits = search (near_fits, rules) }

pub overflow_add-result-in-Whole : goal.overflow_add-result-in-Whole
overflow_add-result-in-Whole c = record { fits = search (behind_fits, rules) }

pub returns-in-End : goal.returns-in-End
returns-in-End c = elim c.in-End.is [ inl e ↦ end_none _ _ _ c.field_at.ensures e | inr e ↦ end_cut _ _ _ c.field_at.ensures e ]

pub returns-in-Whole : goal.returns-in-Whole
returns-in-Whole c = search end_whole
