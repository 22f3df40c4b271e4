-- `strips_in_all` meets its contract: three counts of at most 6 fit their sum.
use Rattle.sheet.specs.Sound.{strips_in_all}
use Rattle.sheet.proofs.DeskLaws.{two_desks_fit, all_desks_fit}
use borrow.Author.Rules.{rules}
use Rattle.sheet.proofs.desks.strips_in_all.Goals as goal

pub overflow_add-result : goal.overflow_add-result
overflow_add-result c = record { fits = search two_desks_fit }

pub overflow_add-result-2 : goal.overflow_add-result-2
overflow_add-result-2 c = record { fits = search all_desks_fit }

pub returns : goal.returns
unfolding strips_in_all
returns c = search rules
