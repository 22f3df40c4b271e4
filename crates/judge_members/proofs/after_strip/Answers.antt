-- `after_strip` meets its contract: the strip adds its weight times its desk's finish to the figure so far, and the sum fits.
use Rattle.judge_members.proofs.Laws.{strip_figure_fits, after_strip_is}
use Rattle.judge_members.proofs.after_strip.Goals as goal

pub overflow_add-result : goal.overflow_add-result
overflow_add-result c = search strip_figure_fits

pub returns : goal.returns
returns c = search after_strip_is
