-- `after_batch` meets its contract: the batch adds its weight times its finish to the figure so far.
use Rattle.judge_members.proofs.Laws.{after_batch_is}
use Rattle.judge_members.proofs.after_batch.Goals as goal

pub returns : goal.returns
returns c = search after_batch_is
