-- `batch_follows` meets its contract: a batch that rises has a finish to compare with; one that does not is refused first.
use Rattle.judge_rules.specs.Laws.{batch_wrong, batch_due, batch_right}
use Rattle.judge_rules.proofs.batch_follows.Goals as goal

pub returns-then-not-batch_in_run : goal.returns-then-not-batch_in_run
returns-then-not-batch_in_run c = search batch_wrong

pub finish_due-due-requires : goal.finish_due-due-requires
finish_due-due-requires c = search batch_due

pub returns : goal.returns
returns c = search batch_right
