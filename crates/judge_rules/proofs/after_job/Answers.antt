-- `after_job` meets its contract: it is the definition, field by field.
use Rattle.judge_rules.specs.Laws.{after_is}
use Rattle.judge_rules.proofs.after_job.Goals as goal

pub returns : goal.returns
returns c = search after_is
