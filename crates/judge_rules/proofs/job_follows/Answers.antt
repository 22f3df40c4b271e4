-- `job_follows` meets its contract: a strip that is in turn has times to compare with; one that is not is refused first.
use Rattle.judge_rules.specs.Laws.{done_few, job_wrong, job_slot, job_right}
use Rattle.judge_rules.proofs.job_follows.Goals as goal

pub job_in_turn-requires : goal.job_in_turn-requires
job_in_turn-requires c = search done_few

pub returns-then-not-job_in_turn : goal.returns-then-not-job_in_turn
returns-then-not-job_in_turn c = search job_wrong

pub scan_time-requires : goal.scan_time-requires
scan_time-requires c = search job_slot

pub desk_time-requires : goal.desk_time-requires
desk_time-requires c = search job_slot

pub returns : goal.returns
returns c = search job_right
