-- `candidate` meets its contract: the row has what follows a batch that is in time, and the other table the figure of one that is late.
use Rattle.batching.proofs.CandidateLaws.{candidate_closed, candidate_in_time, candidate_late}
use Rattle.batching.proofs.input.Strips.candidate.Goals as goal

pub closed_figure-requires : goal.closed_figure-requires
closed_figure-requires c = search candidate_closed

pub returns-then-ready-mounted : goal.returns-then-ready-mounted
returns-then-ready-mounted c = search candidate_in_time

pub returns-else-ready-mounted : goal.returns-else-ready-mounted
returns-else-ready-mounted c = search candidate_late
