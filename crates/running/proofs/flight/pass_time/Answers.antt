-- `pass_time` meets its contract: it is the time of the pass among the section's times, which are all small.
use Rattle.running.specs.FunctionLaws.{time_told}
use Rattle.running.proofs.flight.pass_time.Goals as goal

pub returns : goal.returns
returns c = search time_told
