-- `closed_figure` meets its contract: the figure is the definition.
use Rattle.batching.proofs.CandidateLaws.{closed_is}
use Rattle.batching.proofs.input.Strips.closed_figure.Goals as goal

pub returns : goal.returns
returns c = search closed_is
