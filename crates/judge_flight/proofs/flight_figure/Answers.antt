-- `flight_figure` meets its contract. Invariant: `greatest` is the latest end of the passes before p.
use Rattle.judge_flight.specs.Laws.{latest_none, latest_more, latest_asked, latest_all}
use Rattle.judge_flight.proofs.flight_figure.Goals as goal

pub loop-p-init : goal.loop-p-init
loop-p-init c = latest_none _ _

pub end-requires : goal.end-requires
end-requires c = search latest_asked

pub loop-p-preserved : goal.loop-p-preserved
loop-p-preserved c = search latest_more

pub returns : goal.returns
returns c = search latest_all
