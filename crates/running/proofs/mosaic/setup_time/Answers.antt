-- `setup_time` meets its contract: the mount time is how long a mount takes, and it fits.
use Rattle.rules.specs.Mosaic.{setup_time}
use Rattle.running.specs.FunctionLaws.{setup_told}
use Rattle.running.proofs.mosaic.setup_time.Goals as goal

pub returns : goal.returns
unfolding setup_time
returns c = search setup_told
