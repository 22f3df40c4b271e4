-- `finish_due` meets its contract: the start of a batch's bench work and its bench times are when it is due to finish, and their sum fits.
use Rattle.running.specs.FunctionLaws.{finish_is}
use Rattle.running.proofs.mosaic.finish_due.Goals as goal

pub returns : goal.returns
returns c = search finish_is
