-- `digits_of` meets its contract: a number of 64 bits has at most 20 digits.
use Rattle.text.specs.Text.{digits_few}
use Rattle.text.proofs.digits_of.Goals as goal

pub returns : goal.returns
returns c = search digits_few
