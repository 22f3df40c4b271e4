-- `put_decimal` meets its contract: the digits stand behind the name.
use Rattle.text.specs.Text.{decimal_put}
use Rattle.text.proofs.put_decimal.Goals as goal

pub returns : goal.returns
returns c = search decimal_put
