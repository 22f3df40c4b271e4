-- `order::append_second` meets its contract: the shift is 2 ^ k, and the sum is below 2 ^ (k + 1).
use Rattle.order.specs.Ones.{shifted_one, second_fits}
use Rattle.order.proofs.append_second.Goals as goal

pub overflow_add-result : goal.overflow_add-result
overflow_add-result c = record { fits = second_fits c.args.x c.args.k c.requires.0 c.requires.1 }

pub returns : goal.returns
returns c = rw (shifted_one c.args.k c.requires.0)
