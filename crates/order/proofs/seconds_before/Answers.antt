-- `order::seconds_before` meets its contract: the ones of the whole number are the second passes of every beginning of 64 passes or more,
-- and those of the masked number are the second passes of its beginning.
use native.Mathlib.Omega.{arith}
use Rattle.order.specs.Ones.{shifted_positive, ones_masked, ones_masked_fits, ones_whole, ones_fits}
use Rattle.order.proofs.seconds_before.Goals as goal

pub overflow_cast-result : goal.overflow_cast-result
overflow_cast-result c = record { fits = ones_fits c.args.x (omega arith) }

pub returns-then-k-ge-BITS : goal.returns-then-k-ge-BITS
returns-then-k-ge-BITS c = ones_whole c.args.x c.args.k (omega arith) (omega arith)

pub overflow_sub-result : goal.overflow_sub-result
overflow_sub-result c = shifted_positive c.args.k (omega arith)

pub overflow_cast-result-2 : goal.overflow_cast-result-2
overflow_cast-result-2 c = record { fits = ones_masked_fits c.args.x c.args.k (omega arith) }

pub returns : goal.returns
returns c = ones_masked c.args.x c.args.k (omega arith)
