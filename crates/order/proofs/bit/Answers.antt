-- `order::bit` meets its contract: a 64-bit number has no bit from 64 on.
use mathlib.Core.Path.{sym}
use Rattle.order.specs.Seconds.{bit_above}
use Rattle.order.proofs.bit.Goals as goal

pub returns-else-k-lt-BITS : goal.returns-else-k-lt-BITS
returns-else-k-lt-BITS c = sym (bit_above c.args.x 64 c.args.k c.ranges.x.fits c.if-k-lt-BITS.false)
