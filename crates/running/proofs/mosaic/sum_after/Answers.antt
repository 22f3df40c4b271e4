-- `sum_after` meets its contract: the slice of those values adds up to it, and none is above the greatest time.
use Prim.Native.Nat.{◌+◌, ◌-◌, ◌^◌, ◌<◌}
use lib.ListN.{take, drop}
use Rattle.std.specs.List.{sum}
use borrow.Author.Rules.{rules}
use Rattle.running.specs.FunctionLaws.{after_fits, after_told}
use Rattle.running.proofs.mosaic.sum_after.Goals as goal

pub sum-requires-clause-fits : goal.sum-requires-clause-fits
sum-requires-clause-fits c =
    let fits : sum (take (c.args.i + c.args.count - c.args.i) (drop c.args.i c.args.values.now)) < 2 ^ 64 = after_fits _ _ _ c.requires in
    search rules

pub returns : goal.returns
returns c = after_told _ _ _ c.requires _ (search rules)
