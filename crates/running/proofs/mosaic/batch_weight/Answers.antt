-- `batch_weight` meets its contract: the weights of the batch's strips are added up.
use Rattle.running.specs.FunctionLaws.{weight_small, weight_told}
use borrow.Author.Rules.{rules}
use Rattle.running.proofs.mosaic.batch_weight.Goals as goal

pub sum_after-requires : goal.sum_after-requires
sum_after-requires c = search (weight_small, rules)

pub returns : goal.returns
returns c = search weight_told
