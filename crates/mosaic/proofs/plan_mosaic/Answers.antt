-- `plan_mosaic` meets its contract: the tables are filled and read with the times and weights of the section, and the instance that these give agrees with it.
use mathlib.Core.Path.{refl}
use Rattle.mosaic.proofs.PlanLaws.{input_is, planned}
use Rattle.mosaic.proofs.plan_mosaic.Goals as goal

pub invariant_of-strips : goal.invariant_of-strips
invariant_of-strips c = record {
  input = input_is c.requires c.ready_times-ready.ensures c.prefix_sums-bench_sums.ensures
      c.prefix_sums-weight_sums.ensures c.setup_time.ensures;
}

pub returns : goal.returns
returns c = planned c.requires _ c.ready_times-ready.ensures
    c.prefix_sums-bench_sums.ensures c.prefix_sums-weight_sums.ensures
    c.setup_time.ensures refl c.choose_batches.ensures
