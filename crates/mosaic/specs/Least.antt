-- The least figure of a mosaic: that of the recursion over its batchings (crate `batching`).
use Rattle.std.specs.Prelude.{ℕ, ◌-◌}
use Rattle.sheet.specs.declared.MosaicSection.{MosaicSection}
use Rattle.rules.specs.Mosaic.{ready, bench_sum, setup_time}
use Rattle.running.specs.Running.{batch_weight}
use Rattle.batching.specs.Least.{Instance, least_from}

unfoldable pub instance_of : MosaicSection → Instance
instance_of m = record {
  strips = m.strips;
  mount = setup_time m;
  ready = λ q. ready m q;
  bench = λ i q. bench_sum m i (q - i);
  weight = λ i q. batch_weight m i q;
}

unfoldable pub least_figure : MosaicSection → ℕ
least_figure m = least_from (instance_of m) m.strips 0 0
