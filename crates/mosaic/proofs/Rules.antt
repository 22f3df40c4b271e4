-- The rules' quantities: bounds of ready times and bench sums.
use Rattle.std.specs.Prelude.{ℕ, ◌+◌, ◌*◌, ◌≤◌}
use Rattle.std.proofs.Math.ListN.{get_or}
use Rattle.sheet.specs.Limits.{most_time}
use Rattle.sheet.specs.Sound.{MosaicSound}
use Rattle.sheet.specs.declared.MosaicSection.{MosaicSection}
use Rattle.rules.specs.Mosaic.{station_sum, ready, bench_sum}
use Rattle.base.specs.SumLaws.{sum_most, after_most, greatest_most}

module _ {m : MosaicSection} (S : MosaicSound m) where
  pub bench_most : (i count : ℕ) → bench_sum m i count ≤ count * most_time
  unfolding bench_sum
  bench_most i count = after_most m.bench most_time S.most_bench i count

  station_most : (k q : ℕ) → station_sum m k q ≤ q * most_time
  unfolding station_sum
  station_most k q = sum_most q most_time (λ i. get_or m.station (4 * i + k) 0) (λ i l. S.most_station (4 * i + k))

  pub ready_most : (q : ℕ) → ready m q ≤ q * most_time
  unfolding ready
  ready_most q = greatest_most m.stations (q * most_time) (λ k. station_sum m k q) (λ k l. station_most k q)
