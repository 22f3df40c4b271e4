-- What ties the finish rule to the recursion: no lawful batch finishes before the earliest finish of its strips, and the batch that is as early as can be is
-- lawful.
use Rattle.std.specs.Prelude.{◌≡◌, refl, ℕ, ◌≤◌, ◌<◌}
use Rattle.std.proofs.Common.{arith}
use Rattle.sheet.specs.declared.MosaicSection.{MosaicSection}
use Rattle.rules.specs.Mosaic.{bench_work_start, finish_due, BatchUnder}
use Rattle.rules.specs.declared.Batch.{Batch}
use Rattle.batching.specs.Least.{bench_start, finish_of}
use Rattle.batching.specs.Chosen.{batch_of}
use Rattle.mosaic.specs.Least.{instance_of}

pub finish_least : {c : ℕ} (m : MosaicSection) (p b : Batch) → BatchUnder c m p b → finish_of (instance_of m) p.finish p.last b.last ≤ b.finish
unfolding instance_of finish_of bench_start finish_due bench_work_start
finish_least m p b B = omega (arith, B.waits_batch, B.finishes)

module _ {c : ℕ} (m : MosaicSection) (i q free : ℕ) (h : i < q) (l : finish_of (instance_of m) free i q ≤ c) where
  pub earliest_lawful : (p : Batch) → p.last ≡ i → p.finish ≡ free → BatchUnder c m p (batch_of (instance_of m) free i q)
  unfolding batch_of instance_of finish_of bench_start finish_due bench_work_start
  earliest_lawful p e f = record {
    rises = omega arith;
    waits_batch = omega arith;
    finishes = rw e refl;
    within = omega arith;
  }
