-- What is used of the finish rule of a batch: it finishes no sooner than it starts and its strips are worked, and an earlier start finishes no later.
use Rattle.std.specs.Prelude.{◌≡◌, ◌+◌, ◌-◌, ◌≤◌}
use Rattle.std.proofs.Common.{ap, arith}
use Rattle.sheet.specs.Sound.{MosaicSound}
use Rattle.sheet.specs.declared.MosaicSection.{MosaicSection}
use Rattle.rules.specs.Mosaic.{ready, bench_sum, setup_time, bench_work_start, finish_due}
use Rattle.rules.specs.declared.Batch.{Batch}
use Rattle.running.specs.FunctionLaws.{most_setup}

pub setup_most : (m : MosaicSection) → MosaicSound m → setup_time m ≤ most_setup
unfolding setup_time
setup_most m sound = omega (arith, sound.most_mount)

pub finish_worked : (m : MosaicSection) (before b : Batch) → b.start + bench_sum m before.last (b.last - before.last) ≤ finish_due m before b
unfolding finish_due bench_work_start
finish_worked m before b = omega arith

-- two batches of the same strips
pub finish_mono : (m : MosaicSection) (p r c b : Batch) → p.last ≡ r.last → c.last ≡ b.last → c.start ≤ b.start → finish_due m p c ≤ finish_due m r b
unfolding finish_due bench_work_start
finish_mono m p r c b e l s =
    let w : bench_sum m p.last (c.last - p.last) ≡ bench_sum m r.last (b.last - r.last) = cc in
    omega (arith, ap (ready m) l)
