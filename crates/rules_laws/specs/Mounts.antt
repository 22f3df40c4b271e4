-- What 02, Req 08, leaves of the timetables of 01: one whose mounts wait for the strips is a timetable still. And what it adds: mounts may be moved where the
-- bench work starts when it did.
use Prim.Native.Nat.{ℕ, ◌+◌, ◌-◌, ◌*◌, ◌≤◌, ◌<◌}
use Rattle.std.specs.Prelude.{◌≡◌, List, [], ◌∷◌, length}
use Rattle.std.proofs.Common.{◌∙◌}
use Rattle.sheet.specs.declared.MosaicSection.{MosaicSection}
use Rattle.rules.specs.Mosaic.{ready, bench_sum, batch_at, batch_before, setup_time, bench_work_start}
use Rattle.rules.specs.declared.Batch.{Batch}

-- 01's own rule of a batch: "A mount starts no earlier than the last strip of its batch is ready and the batch before has finished. Finish = start + s + the
-- batch's bench times."
pub record WaitsForStrips (c : ℕ) (m : MosaicSection) (before b : Batch) : Type 0 where
  pub rises : before.last < b.last
  pub waits_strip : ready m b.last ≤ b.start
  pub waits_batch : before.finish ≤ b.start
  pub finishes : b.finish ≡ b.start + setup_time m + bench_sum m before.last (b.last - before.last)
  pub within : b.finish ≤ c

-- a timetable by that rule
pub record MountsWait (c : ℕ) (m : MosaicSection) (bs : List Batch) : Type 0 where
  pub each : (i : ℕ) → i < length bs → WaitsForStrips c m (batch_before bs i) (batch_at bs i)
  pub covers : (batch_before bs (length bs)).last ≡ m.strips

-- the same batches with mounts at other times: none before the batch before finishes, and the bench work of each batch starts when it did
pub record MountsMoved (m : MosaicSection) (bs cs : List Batch) : Type 0 where
  pub count : length cs ≡ length bs
  pub last : (i : ℕ) → (batch_at cs i).last ≡ (batch_at bs i).last
  pub finish : (i : ℕ) → (batch_at cs i).finish ≡ (batch_at bs i).finish
  pub waits_batch : (i : ℕ) → i < length cs → (batch_before cs i).finish ≤ (batch_at cs i).start
  pub work_starts : (i : ℕ) → i < length cs → bench_work_start m (batch_at cs i) ≡ bench_work_start m (batch_at bs i)
