-- No timetable has a smaller figure, under any ceiling: to close the open batch where the timetable closes it is one of the choices, and a later free time
-- costs no less.
use Rattle.std.specs.Prelude.{◌≡◌, ℕ, zero, suc, ◌+◌, ◌*◌, ◌-◌, ◌≤◌, ◌<◌}
use mathlib.Core.List.{List, [], ◌∷◌}
use Rattle.std.proofs.Math.Nat.{mul-le-mul_left}
use Rattle.std.proofs.Math.Decide.{dec_lt}
use Rattle.std.proofs.Common.{arith}
use Rattle.sheet.specs.declared.MosaicSection.{MosaicSection}
use Rattle.rules.specs.declared.Batch.{Batch}
use Rattle.running.specs.Running.{batch_weight, BatchFollowsUnder, MosaicRunsUnder, none, more}
use Rattle.rules_laws.specs.MosaicRunning.{running_figure}
use Rattle.batching.specs.Least.{Instance, bench_start, finish_of}
use Rattle.mosaic.specs.Least.{instance_of}
use Rattle.batching.specs.Index.{least_at, open_at, closed_at}
use Rattle.batching.specs.Recursion.{least_mono, least_end, least_opens, open_last, open_more}
use Rattle.mosaic.proofs.Finish.{finish_least}

-- to close the open batch at strip q, or d strips further on, is a choice; F is a finish that is no earlier
module _ (x : Instance) where
  close_here : (i q t F : ℕ) → q ≤ x.strips → finish_of x t i q ≤ F → open_at x i q t ≤ x.weight i q * F + least_at x q F
  unfolding closed_at finish_of
  close_here i q t F h f =
      let c : closed_at x (bench_start x.mount t (x.ready q)) i q ≤ x.weight i q * F + least_at x q F
      = omega (arith, mul-le-mul_left (x.weight i q) f, least_mono x q f) in
      elim (dec_lt q x.strips) [
        | yes k ↦ omega (arith, open_more x i q t k, c)
        | no k ↦ omega (arith, open_last x i q t (omega arith), c)
      ]

  close_after : (d i q t F : ℕ) → q + d ≤ x.strips → finish_of x t i (q + d) ≤ F → open_at x i q t ≤ x.weight i (q + d) * F + least_at x (q + d) F
  close_after zero i q t F h f =
      let e : q + 0 ≡ q = omega arith in
      rw e (close_here i q t F (omega arith) (rw e at f))
  close_after (suc d) i q t F h f =
      let e : q + suc d ≡ q + 1 + d = omega arith in
      rw e (omega (arith, open_more x i q t (omega arith), close_after d i (q + 1) t F (omega arith) (rw e at f)))

  pub close_at : (i q t F : ℕ) → i < q → q ≤ x.strips → finish_of x t i q ≤ F → least_at x i t ≤ x.weight i q * F + least_at x q F
  close_at i q t F h k f =
      let e : i + 1 + (q - (i + 1)) ≡ q = omega arith in
      rw (least_opens x i t (omega arith)) (rw e at (close_after (q - (i + 1)) i (i + 1) t F (omega arith) (rw e f)))

module _ {c : ℕ} (m : MosaicSection) where
  batch_cost_lem : (p b : Batch) → BatchFollowsUnder c m p b
      → least_at (instance_of m) p.last p.finish ≤ batch_weight m p.last b.last * b.finish + least_at (instance_of m) b.last b.finish
  unfolding instance_of
  batch_cost_lem p b B =
      close_at (instance_of m) p.last b.last p.finish b.finish B.lawful.rises B.known (finish_least m p b B.lawful)

  pub lower_after : (bs : List Batch) (p : Batch) → MosaicRunsUnder c m p bs → least_at (instance_of m) p.last p.finish ≤ running_figure m p bs
  unfolding running_figure instance_of
  lower_after [] p (none e) = omega (arith, least_end (instance_of m) p.last p.finish (omega arith))
  lower_after (b ∷ bs) p (more f r) = omega (arith, batch_cost_lem p b f, lower_after bs b r)
