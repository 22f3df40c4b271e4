-- Two instances that agree on their strips have the same least figure and the same batches taken.
use Rattle.std.specs.Prelude.{◌≡◌, ◌∷◌, ℕ, zero, suc, ◌+◌, ◌-◌, ◌≤◌, ◌<◌}
use Rattle.std.proofs.Common.{◌∙◌, sym, arith}
use Rattle.std.proofs.Math.Decide.{dec_lt}
use Rattle.batching.specs.Least.{Instance, bench_start, finish_of}
use Rattle.batching.specs.Chosen.{batch_of}
use Rattle.batching.specs.Index.{least_at, open_at, closed_at, chosen_at, chosen_open_at}
use Rattle.batching.specs.Recursion.{least_end, least_opens, open_last, open_more, chosen_end, chosen_opens, chosen_last, chosen_close, chosen_extend}

pub record Alike (x y : Instance) : Type 0 where
  pub strips : x.strips ≡ y.strips
  pub mount : x.mount ≡ y.mount
  pub ready : (q : ℕ) → 0 < q → q ≤ x.strips → x.ready q ≡ y.ready q
  pub bench : (i q : ℕ) → i < q → q ≤ x.strips → x.bench i q ≡ y.bench i q
  pub weight : (i q : ℕ) → i < q → q ≤ x.strips → x.weight i q ≡ y.weight i q

module _ {x y : Instance} (A : Alike x y) where
  module _ (i q t : ℕ) (h : i < q) (k : q ≤ x.strips) where
    start_same : bench_start x.mount t (x.ready q) ≡ bench_start y.mount t (y.ready q)
    start_same = rw (A.mount, A.ready q (omega arith) k)

    finish_same : finish_of x t i q ≡ finish_of y t i q
    unfolding finish_of
    finish_same = rw (A.mount, A.ready q (omega arith) k, A.bench i q h k)

    batch_same : batch_of x t i q ≡ batch_of y t i q
    unfolding batch_of
    batch_same = rw finish_same

    closed_same : ((F : ℕ) → least_at x q F ≡ least_at y q F)
        → closed_at x (bench_start x.mount t (x.ready q)) i q ≡ closed_at y (bench_start y.mount t (y.ready q)) i q
    unfolding closed_at
    closed_same e = rw (start_same, A.bench i q h k, A.weight i q h k, e)

    cons_same : ((F : ℕ) → chosen_at x q F ≡ chosen_at y q F)
        → batch_of x t i q ∷ chosen_at x q (finish_of x t i q) ≡ batch_of y t i q ∷ chosen_at y q (finish_of y t i q)
    cons_same e = rw (batch_same, finish_same, e)

  end_same : (q F : ℕ) → x.strips ≤ q → least_at x q F ≡ least_at y q F
  end_same q F h = least_end x q F h ∙ sym (least_end y q F (omega (arith, A.strips)))

  chosen_end_same : (q F : ℕ) → x.strips ≤ q → chosen_at x q F ≡ chosen_at y q F
  chosen_end_same q F h = chosen_end x q F h ∙ sym (chosen_end y q F (omega (arith, A.strips)))

  open_same : (d i q t : ℕ) → i < q → q + d ≡ x.strips → open_at x i q t ≡ open_at y i q t
  open_same zero i q t h k =
      open_last x i q t (omega arith) ∙ closed_same i q t h (omega arith) (λ F. end_same q F (omega arith)) ∙ sym (open_last y i q t (omega (arith, A.strips)))
  open_same (suc d) i q t h k =
      let c = closed_same i q t h (omega arith)
      (λ F. least_opens x q F (omega arith) ∙ open_same d q (q + 1) F (omega arith) (omega arith) ∙ sym (least_opens y q F (omega (arith, A.strips)))) in
      open_more x i q t (omega arith)
      ∙ omega (arith, c, open_same d i (q + 1) t (omega arith) (omega arith))
      ∙ sym (open_more y i q t (omega (arith, A.strips)))

  pub least_same : (i t : ℕ) → least_at x i t ≡ least_at y i t
  least_same i t = elim (dec_lt i x.strips) [
    | yes h ↦
        least_opens x i t h ∙ open_same (x.strips - (i + 1)) i (i + 1) t (omega arith) (omega arith) ∙ sym (least_opens y i t (omega (arith, A.strips)))
    | no h ↦ end_same i t (omega arith)
  ]

  chosen_open_same : (d i q t : ℕ) → i < q → q + d ≡ x.strips → chosen_open_at x i q t ≡ chosen_open_at y i q t
  chosen_open_same zero i q t h k =
      chosen_last x i q t (omega arith)
      ∙ cons_same i q t h (omega arith) (λ F. chosen_end_same q F (omega arith))
      ∙ sym (chosen_last y i q t (omega (arith, A.strips)))
  chosen_open_same (suc d) i q t h k =
      let l : q < x.strips = omega arith in
      let m : q < y.strips = omega (arith, A.strips) in
      let c = closed_same i q t h (omega arith) (λ F. least_same q F) in
      let o = open_same d i (q + 1) t (omega arith) (omega arith) in
      elim (dec_lt (closed_at x (bench_start x.mount t (x.ready q)) i q) (open_at x i (q + 1) t)) [
        | yes z ↦
            chosen_close x i q t l z
            ∙ cons_same i q t h (omega arith)
            (λ F. chosen_opens x q F l ∙ chosen_open_same d q (q + 1) F (omega arith) (omega arith) ∙ sym (chosen_opens y q F m))
            ∙ sym (chosen_close y i q t m (omega (arith, c, o, z)))
        | no z ↦
            chosen_extend x i q t l (omega arith) ∙ chosen_open_same d i (q + 1) t (omega arith) (omega arith)
            ∙ sym (chosen_extend y i q t m (omega (arith, c, o, z)))
      ]

  pub chosen_same : (i t : ℕ) → chosen_at x i t ≡ chosen_at y i t
  chosen_same i t = elim (dec_lt i x.strips) [
    | yes h ↦
        chosen_opens x i t h
        ∙ chosen_open_same (x.strips - (i + 1)) i (i + 1) t (omega arith) (omega arith)
        ∙ sym (chosen_opens y i t (omega (arith, A.strips)))
    | no h ↦ chosen_end_same i t (omega arith)
  ]
