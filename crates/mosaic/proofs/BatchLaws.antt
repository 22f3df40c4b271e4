-- The batches are written one after another: those written, and those that the recursion takes after them, are those that it takes from the start.
use mathlib.Core.Path.{◌≡◌, refl, ◌∙◌, sym, ap}
use mathlib.Core.List.{List, [], ◌∷◌, ◌++◌, append_assoc, append-nil}
use Prim.Native.Nat.{ℕ, zero, suc, ◌+◌, ◌*◌, ◌-◌, ◌≤◌, ◌<◌, ◌^◌, max}
use native.Mathlib.Nat.{mul-le-mul}
use native.Mathlib.Omega.{arith}
use lib.ListN.{get_or, set, length-set, replicate, length-replicate}
use lib.Seq.{get_or-set_other}
use Rattle.std.proofs.lemmas.List.{take_more_set}
use Rattle.base.specs.Listed.{listed, listed_taken}
use Rattle.rules.specs.Mosaic.{no_batch}
use Rattle.rules.specs.declared.Batch.{Batch}
use Rattle.batching.specs.Least.{bench_start, finish_of}
use Rattle.batching.specs.Chosen.{batch_of}
use Rattle.batching.specs.Index.{least_at, closed_at, chosen_at}
use Rattle.mosaic.specs.Plan.{batches_of, NoMore}
use Rattle.batching.specs.Caps.{ready_cap, mount_cap, weights_cap, begin_cap}
use Rattle.batching.specs.Tables.{instance_in, First}
use Rattle.mosaic.specs.Tables.{Sized, AddBatchPre, Added, BatchesTaken}
use Rattle.batching.specs.Recursion.{least_end, chosen_end}
use Rattle.mosaic.specs.declared.MosaicPlan.{MosaicPlan}
use Rattle.batching.specs.Bounds.{least_most}
use Rattle.batching.specs.declared.input.Strips.{Strips}

none_at : (n k : ℕ) → get_or (replicate n no_batch) k no_batch ≡ no_batch
none_at zero k = refl
none_at (suc n) zero = refl
none_at (suc n) (suc k) = none_at n k

-- the strips up to i are in the plan's batches, and the bench is free at `free`
pub record PlanSoFar (x : Strips) (plan : MosaicPlan) (i free : ℕ) : Type 0 where
  pub sized : Sized plan
  pub no_more : NoMore plan
  pub few : plan.count ≤ i
  pub to : i ≤ x.count
  pub most_free_holds : free ≤ ready_cap + i * mount_cap + get_or x.bench_sums.now i 0
  pub figure_is : plan.figure + least_at (instance_in x) i free ≡ least_at (instance_in x) 0 0
  pub batches : batches_of plan ++ chosen_at (instance_in x) i free ≡ chosen_at (instance_in x) 0 0

pub plan_added : {plan : MosaicPlan} {weight : ℕ} {batch : Batch} → AddBatchPre plan weight batch
    → Added plan weight batch
    (record { figure = plan.figure + weight * batch.finish; count = plan.count + 1; batches = set plan.batches plan.count batch })
unfolding batches_of
plan_added {plan} {weight} {batch} P = record {
  sized = length-set plan.batches plan.count batch ∙ P.sized;
  figure = refl;
  one_more = refl;
  batches =
      listed_taken (plan.count + 1) (set plan.batches plan.count batch) no_batch
      (omega (arith, P.few, P.sized, length-set plan.batches plan.count batch))
      ∙ take_more_set plan.batches plan.count batch (omega (arith, P.few, P.sized))
      ∙ ap (λ (bs : List Batch). bs ++ (batch ∷ [])) (sym (listed_taken plan.count plan.batches no_batch (omega (arith, P.few, P.sized))));
  no_more = λ N k h. get_or-set_other plan.batches plan.count k batch no_batch (omega arith) ∙ N k (omega arith);
}

module _ {x : Strips} where
  pub plan_start : PlanSoFar x
      (record { figure = 0; count = 0; batches = replicate 40 (record { last = 0; start = 0; finish = 0 }) }) 0 0
  unfolding batches_of listed no_batch
  plan_start = record {
    sized = length-replicate {A = Batch} 40 no_batch;
    no_more = λ k h. none_at 40 k;
    few = omega arith;
    to = omega arith;
    most_free_holds = omega arith;
    figure_is = omega arith;
    batches = refl;
  }

  module _ {plan : MosaicPlan} {i free : ℕ} (M : PlanSoFar x plan i free) (h : i < x.count) where
    free_most : free + x.mount ≤ begin_cap
    free_most = omega (arith, M.most_free_holds, x.input.most_strips_holds, x.input.most_mount, x.input.most_sum i (omega arith))

    module _ {q least : ℕ} (C : First x free i q least) where
      pub plan_sub : get_or x.bench_sums.now i 0 ≤ get_or x.bench_sums.now q 0
      plan_sub = x.input.rise i q (omega (arith, C.first)) C.last

      -- bench work that waits for any strip is over early
      module _ {begin : ℕ} (j : ℕ) (e : begin ≡ max (free + x.mount) (get_or x.ready.now j 0)) where
        finish_most : begin + (get_or x.bench_sums.now q 0 - get_or x.bench_sums.now i 0) ≤ ready_cap + q * mount_cap + get_or x.bench_sums.now q 0
        finish_most = omega (arith, plan_sub, M.most_free_holds, C.first, x.input.most_ready j, x.input.most_mount)

        finish_early : begin + (get_or x.bench_sums.now q 0 - get_or x.bench_sums.now i 0) ≤ begin_cap
        finish_early = omega (arith, finish_most, C.last, x.input.most_strips_holds, x.input.most_sum q C.last)

        product_most : (get_or x.weight_sums.now q 0 - get_or x.weight_sums.now i 0) * (begin + (get_or x.bench_sums.now q 0 - get_or x.bench_sums.now i 0)) ≤ weights_cap * begin_cap
        product_most = mul-le-mul {n₂ = weights_cap} {m₂ = begin_cap} (omega (arith, x.input.most_weights q C.last)) finish_early

        pub plan_add : (last start : ℕ)
            → AddBatchPre plan (get_or x.weight_sums.now q 0 - get_or x.weight_sums.now i 0) (record { last = last; start = start; finish = begin + (get_or x.bench_sums.now q 0 - get_or x.bench_sums.now i 0) })
        plan_add last start = record {
          sized = M.sized;
          few = omega (arith, M.few, x.input.most_strips_holds);
          fits = omega (arith, M.figure_is, product_most, least_most x 0 0 (omega arith));
        }

      module _ {begin : ℕ} (e : begin ≡ max (free + x.mount) (get_or x.ready.now (q - 1) 0)) where
        least_is : least_at (instance_in x) i free
            ≡ (get_or x.weight_sums.now q 0 - get_or x.weight_sums.now i 0) * (begin + (get_or x.bench_sums.now q 0 - get_or x.bench_sums.now i 0)) + least_at (instance_in x) q (begin + (get_or x.bench_sums.now q 0 - get_or x.bench_sums.now i 0))
        unfolding closed_at bench_start
        least_is = rw e (sym C.figure ∙ C.closed)

        finish_is : finish_of (instance_in x) free i q ≡ begin + (get_or x.bench_sums.now q 0 - get_or x.bench_sums.now i 0)
        unfolding finish_of bench_start
        finish_is = rw e

        batch_is : batch_of (instance_in x) free i q ≡ record { last = q; start = free; finish = begin + (get_or x.bench_sums.now q 0 - get_or x.bench_sums.now i 0) }
        unfolding batch_of
        batch_is = rw finish_is

        pub plan_step : {more : MosaicPlan}
            → Added plan (get_or x.weight_sums.now q 0 - get_or x.weight_sums.now i 0) (record { last = q; start = free; finish = begin + (get_or x.bench_sums.now q 0 - get_or x.bench_sums.now i 0) }) more
            → PlanSoFar x more q (begin + (get_or x.bench_sums.now q 0 - get_or x.bench_sums.now i 0))
        plan_step A = record {
          sized = A.sized;
          no_more = A.no_more M.no_more;
          few = omega (arith, M.few, C.first, A.one_more);
          to = C.last;
          most_free_holds = finish_most (q - 1) e;
          figure_is = omega (arith, M.figure_is, least_is, A.figure);
          batches = rw (A.batches, append_assoc) (rw (← batch_is) (rw (C.taken, finish_is) at M.batches));
        }

  pub plan_end : {plan : MosaicPlan} {i free : ℕ} → PlanSoFar x plan i free → x.count ≤ i → BatchesTaken x plan
  plan_end {plan = plan} {i} {free} M h = record {
    figure = omega (arith, M.figure_is, least_end (instance_in x) i free h);
    batches = sym (append-nil (batches_of plan)) ∙ rw (chosen_end (instance_in x) i free h) at M.batches;
    no_more = M.no_more;
    within = omega (arith, M.few, M.to, M.sized, x.input.most_strips_holds);
  }
