-- The whole planner: the times read from a sound section are an input of the tables, and the instance that they give agrees with the section's.
use mathlib.Core.Path.{◌≡◌, ap, ◌∙◌, sym}
use mathlib.Core.List.{List}
use Prim.Native.Nat.{ℕ, ◌+◌, ◌-◌, ◌≤◌}
use native.Mathlib.Decide.{dec_lt}
use native.Mathlib.Omega.{arith}
use lib.ListN.{length, get_or, get_or-eq_default}
use Rattle.base.specs.Listed.{listed_length}
use Rattle.sheet.specs.Limits.{most_strips, most_time, most_weight}
use Rattle.sheet.specs.Sound.{MosaicSound}
use Rattle.sheet.specs.declared.MosaicSection.{MosaicSection}
use Rattle.rules.specs.Mosaic.{ready, bench_sum, no_batch}
use Rattle.mosaic.specs.Least.{instance_of}
use Rattle.mosaic.specs.Chosen.{chosen_batches}
use Rattle.mosaic.specs.Plan.{batches_of, Planned}
use Rattle.batching.specs.Caps.{ready_cap, bench_cap, weights_cap}
use Rattle.batching.specs.Input.{Input}
use Rattle.batching.specs.Tables.{instance_in}
use Rattle.batching.specs.declared.input.Strips.{Strips}
use Rattle.mosaic.specs.Tables.{BatchesTaken, ReadyTimes, PrefixSums}
use Rattle.running.specs.Running.{batch_weight}
use Rattle.running.specs.FunctionLaws.{SetupTold}
use Rattle.base.specs.SumLaws.{after_upto, after_most}
use Rattle.mosaic.proofs.Rules.{ready_most}
use Rattle.batching.specs.Alike.{Alike, least_same, chosen_same}
use Rattle.mosaic.proofs.Whole.{least_is, chosen_is}
use Rattle.mosaic.proofs.Theorems.{mosaic_count}
use Rattle.mosaic.specs.declared.MosaicPlan.{MosaicPlan}

-- the times and weights of a section are an input of the tables
module _ {m : MosaicSection} (S : MosaicSound m) {rs sums weights : List ℕ} (R : ReadyTimes m rs) (B : PrefixSums m.bench sums)
    (W : PrefixSums m.weight weights) {s : ℕ} (U : SetupTold m s) where
  most_ready : (j : ℕ) → get_or rs j 0 ≤ ready_cap
  most_ready j = elim (dec_lt j most_strips) [
    | yes h ↦ omega (arith, R.at j h, ready_most S (j + 1))
    | no h ↦ omega (arith, get_or-eq_default rs 0 {n = j} (omega (arith, R.len)))
  ]

  most_sum : (q : ℕ) → q ≤ most_strips → get_or sums q 0 ≤ bench_cap
  most_sum q h = omega (arith, B.at q h, after_most m.bench most_time S.most_bench 0 q)

  rise : (i q : ℕ) → i ≤ q → q ≤ most_strips → get_or sums q 0 ≡ get_or sums i 0 + bench_sum m i (q - i)
  unfolding bench_sum
  rise i q h k = omega (arith, B.at q k, B.at i (omega arith), after_upto m.bench i q h)

  most_weights : (q : ℕ) → q ≤ most_strips → get_or weights q 0 ≤ weights_cap
  most_weights q h = omega (arith, W.at q h, after_most m.weight most_weight S.most_weight_holds 0 q)

  weights_rise : (i q : ℕ) → i ≤ q → q ≤ most_strips → get_or weights q 0 ≡ get_or weights i 0 + batch_weight m i q
  unfolding batch_weight
  weights_rise i q h k = omega (arith, W.at q k, W.at i (omega arith), after_upto m.weight i q h)

  pub input_is : Input rs sums weights s m.strips
  input_is = record {
    most_strips_holds = S.most_strips_holds;
    ready_long = omega (arith, S.most_strips_holds, R.len);
    sums_long = omega (arith, S.most_strips_holds, B.len);
    most_ready = most_ready;
    most_mount = omega (arith, U.fits);
    most_sum = λ q h. most_sum q (omega (arith, S.most_strips_holds));
    rise = λ i q h k. omega (arith, rise i q h (omega (arith, S.most_strips_holds)));
    weights_long = omega (arith, S.most_strips_holds, W.len);
    most_weights = λ q h. most_weights q (omega (arith, S.most_strips_holds));
    weights_rise = λ i q h k. omega (arith, weights_rise i q h (omega (arith, S.most_strips_holds)));
  }

-- the strips that the tables are filled from are those of the section
module _ {m : MosaicSection} (S : MosaicSound m) (x : Strips) (R : ReadyTimes m x.ready.now) (B : PrefixSums m.bench x.bench_sums.now)
    (W : PrefixSums m.weight x.weight_sums.now) (U : SetupTold m x.mount) (C : x.count ≡ m.strips) where
  alike : Alike (instance_of m) (instance_in x)
  unfolding instance_of
  alike = record {
    strips = sym C;
    mount = sym U.is;
    ready = λ q h k.
        let e : q - 1 + 1 ≡ q = omega arith in
        sym (R.at (q - 1) (omega (arith, S.most_strips_holds)) ∙ ap (ready m) e);
    bench = λ i q h k. omega (arith, rise S R B W U i q (omega arith) (omega (arith, S.most_strips_holds)));
    weight = λ i q h k. omega (arith, weights_rise S R B W U i q (omega arith) (omega (arith, S.most_strips_holds)));
  }

  pub planned : {p : MosaicPlan} → BatchesTaken x p → Planned m p
  unfolding batches_of
  planned {p} T =
      let e = T.batches ∙ sym (chosen_is m ∙ chosen_same alike 0 0) in
      let c : p.count ≡ length (chosen_batches m) = sym (listed_length p.count (λ k. get_or p.batches k no_batch)) ∙ ap length e in record {
        figure = T.figure ∙ sym (least_is m ∙ least_same alike 0 0);
        batches = e;
        count = c;
        few = omega (arith, c, mosaic_count m S, S.most_strips_holds);
        within = T.within;
        no_more = T.no_more;
      }
