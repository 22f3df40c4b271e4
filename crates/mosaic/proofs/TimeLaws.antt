-- The ready times, station by station; values added up, one by one.
use mathlib.Core.Path.{◌≡◌, refl, ◌∙◌}
use mathlib.Core.List.{List}
use Prim.Native.Nat.{ℕ, ◌+◌, ◌*◌, ◌≤◌, ◌<◌, max}
use native.Mathlib.Numerals.{add-one}
use native.Mathlib.Decide.{dec_lt}
use native.Mathlib.Omega.{arith}
use lib.ListN.{length, get_or, set, length-set, replicate, length-replicate}
use lib.Seq.{get_or-set_same, get_or-set_other}
use Rattle.base.specs.Sums.{sum_over, sum_after, greatest_over}
use Rattle.base.specs.SumLaws.{after_next}
use Rattle.base.specs.Zeros.{zeros_at}
use Rattle.sheet.specs.Limits.{most_time, most_strips}
use Rattle.sheet.specs.declared.MosaicSection.{MosaicSection}
use Rattle.rules.specs.Mosaic.{station_sum, ready}
use Rattle.mosaic.specs.Tables.{ReadyTimes, WaitPre, Waits, PrefixSumsPre}

-- the strips up to j wait for station k, whose sum is `sum`
pub record WaitSoFar (m : MosaicSection) (k : ℕ) (times₀ times : List ℕ) (sum j : ℕ) : Type 0 where
  pub len : length times ≡ most_strips
  pub sum_is : sum ≡ station_sum m k j
  pub sum_most : sum ≤ j * most_time
  pub done : (i : ℕ) → i < j → get_or times i 0 ≡ max (get_or times₀ i 0) (station_sum m k (i + 1))
  pub rest : (i : ℕ) → j ≤ i → get_or times i 0 ≡ get_or times₀ i 0

module _ {m : MosaicSection} {k : ℕ} {times₀ : List ℕ} (P : WaitPre m k times₀) where
  pub wait_start : WaitSoFar m k times₀ times₀ 0 0
  unfolding station_sum sum_over
  wait_start = record {
    len = P.len;
    sum_is = refl;
    sum_most = omega arith;
    done = λ i h. absurd (omega arith);
    rest = λ i h. refl;
  }

  pub wait_step : {times : List ℕ} {sum j : ℕ} → WaitSoFar m k times₀ times sum j → j < most_strips → {time : ℕ} → time ≡ max (get_or times j 0) (sum + get_or m.station (4 * j + k) 0)
      → WaitSoFar m k times₀ (set times j time) (sum + get_or m.station (4 * j + k) 0) (j + 1)
  unfolding station_sum sum_over
  wait_step {times} {sum} {j} M h {time} e =
      let n : sum + get_or m.station (4 * j + k) 0 ≡ station_sum m k (j + 1) = rw (add-one j, M.sum_is) refl in record {
        len = length-set times j time ∙ M.len;
        sum_is = n;
        sum_most = omega (arith, M.sum_most, P.sound.most_station (4 * j + k));
        done = λ i l. elim (dec_lt i j) [
          | yes y ↦ get_or-set_other times j i time 0 (omega arith) ∙ M.done i y
          | no y ↦
              let z : i ≡ j = omega arith in
              rw z (get_or-set_same times j time 0 (omega (arith, M.len)) ∙ rw (M.rest j (omega arith), n) at e)
        ];
        rest = λ i l. get_or-set_other times j i time 0 (omega arith) ∙ M.rest i (omega arith);
      }

-- the strips wait for the first k stations
pub record ReadySoFar (m : MosaicSection) (times : List ℕ) (k : ℕ) : Type 0 where
  pub len : length times ≡ most_strips
  pub at : (j : ℕ) → j < most_strips → get_or times j 0 ≡ greatest_over k (λ i. station_sum m i (j + 1))

pub ready_start : (m : MosaicSection) → ReadySoFar m (replicate 40 0) 0
unfolding greatest_over
ready_start m = record { len = length-replicate {A = ℕ} 40 0; at = λ j h. zeros_at 40 j }

pub ready_step : {m : MosaicSection} {times times₁ : List ℕ} {k : ℕ} → ReadySoFar m times k → Waits m k times times₁ → ReadySoFar m times₁ (k + 1)
unfolding greatest_over
ready_step {k = k} M W = record { len = W.len; at = λ j h. rw (add-one k) (rw (M.at j h) at (W.at j h)) }

pub ready_end : {m : MosaicSection} {times : List ℕ} {k : ℕ} → ReadySoFar m times k → k ≡ m.stations → ReadyTimes m times
unfolding ready
ready_end M e = record { len = M.len; at = λ j h. rw e at (M.at j h) }

-- the sums of the first q values are done
pub record SumsSoFar (values sums : List ℕ) (q : ℕ) : Type 0 where
  pub len : length sums ≡ 41
  pub most : get_or sums q 0 ≤ q * most_time
  pub done : (k : ℕ) → k ≤ q → get_or sums k 0 ≡ sum_after values 0 k

pub sums_start : (values : List ℕ) → SumsSoFar values (replicate 41 0) 0
unfolding sum_after sum_over
sums_start values = record {
  len = length-replicate {A = ℕ} 41 0;
  most = omega (arith, zeros_at 41 0);
  done = λ k h. let z : k ≡ 0 = omega arith in rw z (zeros_at 41 0);
}

pub sums_step : {values sums : List ℕ} {q : ℕ} → PrefixSumsPre values → SumsSoFar values sums q → q < most_strips
    → SumsSoFar values (set sums (q + 1) (get_or sums q 0 + get_or values q 0)) (q + 1)
sums_step {values} {sums} {q} P M h =
    let v : ℕ = get_or sums q 0 + get_or values q 0 in
    let e : get_or (set sums (q + 1) v) (q + 1) 0 ≡ v = get_or-set_same sums (q + 1) v 0 (omega (arith, M.len)) in record {
      len = length-set sums (q + 1) v ∙ M.len;
      most = omega (arith, e, M.most, P.most q);
      done = λ k l. elim (dec_lt q k) [
        | yes y ↦
            let z : k ≡ q + 1 = omega arith in
            rw z (omega (arith, e, after_next values q, M.done q (omega arith)))
        | no y ↦ get_or-set_other sums (q + 1) k v 0 (omega arith) ∙ M.done k (omega arith)
      ];
    }
