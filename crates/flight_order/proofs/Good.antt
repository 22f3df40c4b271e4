-- What the code asks of a flight, and that each of its constraints is then about two of its passes and has small numbers.
use Rattle.std.specs.Prelude.{ℕ, ◌+◌, ◌-◌, ◌*◌, ◌≤◌, ◌<◌}
use Rattle.std.proofs.Math.Decide.{dec_lt}
use Rattle.std.proofs.Common.{arith}
use Rattle.order.specs.Passes.{pass_at, time_of}
use Rattle.order.specs.PassLaws.{pass_known, first_time, second_time}
use Rattle.difference.specs.System.{Inside, value, least_values}
use Rattle.difference.specs.Caps.{value_cap}
use Rattle.difference.specs.Round.{rounds_bound}
use Rattle.sheet.specs.Limits.{most_time}
use Rattle.flight_order.specs.Constraints.{OrderedFlight, constraint_of, system_for}
use Rattle.flight_order.proofs.Schedule.{constraint_shortest, constraint_longest, constraint_order}
use Rattle.flight_order.specs.Good.{Good, Small}

module _ (F : OrderedFlight) (good : Good F) where
  pub time_low : (p : ℕ) → time_of F.blocks F.first F.second p ≤ most_time
  time_low p = go (dec_lt p F.blocks)
    where
      go : Dec (p < F.blocks) → time_of F.blocks F.first F.second p ≤ most_time
      go (yes e) = omega (arith, first_time F.blocks F.first F.second p e, good.first_low p)
      go (no e) = omega (arith, second_time F.blocks F.first F.second p (omega arith), good.second_low (p - F.blocks))

  pub constraint_small : (k : ℕ) → k < 4 * F.blocks - 1 → Small F.blocks (constraint_of F k)
  constraint_small k l = go (dec_lt k F.blocks) (dec_lt k (2 * F.blocks))
    where
      go : Dec (k < F.blocks) → Dec (k < 2 * F.blocks) → Small F.blocks (constraint_of F k)
      go (yes q) e = rw (constraint_shortest F k q) record {
        from_in = omega arith;
        to_in = omega arith;
        up_low = omega (arith, good.first_low k, good.shortest_low k);
        down_low = omega arith;
      }
      go (no g) (yes q) = rw (constraint_longest F k (omega arith) q) record {
        from_in = q;
        to_in = omega arith;
        up_low = omega arith;
        down_low = omega (arith, good.first_low (k - F.blocks), good.longest_low (k - F.blocks));
      }
      go (no g) (no h) = rw (constraint_order F k (omega arith)) record {
        from_in = pass_known good.proper (k - 2 * F.blocks) (omega arith);
        to_in = pass_known good.proper (k - 2 * F.blocks + 1) (omega arith);
        up_low = omega (arith, time_low (pass_at F.blocks F.order (k - 2 * F.blocks)), good.turn_low);
        down_low = omega arith;
      }

  pub inside : Inside (system_for F)
  inside = record {
    some = omega (arith, good.some);
    from_in = λ k l. (constraint_small k l).from_in;
    to_in = λ k l. (constraint_small k l).to_in;
  }

  -- The least values stay within 64 bits.
  pub least_low : (p : ℕ) → value (least_values (system_for F)) p ≤ value_cap
  unfolding least_values
  least_low p =
      omega (arith, rounds_bound (system_for F) (omega (arith, good.few)) (λ k l. (constraint_small k l).up_low) (2 * F.blocks) p, good.few)
