-- The least starts never reach the ceiling: the last pass ends no later than all passes and shortest delays of all blocks take, one after the other, with a
-- turn between any two passes.
use Rattle.std.specs.Prelude.{◌≡◌, cond, true, ltb, get_or}
use Prim.Native.Nat.{ℕ, zero, suc, ◌+◌, ◌-◌, ◌*◌, ◌≤◌, ◌<◌}
use Rattle.std.proofs.Common.{add-zero, add-suc, mul-le-mul, lt-ltb, le-ltb}
use Rattle.std.proofs.Math.Nat.{mul-suc}
use Rattle.std.proofs.Math.Decide.{dec_lt}
use native.Mathlib.Omega.{arith}
use Rattle.base.specs.Sums.{sum_over}
use Rattle.order.specs.Order.{Proper}
use Rattle.order.specs.Passes.{pass_at}
use Rattle.difference.specs.System.{value}
use Rattle.difference.specs.Least.{solvable_solves, least_below}
use Rattle.difference.specs.Span.{span}
use Rattle.sheet.specs.Limits.{most_time, most_turn, most_blocks}
use Rattle.sheet.specs.Sound.{FlightSound}
use Rattle.sheet.specs.declared.FlightSection.{FlightSection}
use Rattle.rules.specs.Flight.{pass_time}
use Rattle.rules_laws.proofs.FlightRunning.{time_first, time_second}
use Rattle.flight_order.specs.Constraints.{constraint_of, system_for, flight_in, least_starts, possible_in}
use Rattle.flight_order.proofs.Schedule.{constraint_shortest, constraint_longest, constraint_order}
use Rattle.flight_order.specs.Good.{Good}
use Rattle.flight_order.proofs.Good.{inside}
use Rattle.flight_order.proofs.Timetable.{time_is}
use Rattle.flight_order.specs.Ceiling.{latest_end}

-- A sound flight is what the code asks for.
pub sound_good : (f : FlightSection) (w : ℕ) → FlightSound f → 0 < f.blocks → Proper f.blocks w → Good (flight_in f w)
sound_good f w s some proper = record {
  some = some;
  few = s.most_blocks_holds;
  proper = proper;
  first_long = omega (arith, s.most_blocks_holds, s.first_length);
  second_long = omega (arith, s.most_blocks_holds, s.second_length);
  shortest_long = omega (arith, s.most_blocks_holds, s.shortest_length);
  longest_long = omega (arith, s.most_blocks_holds, s.longest_length);
  turn_low = omega (arith, s.most_turn_holds);
  first_low = λ i. omega (arith, s.most_first i);
  second_low = λ i. omega (arith, s.most_second i);
  shortest_low = λ i. omega (arith, s.window i, s.most_delay i);
  longest_low = λ i. omega (arith, s.most_delay i);
}

-- What a pass may hold up: a turn behind it, and a first pass its shortest delay too.
reach : FlightSection → ℕ → ℕ
reach f p = cond (ltb p f.blocks) (get_or f.first p 0 + get_or f.shortest p 0) (get_or f.second (p - f.blocks) 0) + f.turn

module _ (f : FlightSection) where
  reach_first : (p : ℕ) → p < f.blocks → reach f p ≡ get_or f.first p 0 + get_or f.shortest p 0 + f.turn
  unfolding reach
  reach_first p l = rw (lt-ltb p f.blocks l)

  reach_second : (p : ℕ) → f.blocks ≤ p → reach f p ≡ get_or f.second (p - f.blocks) 0 + f.turn
  unfolding reach
  reach_second p l = rw (le-ltb p f.blocks l)

  time_reach : (p : ℕ) → pass_time f p + f.turn ≤ reach f p
  time_reach p = go (dec_lt p f.blocks)
    where
      go : Dec (p < f.blocks) → pass_time f p + f.turn ≤ reach f p
      go (yes l) = omega (arith, time_first f p l, reach_first p l)
      go (no l) = omega (arith, time_second f p (omega arith), reach_second p (omega arith))

  up_reach : (w k : ℕ) → k < 4 * f.blocks - 1 → (constraint_of (flight_in f w) k).up ≤ reach f (constraint_of (flight_in f w) k).from
  up_reach w k l = go (dec_lt k f.blocks) (dec_lt k (2 * f.blocks))
    where
      go : Dec (k < f.blocks) → Dec (k < 2 * f.blocks) → (constraint_of (flight_in f w) k).up ≤ reach f (constraint_of (flight_in f w) k).from
      go (yes q) e = rw (constraint_shortest (flight_in f w) k q) (omega (arith, reach_first k q))
      go (no g) (yes q) = rw (constraint_longest (flight_in f w) k (omega arith) q) (omega arith)
      go (no g) (no h) = rw (constraint_order (flight_in f w) k (omega arith)) (omega (arith, time_is f p, time_reach p))
        where
          p : ℕ
          p = pass_at f.blocks w (k - 2 * f.blocks)

  module _ (s : FlightSound f) where
    firsts_sum : (m : ℕ) → m ≤ f.blocks → sum_over m (reach f) ≤ m * (2 * most_time) + f.turn * m
    unfolding sum_over
    firsts_sum zero l = omega arith
    firsts_sum (suc m) l =
        omega (arith, firsts_sum m (omega arith), reach_first m l, s.most_first m, s.window m, s.most_delay m, mul-suc f.turn m)

    all_sum : (m : ℕ) → sum_over (f.blocks + m) (reach f) ≤ f.blocks * (2 * most_time) + m * most_time + f.turn * (f.blocks + m)
    unfolding sum_over
    all_sum zero = rw (add-zero f.blocks) (omega (arith, firsts_sum f.blocks (omega arith)))
    all_sum (suc m) =
        rw (add-suc f.blocks m)
        (omega (
          arith,
          all_sum m,
          reach_second (f.blocks + m) (omega arith),
          s.most_second (f.blocks + m - f.blocks),
          mul-suc f.turn (f.blocks + m),
        ))

    -- all but one of the turns
    turns_most : 0 < f.blocks → f.turn * (f.blocks + f.blocks) ≤ (2 * most_blocks - 1) * most_turn + f.turn
    turns_most some =
        rw one_more
        (omega (arith, mul-suc f.turn (2 * f.blocks - 1), mul-le-mul s.most_turn_holds few))
      where
        one_more : f.blocks + f.blocks ≡ suc (2 * f.blocks - 1)
        one_more = omega arith

        few : 2 * f.blocks - 1 ≤ 2 * most_blocks - 1
        few = omega (arith, s.most_blocks_holds)

    reach_sum : 0 < f.blocks → sum_over (2 * f.blocks) (reach f) ≤ latest_end + f.turn
    reach_sum some = rw e (omega (arith, all_sum f.blocks, s.most_blocks_holds, turns_most some))
      where
        e : 2 * f.blocks ≡ f.blocks + f.blocks
        e = omega arith

    pub least_end : (w : ℕ) → 0 < f.blocks → Proper f.blocks w → possible_in f w ≡ true → (p : ℕ) → p < 2 * f.blocks
        → value (least_starts f w) p + pass_time f p ≤ latest_end
    unfolding least_starts possible_in
    least_end w some proper e p l =
        omega (
          arith,
          span (system_for (flight_in f w)) (inside (flight_in f w) good) (value (least_starts f w)) (reach f)
              (solvable_solves (system_for (flight_in f w)) (inside (flight_in f w) good) e)
              (λ y h j q. least_below (system_for (flight_in f w)) (inside (flight_in f w) good) y h j)
              (up_reach w)
              p
              l,
          time_reach p,
          reach_sum some,
        )
      where
        good : Good (flight_in f w)
        good = sound_good f w s some proper
