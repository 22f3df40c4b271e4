-- Where every longest delay is at least the turn, some order is possible: each block's two passes one after the other, 1010 .. 10. Its beginnings of 2 i passes
-- are those of i blocks, and block i starts when all blocks before it have taken their passes and longest delays, and a turn is over behind each.
use Rattle.std.specs.Prelude.{◌≡◌, true, cond, ltb, get_or}
use Rattle.std.proofs.Common.{sym, ◌∙◌, add-one, lt-ltb, le-ltb}
use Prim.Native.Nat.{ℕ, zero, suc, ◌+◌, ◌-◌, ◌*◌, ◌/◌, ◌%◌, ◌^◌, ◌≤◌, ◌<◌}
use Rattle.std.proofs.Math.Decide.{dec_lt, ℕ_discrete}
use native.Mathlib.Omega.{arith}
use Rattle.order.specs.Order.{bit, seconds, firsts, Proper}
use Rattle.order.specs.Seconds.{bit_first, bit_second, seconds_more, firsts_seconds, seconds_first, firsts_first, seconds_second, firsts_second}
use Rattle.order.specs.Beginning.{Beginning, Extends}
use Rattle.order.specs.Children.{beginning_empty, first_child, second_child, whole_proper, extends_bit, extends_seconds, extends_firsts, extends_itself}
use Rattle.order.specs.Children.{first_parent, second_parent}
use Rattle.order.specs.Passes.{pass_at, time_of}
use Rattle.order.specs.PassLaws.{pass_first, pass_second}
use Rattle.sheet.specs.Sound.{FlightSound}
use Rattle.sheet.specs.declared.FlightSection.{FlightSection}
use Rattle.base.specs.Sums.{sum_over}
use Rattle.flight_order.specs.Constraints.{flight_in, possible_in}
use Rattle.flight_order.specs.Schedule.{Schedule}
use Rattle.flight_order.proofs.Timetable.{time_is}
use Rattle.rules_laws.proofs.FlightRunning.{time_first, second_time}
use Rattle.flight_order.proofs.Planned.{schedule_possible, empty_possible}
use Rattle.flight.specs.Choice.{one_by_one}

-- A beginning of 2 i passes with i first and i second passes.
record Half (n i : ℕ) : Type 0 where
  begun : Beginning n (2 * i) (one_by_one i)
  first_count_holds : firsts (one_by_one i) (2 * i) ≡ i
  second_count_holds : seconds (one_by_one i) (2 * i) ≡ i

half : (n i : ℕ) → i ≤ n → Half n i
unfolding one_by_one
half n zero l = record { begun = beginning_empty n; first_count_holds = omega (arith, firsts_seconds 0 0); second_count_holds = omega (arith, firsts_seconds 0 0) }
half n (suc i) l = go (half n i (omega arith))
  where
    go : Half n i → Half n (suc i)
    go h = record { begun = rw e two; first_count_holds = rw e (omega (arith, more_firsts)); second_count_holds = rw e (omega (arith, more_seconds)) }
      where
        e : 2 * suc i ≡ 2 * i + 1 + 1
        e = omega arith

        one : Beginning n (2 * i + 1) (one_by_one i)
        one = first_child h.begun (omega (arith, h.first_count_holds))

        one_first : firsts (one_by_one i) (2 * i + 1) ≡ i + 1
        one_first = omega (arith, firsts_first (one_by_one i) (2 * i) h.begun.no_higher, h.first_count_holds)

        one_second : seconds (one_by_one i) (2 * i + 1) ≡ i
        one_second = omega (arith, seconds_first (one_by_one i) (2 * i) h.begun.no_higher, h.second_count_holds)

        two : Beginning n (2 * i + 1 + 1) (one_by_one i + 2 ^ (2 * i + 1))
        two = second_child one (omega (arith, one_first, one_second))

        more_firsts : firsts (one_by_one i + 2 ^ (2 * i + 1)) (2 * i + 1 + 1) ≡ i + 1
        more_firsts = omega (arith, firsts_second (one_by_one i) (2 * i + 1) one.no_higher, one_first)

        more_seconds : seconds (one_by_one i + 2 ^ (2 * i + 1)) (2 * i + 1 + 1) ≡ i + 1
        more_seconds = omega (arith, seconds_second (one_by_one i) (2 * i + 1) one.no_higher, one_second)

pub one_by_one_proper : (n : ℕ) → Proper n (one_by_one n)
one_by_one_proper n = whole_proper (half n n (omega arith)).begun

-- The first 2 (i + 1) passes, without the last, and without the last two.
module _ (n : ℕ) where
  low : (i : ℕ) → i ≤ n → one_by_one i < 2 ^ (2 * i)
  low i l = (half n i l).begun.no_higher

  pub low_more : (i : ℕ) → i < n → one_by_one i < 2 ^ (2 * i + 1)
  low_more i l = (first_child (half n i (omega arith)).begun (omega (arith, (half n i (omega arith)).first_count_holds))).no_higher

  extends : (d i : ℕ) → i + d ≡ n → Extends (one_by_one n) (2 * i) (one_by_one i)
  unfolding one_by_one
  extends zero i e = rw same (extends_itself (one_by_one_proper n))
    where
      same : i ≡ n
      same = omega arith
  extends (suc d) i e = go (extends d (suc i) (omega arith))
    where
      next : 2 * suc i ≡ 2 * i + 1 + 1
      next = omega arith

      go : Extends (one_by_one n) (2 * suc i) (one_by_one i + 2 ^ (2 * i + 1)) → Extends (one_by_one n) (2 * i) (one_by_one i)
      go x = first_parent (low i (omega arith)) (second_parent (one_by_one n) (2 * i + 1) (one_by_one i) (low_more i (omega arith)) (rw next at x))

  module _ (i : ℕ) (l : i < n) where
    here : Extends (one_by_one n) (2 * i) (one_by_one i)
    here = extends (n - i) i (omega arith)

    after : Extends (one_by_one n) (2 * i + 1 + 1) (one_by_one i + 2 ^ (2 * i + 1))
    unfolding one_by_one
    after = rw next at (extends (n - suc i) (suc i) (omega arith))
      where
        next : 2 * suc i ≡ 2 * i + 1 + 1
        next = omega arith

    between : Extends (one_by_one n) (2 * i + 1) (one_by_one i)
    between = second_parent (one_by_one n) (2 * i + 1) (one_by_one i) (low_more i l) after

    even_bit : bit (one_by_one n) (2 * i) ≡ 0
    even_bit = extends_bit between (2 * i) (omega arith) ∙ bit_first (one_by_one i) (2 * i) (low i (omega arith))

    odd_bit : bit (one_by_one n) (2 * i + 1) ≡ 1
    odd_bit = extends_bit after (2 * i + 1) (omega arith) ∙ bit_second (one_by_one i) (2 * i + 1) (low_more i l)

    even_pass : pass_at n (one_by_one n) (2 * i) ≡ i
    even_pass =
        pass_first n (one_by_one n) (2 * i) (λ e. omega (arith, even_bit))
        ∙ extends_firsts here (2 * i) (omega arith)
        ∙ (half n i (omega arith)).first_count_holds

    odd_pass : pass_at n (one_by_one n) (2 * i + 1) ≡ n + i
    odd_pass =
        pass_second n (one_by_one n) (2 * i + 1) odd_bit
        ∙ omega (
          arith,
          seconds_more (one_by_one n) (2 * i),
          even_bit,
          extends_seconds here (2 * i) (omega arith),
          (half n i (omega arith)).second_count_holds,
        )

module _ (f : FlightSection) where
  -- The time from block i's first start to the first start of the next block, and the start of pass p.
  whole : ℕ → ℕ
  whole i = get_or f.first i 0 + get_or f.longest i 0 + get_or f.second i 0 + f.turn

  starts : ℕ → ℕ
  starts p =
      cond (ltb p f.blocks) (sum_over p whole)
      (sum_over (p - f.blocks) whole + get_or f.first (p - f.blocks) 0 + get_or f.longest (p - f.blocks) 0)

  starts_first : (i : ℕ) → i < f.blocks → starts i ≡ sum_over i whole
  unfolding starts
  starts_first i l = rw (lt-ltb i f.blocks l)

  starts_second : (i : ℕ) → starts (f.blocks + i) ≡ sum_over i whole + get_or f.first i 0 + get_or f.longest i 0
  unfolding starts
  starts_second i = rw (le-ltb (f.blocks + i) f.blocks (omega arith), back)
    where
      back : f.blocks + i - f.blocks ≡ i
      back = omega arith

  sum_more : (i : ℕ) → sum_over (i + 1) whole ≡ sum_over i whole + (get_or f.first i 0 + get_or f.longest i 0 + get_or f.second i 0 + f.turn)
  unfolding sum_over whole
  sum_more i = rw (add-one i)

  first_time : (i : ℕ) → i < f.blocks → time_of f.blocks f.first f.second i ≡ get_or f.first i 0
  first_time i l = sym (time_is f i) ∙ time_first f i l

  time_after : (i : ℕ) → time_of f.blocks f.first f.second (f.blocks + i) ≡ get_or f.second i 0
  time_after i = sym (time_is f (f.blocks + i)) ∙ second_time f i

  order_step : ((i : ℕ) → i < f.blocks → f.turn ≤ get_or f.longest i 0) → (j : ℕ) → j + 1 < 2 * f.blocks
      → starts (pass_at f.blocks (one_by_one f.blocks) j)
      + (time_of f.blocks f.first f.second (pass_at f.blocks (one_by_one f.blocks) j) + f.turn)
      ≤ starts (pass_at f.blocks (one_by_one f.blocks) (j + 1))
  order_step long j l = go (ℕ_discrete (j % 2) 0)
    where
      i : ℕ
      i = j / 2

      goal : ℕ → Type 0
      goal j =
          starts (pass_at f.blocks (one_by_one f.blocks) j)
          + (time_of f.blocks f.first f.second (pass_at f.blocks (one_by_one f.blocks) j) + f.turn)
          ≤ starts (pass_at f.blocks (one_by_one f.blocks) (j + 1))

      even : (i : ℕ) → i < f.blocks → goal (2 * i)
      even i q =
          rw (even_pass f.blocks i q, odd_pass f.blocks i q, starts_first i q, starts_second i, first_time i q)
          (omega (arith, long i q))

      odd : (i : ℕ) → i + 1 < f.blocks → goal (2 * i + 1)
      odd i q =
          rw (
            odd_pass f.blocks i (omega arith),
            next,
            even_pass f.blocks (i + 1) q,
            starts_first (i + 1) q,
            starts_second i,
            time_after i,
            sum_more i,
          )
          (omega arith)
        where
          next : 2 * i + 1 + 1 ≡ 2 * (i + 1)
          next = omega arith

      go : Dec (j % 2 ≡ 0) → goal j
      go (yes e) = rw back (even (j / 2) (omega arith))
        where
          back : j ≡ 2 * (j / 2)
          back = omega arith
      go (no e) = rw back (odd (j / 2) (omega arith))
        where
          back : j ≡ 2 * (j / 2) + 1
          back = omega arith

  one_by_one_schedule : FlightSound f → ((i : ℕ) → i < f.blocks → f.turn ≤ get_or f.longest i 0) → Schedule (flight_in f (one_by_one f.blocks)) starts
  one_by_one_schedule sound long = record {
    at_least = λ i l. omega (arith, starts_first i l, starts_second i, sound.window i);
    at_most = λ i l. omega (arith, starts_first i l, starts_second i);
    in_order = order_step long;
  }

  pub one_by_one_possible : FlightSound f → ((i : ℕ) → i < f.blocks → f.turn ≤ get_or f.longest i 0) → possible_in f (one_by_one f.blocks) ≡ true
  one_by_one_possible sound long = go (dec_lt 0 f.blocks)
    where
      go : Dec (0 < f.blocks) → possible_in f (one_by_one f.blocks) ≡ true
      go (yes some) = schedule_possible f (one_by_one f.blocks) sound (one_by_one_proper f.blocks) some starts (one_by_one_schedule sound long)
      go (no none) = empty_possible f (one_by_one f.blocks) sound (one_by_one_proper f.blocks) none
