-- The numbered constraints say the three rules of a schedule: each delay in its window, and each pass of the order after the pass before it.
use Rattle.std.specs.Prelude.{◌≡◌, ℕ, ◌+◌, ◌-◌, ◌*◌, ◌≤◌, ◌<◌, get_or}
use Rattle.std.proofs.Math.Decide.{dec_lt}
use Rattle.std.proofs.Common.{arith}
use borrow.Author.Tests.{lt-ltb, le-ltb}
use Rattle.order.specs.Passes.{pass_at, time_of}
use Rattle.difference.specs.System.{Solves}
use Rattle.flight_order.specs.Constraints.{OrderedFlight, constraint_of, system_for}
use Rattle.flight_order.specs.Schedule.{Schedule}

module _ (F : OrderedFlight) (k : ℕ) where
  pub constraint_shortest : k < F.blocks
      → constraint_of F k ≡ record { from = k; to = F.blocks + k; up = get_or F.first k 0 + get_or F.shortest k 0; down = 0 }
  unfolding constraint_of
  constraint_shortest l = rw (lt-ltb k F.blocks l)

  pub constraint_longest : F.blocks ≤ k → k < 2 * F.blocks
      → constraint_of F k ≡ record { from = k; to = k - F.blocks; up = 0; down = get_or F.first (k - F.blocks) 0 + get_or F.longest (k - F.blocks) 0 }
  unfolding constraint_of
  constraint_longest g l = rw (le-ltb k F.blocks g, lt-ltb k (2 * F.blocks) l)

  pub constraint_order : 2 * F.blocks ≤ k
      → constraint_of F k
      ≡ record {
        from = pass_at F.blocks F.order (k - 2 * F.blocks);
        to = pass_at F.blocks F.order (k - 2 * F.blocks + 1);
        up = time_of F.blocks F.first F.second (pass_at F.blocks F.order (k - 2 * F.blocks)) + F.turn;
        down = 0;
      }
  unfolding constraint_of
  constraint_order g = rw (le-ltb k F.blocks (omega arith), le-ltb k (2 * F.blocks) g)

module _ (F : OrderedFlight) (y : ℕ → ℕ) where
  pub schedule_solves : Schedule F y → Solves (system_for F) y
  schedule_solves s k l = go (dec_lt k F.blocks) (dec_lt k (2 * F.blocks))
    where
      go : Dec (k < F.blocks) → Dec (k < 2 * F.blocks) → y (constraint_of F k).from + (constraint_of F k).up ≤ y (constraint_of F k).to + (constraint_of F k).down
      go (yes q) e = rw (constraint_shortest F k q) (omega (arith, s.at_least k q))
      go (no g) (yes q) = rw (constraint_longest F k (omega arith) q) (omega (arith, rw back at (s.at_most (k - F.blocks) (omega arith))))
        where
          back : F.blocks + (k - F.blocks) ≡ k
          back = omega arith
      go (no g) (no h) = rw (constraint_order F k (omega arith)) (omega (arith, s.in_order (k - 2 * F.blocks) (omega arith)))

  pub solves_schedule : Solves (system_for F) y → Schedule F y
  solves_schedule s = record { at_least = least; at_most = most; in_order = order }
    where
      least : (i : ℕ) → i < F.blocks → y i + (get_or F.first i 0 + get_or F.shortest i 0) ≤ y (F.blocks + i)
      least i l = omega (arith, rw (constraint_shortest F i l) at (s i (omega arith)))

      most : (i : ℕ) → i < F.blocks → y (F.blocks + i) ≤ y i + (get_or F.first i 0 + get_or F.longest i 0)
      most i l = omega (arith, rw (constraint_longest F (F.blocks + i) (omega arith) (omega arith), back) at (s (F.blocks + i) (omega arith)))
        where
          back : F.blocks + i - F.blocks ≡ i
          back = omega arith

      order : (j : ℕ) → j + 1 < 2 * F.blocks
          → y (pass_at F.blocks F.order j) + (time_of F.blocks F.first F.second (pass_at F.blocks F.order j) + F.turn)
          ≤ y (pass_at F.blocks F.order (j + 1))
      order j l = omega (arith, rw (constraint_order F (2 * F.blocks + j) (omega arith), back) at (s (2 * F.blocks + j) (omega arith)))
        where
          back : 2 * F.blocks + j - 2 * F.blocks ≡ j
          back = omega arith
