-- Constraints as the code computes them.
use mathlib.Core.Path.{◌≡◌, sym, ap, ◌∙◌}
use Prim.Native.Nat.{ℕ, ◌+◌, ◌-◌, ◌*◌, ◌^◌, ◌≤◌, ◌<◌}
use native.Mathlib.Omega.{arith}
use lib.ListN.{get_or}
use Rattle.order.specs.Passes.{pass_at, time_of}
use Rattle.order.specs.PassLaws.{pass_known}
use Rattle.sheet.specs.Limits.{most_time}
use Rattle.flight_order.specs.Constraints.{OrderedFlight, constraint_of}
use Rattle.flight_order.proofs.Schedule.{constraint_shortest, constraint_longest, constraint_order}
use Rattle.flight_order.specs.Good.{Good}
use Rattle.flight_order.proofs.Good.{time_low}
use Rattle.difference.specs.declared.Constraint.{Constraint}

module _ {F : OrderedFlight} (good : Good F) where
  pub pass_below : (k p : ℕ) → 2 * F.blocks ≤ k → k < 4 * F.blocks - 1 → p ≡ pass_at F.blocks F.order (k - 2 * F.blocks) → p < 2 * F.blocks
  pass_below k p g l e = rw e (pass_known good.proper (k - 2 * F.blocks) (omega arith))

  pub up_fits : (p time more : ℕ) → time ≡ time_of F.blocks F.first F.second p → more ≤ most_time → time + more < 2 ^ 64
  up_fits p time more e l = omega (arith, time_low F good p)

module _ (F : OrderedFlight) (k : ℕ) where
  pub made_shortest : k < F.blocks
      → ◌≡◌ {A = Constraint} (record { from = k; to = F.blocks + k; up = get_or F.first k 0 + get_or F.shortest k 0; down = 0 }) (constraint_of F k)
  made_shortest l = sym (constraint_shortest F k l)

  pub made_longest : F.blocks ≤ k → k < 2 * F.blocks
      → ◌≡◌ {A = Constraint}
      (record { from = F.blocks + (k - F.blocks); to = k - F.blocks; up = 0; down = get_or F.first (k - F.blocks) 0 + get_or F.longest (k - F.blocks) 0 })
      (constraint_of F k)
  made_longest g l =
      ap (λ (p : ℕ). record { from = p; to = k - F.blocks; up = 0; down = get_or F.first (k - F.blocks) 0 + get_or F.longest (k - F.blocks) 0 }) back
      ∙ sym (constraint_longest F k g l)
    where
      back : F.blocks + (k - F.blocks) ≡ k
      back = omega arith

  pub made_order : (p q time : ℕ) → 2 * F.blocks ≤ k → p ≡ pass_at F.blocks F.order (k - 2 * F.blocks)
      → q ≡ pass_at F.blocks F.order (k - 2 * F.blocks + 1) → time ≡ time_of F.blocks F.first F.second p
      → ◌≡◌ {A = Constraint} (record { from = p; to = q; up = time + F.turn; down = 0 }) (constraint_of F k)
  made_order p q time g e d t = rw (constraint_order F k g, t, e, d)
