-- Writing the constraints row by row, and solving the rows that were written.
use mathlib.Core.Path.{◌≡◌, ap, ◌∙◌}
use mathlib.Core.Bool.{Bool}
use mathlib.Core.List.{List}
use Prim.Native.Nat.{ℕ, ◌+◌, ◌-◌, ◌*◌, ◌<◌}
use native.Mathlib.Omega.{arith}
use borrow.Author.Count.{below_more}
use lib.ListN.{length, set}
use lib.Seq.{get_or-set_same, get_or-set_other}
use Rattle.difference.specs.Agree.{Agree, agree_values, agree_solvable}
use Rattle.difference.specs.Rows.{item, system_of, SolvePre, SolveDone}
use Rattle.flight_order.specs.Constraints.{OrderedFlight, constraint_of, system_for}
use Rattle.flight_order.proofs.Good.{constraint_small}
use Rattle.flight_order.specs.Clauses.{Rows, LeastStartsPre, Least}
use Rattle.difference.specs.declared.Constraint.{Constraint}

pub write_more : {F : OrderedFlight} {rows : List Constraint} {k : ℕ} {c : Constraint} → Rows F rows k → k < length rows → c ≡ constraint_of F k
    → Rows F (set rows k c) (k + 1)
write_more {F} {rows} {k} {c} w l e = record { written = below_more (λ j. item (set rows k c) j ≡ constraint_of F j) k before (get_or-set_same rows k c _ l ∙ e) }
  where
    before : (j : ℕ) → j < k → item (set rows k c) j ≡ constraint_of F j
    before j q = get_or-set_other rows k j c _ (omega arith) ∙ w.written j q

-- The rows that were written are the constraints, so solving them gives the least starts.
module _ {F : OrderedFlight} {rows₀ rows : List Constraint} {t : List ℕ} (pre : LeastStartsPre F rows₀ t) (same : length rows ≡ length rows₀)
    (w : Rows F rows (4 * F.blocks - 1)) where
  count : length rows ≡ 4 * F.blocks - 1
  count = same ∙ pre.room.rows_length

  within : {k : ℕ} → k < length rows → k < 4 * F.blocks - 1
  within l = omega (arith, count)

  agree : Agree (system_of (length t) rows) (system_for F)
  agree = record {
    variables = pre.starts_length;
    count = count;
    from = λ k l. ap (λ (c : Constraint). c.from) (w.written k (within l));
    to = λ k l. ap (λ (c : Constraint). c.to) (w.written k (within l));
    up = λ k l. ap (λ (c : Constraint). c.up) (w.written k (within l));
    down = λ k l. ap (λ (c : Constraint). c.down) (w.written k (within l));
  }

  pub rows_fit : SolvePre (length t) rows
  rows_fit = record {
    some = omega (arith, pre.starts_length, pre.room.good.some);
    few = omega (arith, pre.starts_length, pre.room.good.few);
    short = omega (arith, count, pre.room.good.few);
    from_in = λ k l. rw (w.written k (within l), pre.starts_length) (constraint_small F pre.room.good k (within l)).from_in;
    to_in = λ k l. rw (w.written k (within l), pre.starts_length) (constraint_small F pre.room.good k (within l)).to_in;
    up_low = λ k l. rw (w.written k (within l)) (constraint_small F pre.room.good k (within l)).up_low;
    down_low = λ k l. rw (w.written k (within l)) (constraint_small F pre.room.good k (within l)).down_low;
  }

  pub rows_least : {t' : List ℕ} {found : Bool} → SolveDone (system_of (length t) rows) t' found → Least F rows t' found
  rows_least d = record {
    written = w;
    starts = d.values ∙ agree_values (system_of (length t) rows) (system_for F) agree;
    result = d.result ∙ agree_solvable (system_of (length t) rows) (system_for F) agree;
  }
