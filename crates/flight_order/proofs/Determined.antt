-- The contract of `least_starts` determines the rows that it leaves.
use Rattle.std.specs.Prelude.{◌≡◌, List, ℕ, length}
use Rattle.std.proofs.Common.{◌∙◌, sym, arith, ext_get_or}
use Rattle.difference.specs.declared.Constraint.{Constraint}
use Rattle.flight_order.specs.Constraints.{OrderedFlight}
use Rattle.flight_order.specs.Clauses.{Rows}

pub rows_determined : {F : OrderedFlight} {a b : List Constraint} {c : ℕ} → Rows F a c → Rows F b c → length a ≡ c → length b ≡ c → a ≡ b
rows_determined {F} {a} {b} A B l₁ l₂ =
    ext_get_or (record { from = 0; to = 0; up = 0; down = 0 }) a b (l₁ ∙ sym l₂) (λ k h. A.written k (omega arith) ∙ sym (B.written k (omega arith)))
