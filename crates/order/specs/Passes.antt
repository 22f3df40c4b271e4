-- The passes of n blocks by their numbers: the first pass of block i, from 0, is pass i, its second pass is pass n + i.
use Rattle.std.specs.Prelude.{cond, List, ℕ, ◌+◌, ◌-◌, ltb, eqb, get_or}
use Rattle.order.specs.Order.{bit, seconds, firsts}

-- The pass that an order number has at position k, from 0. 01: "a 1 is a second pass, a 0 a first pass. .. First passes take the blocks in sheet order,
-- and so do second passes."
unfoldable pub pass_at : ℕ → ℕ → ℕ → ℕ
pass_at n order k = cond (eqb (bit order k) 1) (n + seconds order k) (firsts order k)

-- The time that pass p takes, by the times of the blocks' first passes and of their second passes.
unfoldable pub time_of : ℕ → List ℕ → List ℕ → ℕ → ℕ
time_of n first second p = cond (ltb p n) (get_or first p 0) (get_or second (p - n) 0)
