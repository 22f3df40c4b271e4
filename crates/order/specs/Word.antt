-- Proper orders as 64-bit numbers: those of at most 32 blocks are 64-bit numbers, no 64-bit number is proper for more, and the ones of the whole number are as
-- many as the blocks.
use Rattle.std.specs.Prelude.{◌≡◌, ℕ, ◌*◌, ◌^◌, ◌≤◌, ◌<◌}
use Rattle.std.proofs.Common.{◌∙◌, lt_of_lt_of_le, arith, pow_mono}
use Rattle.std.proofs.Math.Decide.{dec_lt}
use Rattle.order.specs.Order.{seconds, Proper}
use Rattle.order.specs.Seconds.{seconds_above, firsts_seconds}

pub proper_fits : {n x : ℕ} → Proper n x → n ≤ 32 → x < 2 ^ 64
proper_fits {n} {x} p l = lt_of_lt_of_le p.no_higher (pow_mono {i = 2 * n} {j = 64} (omega arith))

-- With more than 32 blocks more than 32 ones stand in the first 64 passes.
pub proper_blocks : {n x : ℕ} → Proper n x → x < 2 ^ 64 → n ≤ 32
proper_blocks {n} {x} p h = go (dec_lt 32 n)
  where
    go : Dec (32 < n) → n ≤ 32
    go (yes l) =
        absurd
        (omega (arith, p.exactly, seconds_above x 64 (2 * n) h (omega arith), p.beginnings 64 (omega arith), firsts_seconds x 64))
    go (no l) = omega arith

pub proper_count : {n x : ℕ} → Proper n x → n ≤ 32 → seconds x 64 ≡ n
proper_count {n} {x} p l = seconds_above x (2 * n) 64 p.no_higher (omega arith) ∙ p.exactly
