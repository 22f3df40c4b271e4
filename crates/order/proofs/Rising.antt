-- A proper order is determined by when its passes start: two proper orders along which the same starts rise are equal. They agree pass by
-- pass: where they differed first, one would have a first pass before a second pass, and the other the same two passes the other way round.
use Rattle.std.specs.Prelude.{◌≡◌, ◌⊎◌, ℕ, zero, suc, ◌+◌, ◌*◌, ◌%◌, ◌^◌, ◌≤◌, ◌<◌}
use Rattle.std.proofs.Common.{sym, ap, ◌∙◌, inl, inr, mod-lt, mod-eq_of_lt, add-one, arith, pow_pos}
use Rattle.std.proofs.Math.Decide.{dec_lt}
use Rattle.order.specs.Order.{bit, seconds, firsts, Proper}
use Rattle.order.specs.Seconds.{bit_cases, seconds_more, seconds_mono, firsts_seconds, firsts_more, firsts_mono, seconds_mod, mod_more}
use Rattle.order.specs.Blocks.{proper_first}
use Rattle.order.specs.Passes.{pass_at}
use Rattle.order.specs.PassLaws.{pass_second, pass_first, position}
use Rattle.order.specs.Rising.{Rises}

same_seconds : (x y k : ℕ) → x % 2 ^ k ≡ y % 2 ^ k → seconds x k ≡ seconds y k
same_seconds x y k e = sym (seconds_mod x k k (omega arith)) ∙ ap (λ (w : ℕ). seconds w k) e ∙ seconds_mod y k k (omega arith)

module _ {n : ℕ} (start : ℕ → ℕ) where
  -- Of the next first pass and the next second pass after k passes, the one that is not taken at once starts later.
  module _ {w : ℕ} (proper : Proper n w) (rises : Rises n start w) (k : ℕ) (l : k < 2 * n) (some : firsts w k < n) where
    second_later : bit w k ≡ 0 → start (firsts w k) < start (n + seconds w k)
    second_later z = go (position proper (n + seconds w k) (omega (arith, proper.beginnings k (omega arith))))
      where
        later : (j : ℕ) → j < 2 * n → pass_at n w j ≡ n + seconds w k → (bit w j ≡ 0) ⊎ (bit w j ≡ 1) → Dec (k < j) → k < j
        later j m e b (yes q) = q
        later j m e (inl o) (no q) = absurd (omega (arith, pass_first n w j (λ h. omega arith), proper_first proper j m o))
        later j m e (inr o) (no q) =
            absurd (omega (arith, pass_second n w j o, seconds_more w j, seconds_more w k, seconds_mono w (j + 1) (k + 1) (omega arith)))

        go : (j : ℕ) × (j < 2 * n) × (pass_at n w j ≡ n + seconds w k) → start (firsts w k) < start (n + seconds w k)
        go (j, m, e) = rw (← e, ← pass_first n w k (λ h. omega arith)) (rises k j (later j m e (bit_cases w j) (dec_lt k j)) m)

    first_later : bit w k ≡ 1 → start (n + seconds w k) < start (firsts w k)
    first_later z = go (position proper (firsts w k) (omega arith))
      where
        later : (j : ℕ) → j < 2 * n → pass_at n w j ≡ firsts w k → (bit w j ≡ 0) ⊎ (bit w j ≡ 1) → Dec (k < j) → k < j
        later j m e b (yes q) = q
        later j m e (inl o) (no q) =
            absurd (omega (arith, pass_first n w j (λ h. omega arith), firsts_more w j, firsts_more w k, firsts_mono w (j + 1) (k + 1) (omega arith)))
        later j m e (inr o) (no q) = absurd (omega (arith, pass_second n w j o))

        go : (j : ℕ) × (j < 2 * n) × (pass_at n w j ≡ firsts w k) → start (n + seconds w k) < start (firsts w k)
        go (j, m, e) = rw (← e, ← pass_second n w k z) (rises k j (later j m e (bit_cases w j) (dec_lt k j)) m)

  -- so after equal beginnings one order does not go on with a first pass and another with a second pass
  no_fork : {x y : ℕ} → Proper n x → Proper n y → Rises n start x → Rises n start y → (k : ℕ) → k < 2 * n → seconds x k ≡ seconds y k
      → bit x k ≡ 0 → bit y k ≡ 1 → ⊥
  no_fork {x} {y} X Y rx ry k l e z o = omega (arith, second_later X rx k l some z, later)
    where
      firsts_same : firsts y k ≡ firsts x k
      firsts_same = omega (arith, e, firsts_seconds x k, firsts_seconds y k)

      some : firsts x k < n
      some = proper_first X k l z

      later : start (n + seconds x k) < start (firsts x k)
      later = rw (e, ← firsts_same) (first_later Y ry k l (omega (arith, some, firsts_same)) o)

  -- so the orders agree pass by pass
  module _ {x y : ℕ} (X : Proper n x) (Y : Proper n y) (rx : Rises n start x) (ry : Rises n start y) where
    same_pass : (k : ℕ) → k < 2 * n → seconds x k ≡ seconds y k → bit x k ≡ bit y k
    same_pass k l e = go (bit_cases x k) (bit_cases y k)
      where
        go : (bit x k ≡ 0) ⊎ (bit x k ≡ 1) → (bit y k ≡ 0) ⊎ (bit y k ≡ 1) → bit x k ≡ bit y k
        go (inl a) (inl b) = a ∙ sym b
        go (inl a) (inr b) = absurd (no_fork X Y rx ry k l e a b)
        go (inr a) (inl b) = absurd (no_fork Y X ry rx k l (sym e) b a)
        go (inr a) (inr b) = a ∙ sym b

    same_beginning : (k : ℕ) → k ≤ 2 * n → x % 2 ^ k ≡ y % 2 ^ k
    same_beginning zero l = omega (arith, mod-lt x (pow_pos 0), mod-lt y (pow_pos 0))
    same_beginning (suc k) l = go (same_beginning k (omega arith))
      where
        go : x % 2 ^ k ≡ y % 2 ^ k → x % 2 ^ suc k ≡ y % 2 ^ suc k
        go e = rw (← add-one k, mod_more x k, mod_more y k, same_pass k (omega arith) (same_seconds x y k e), e)

-- a proper order is determined by any starts that rise along it
pub rising_determined : {n : ℕ} (start : ℕ → ℕ) {x y : ℕ} → Proper n x → Proper n y → Rises n start x → Rises n start y → x ≡ y
rising_determined {n} start X Y rx ry =
    sym (mod-eq_of_lt X.no_higher) ∙ same_beginning start X Y rx ry (2 * n) (omega arith) ∙ mod-eq_of_lt Y.no_higher
