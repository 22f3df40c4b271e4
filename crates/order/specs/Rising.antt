-- A proper order is determined by when its passes start: two proper orders along which the same starts rise are equal. They agree pass by
-- pass: where they differed first, one would have a first pass before a second pass, and the other the same two passes the other way round.
use Rattle.std.specs.Prelude.{◌≡◌, ◌⊎◌, ℕ, ◌+◌, ◌*◌, ◌%◌, ◌^◌, ◌≤◌, ◌<◌}
use Rattle.std.proofs.Common.{◌∙◌}
use Rattle.order.specs.Passes.{pass_at}

-- the starts of the passes of n blocks rise along the order w
abbrev pub Rises : ℕ → (ℕ → ℕ) → ℕ → Type 0
Rises n start w = (j k : ℕ) → j < k → k < 2 * n → start (pass_at n w j) < start (pass_at n w k)
