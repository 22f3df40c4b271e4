-- The least starts never reach the ceiling: the last pass ends no later than all passes and shortest delays of all blocks take, one after the other, with a
-- turn between any two passes.
use Prim.Native.Nat.{ℕ, ◌+◌, ◌-◌, ◌*◌}
use Rattle.sheet.specs.Limits.{most_time, most_turn, most_blocks}

-- No least pass ends later: both passes and the longest delay of every block, and the turns between them.
abbrev pub latest_end : ℕ
latest_end = most_blocks * (3 * most_time) + (2 * most_blocks - 1) * most_turn
