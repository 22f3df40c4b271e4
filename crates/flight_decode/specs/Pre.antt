-- Room for what a field adds to a flight.
use Rattle.std.specs.Prelude.{ℕ, ◌+◌, ◌<◌, ◌^◌, ◌≡◌}
use Rattle.sheet.specs.Limits.{most_blocks}
use Rattle.sheet.specs.Tags.{flight_block_tag, flight_window_block_tag}

-- for a field of a tag whose content begins at c
pub record NextFlightPre (c tag blocks : ℕ) : Type 0 where
  pub content : c + 8 < 2 ^ 64
  pub block_fits : tag ≡ flight_block_tag → blocks < most_blocks
  pub window_block_fits : tag ≡ flight_window_block_tag → blocks < most_blocks

pub block_fits : (c tag blocks : ℕ) → NextFlightPre c tag blocks → tag ≡ flight_block_tag → blocks < most_blocks
block_fits c tag blocks r e = r.block_fits e

pub window_block_fits : (c tag blocks : ℕ) → NextFlightPre c tag blocks → tag ≡ flight_window_block_tag → blocks < most_blocks
window_block_fits c tag blocks r e = r.window_block_fits e
