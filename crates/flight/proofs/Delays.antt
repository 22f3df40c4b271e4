-- The longest delays compared with the turn, and the order of the blocks one after the other made second pass by second pass.
use mathlib.Core.Path.{◌≡◌, refl, sym}
use mathlib.Core.Bool.{Bool, true, false}
use Prim.Native.Nat.{ℕ, ◌+◌, ◌*◌, ◌^◌, ◌≤◌, ◌<◌}
use native.Mathlib.Numerals.{add-one}
use native.Mathlib.Omega.{arith}
use lib.ListN.{length, get_or, take}
use lib.Seq.{get_or-take, length-take-le}
use Rattle.std.specs.Bool.{MatchBool}
use Rattle.std.specs.List.{AllWithin, HoldsAt}
use Rattle.sheet.specs.Sound.{FlightSound}
use Rattle.sheet.specs.declared.FlightSection.{FlightSection}
use Rattle.flight.specs.Choice.{delays_fit, one_by_one}
use Rattle.flight.specs.Chosen.{delay_short, short_unfit}
use Rattle.flight.specs.OneByOne.{low_more}

module _ (f : FlightSection) (sound : FlightSound f) where
  known : length (take f.blocks f.longest) ≡ f.blocks
  known = length-take-le f.blocks f.longest (omega (arith, sound.most_blocks_holds, sound.longest_length))

  -- What the test of all longest delays says decides whether they fit.
  pub fits_decided : (r : Bool)
      → MatchBool r (AllWithin (λ d. f.turn ≤ d) (take f.blocks f.longest) 0 (length (take f.blocks f.longest)))
      ((k : ℕ) × (k < length (take f.blocks f.longest)) × HoldsAt (λ d. d < f.turn) (take f.blocks f.longest) k)
      → r ≡ delays_fit f f.blocks
  fits_decided true w = go (delays_fit f f.blocks) refl
    where
      long : (k : ℕ) → k < f.blocks → f.turn ≤ get_or f.longest k 0
      long k l = omega (arith, w k 0 (omega arith) (omega (arith, known)), get_or-take f.blocks f.longest k 0 l)

      go : (b : Bool) → delays_fit f f.blocks ≡ b → true ≡ b
      go true e = refl
      go false e = let s = delay_short f f.blocks (omega arith) e in absurd (omega (arith, s.short, long s.block s.known))
  fits_decided false w = sym (short_unfit f record { block = w.0; known = within; short = short })
    where
      within : w.0 < f.blocks
      within = omega (arith, w.1, known)

      short : get_or f.longest w.0 0 < f.turn
      short = omega (arith, w.2 0, get_or-take f.blocks f.longest w.0 0 within)

-- The order of the first i blocks, and that of one more.
module _ {n order i : ℕ} (so_far : order ≡ one_by_one i) (l : i < n) where
  pub order_low : order < 2 ^ (2 * i + 1)
  order_low = rw so_far (low_more n i l)

  pub order_more : {next : ℕ} → next ≡ order + 2 ^ (2 * i + 1) → next ≡ one_by_one (i + 1)
  unfolding one_by_one
  order_more e = rw (e, so_far, add-one i)
