-- Laws of decoding a flight: what the code builds from the values it read is what the definitions say.
use Rattle.std.specs.Prelude.{ℕ, ◌+◌, ◌≡◌, true, List}
use Rattle.std.proofs.Common.{ne_eqb}
use Rattle.field.specs.Bytes.{NumberRead}
use Rattle.sheet.specs.Decode.{begun_flight, no_flight, turn_of, with_flight_head, exact_block, window_block, with_block, with_order, next_flight}
use Rattle.sheet.specs.Tags.{flight_block_tag, flight_window_block_tag}
use Rattle.sheet.specs.declared.Block.{Block}
use Rattle.sheet.specs.declared.FlightSection.{FlightSection}

-- the turn of a flight head
pub no_turn : (s : List ℕ) (c len : ℕ) → len ≡ 0 → 0 ≡ turn_of s c len
unfolding turn_of
no_turn s c len e = rw e

pub turn_read : (s : List ℕ) (c len turn : ℕ) → (len ≡ 0 → ⊥) → NumberRead s c 2 turn → turn ≡ turn_of s c len
unfolding turn_of
turn_read s c len turn h n = rw (ne_eqb len 0 h) n.is

pub flight_head_is : (s : List ℕ) (c len at turn : ℕ) → turn ≡ turn_of s c len
    → begun_flight turn at ≡ with_flight_head s c len at
unfolding with_flight_head
flight_head_is s c len at turn e = rw e

-- the same built on a flight without a block
pub flight_head_on : (s : List ℕ) (c len at turn : ℕ) (none : FlightSection) → none ≡ no_flight → turn ≡ turn_of s c len
    → ◌≡◌ {A = FlightSection}
    (record {
      blocks = none.blocks;
      turn = turn;
      first = none.first;
      shortest = none.shortest;
      longest = none.longest;
      second = none.second;
      ordered = none.ordered;
      order = none.order;
      place = at;
    })
    (with_flight_head s c len at)
unfolding no_flight with_flight_head
flight_head_on s c len at turn none en e = rw (en, e)

pub exact_block_is : (s : List ℕ) (c a l b : ℕ) → NumberRead s c 2 a → NumberRead s (c + 2) 2 l → NumberRead s (c + 4) 2 b
    → ◌≡◌ {A = Block} (record { first = a; shortest = l; longest = l; second = b }) (exact_block s c)
unfolding exact_block
exact_block_is s c a l b n₁ n₂ n₃ = rw (n₁.is, n₂.is, n₃.is)

pub window_block_is : (s : List ℕ) (c a shortest longest b : ℕ) → NumberRead s c 2 a → NumberRead s (c + 2) 2 shortest → NumberRead s (c + 4) 2 longest
    → NumberRead s (c + 6) 2 b → ◌≡◌ {A = Block} (record { first = a; shortest = shortest; longest = longest; second = b }) (window_block s c)
unfolding window_block
window_block_is s c a shortest longest b n₁ n₂ n₃ n₄ = rw (n₁.is, n₂.is, n₃.is, n₄.is)

pub exact_block_next : (s : List ℕ) (c tag len at : ℕ) (f r : FlightSection) (b : Block) → tag ≡ flight_block_tag → b ≡ exact_block s c → r ≡ with_block b f
    → r ≡ next_flight s c tag len at f
unfolding next_flight
exact_block_next s c tag len at f r b e eb er = rw (e, ← eb) er

pub window_block_next : (s : List ℕ) (c tag len at : ℕ) (f r : FlightSection) (b : Block) → tag ≡ flight_window_block_tag → b ≡ window_block s c
    → r ≡ with_block b f → r ≡ next_flight s c tag len at f
unfolding next_flight
window_block_next s c tag len at f r b e eb er = rw (e, ← eb) er

pub order_is : (s : List ℕ) (c at : ℕ) (f : FlightSection) (order : ℕ) → NumberRead s c 8 order
    → ◌≡◌ {A = FlightSection}
    (record {
      blocks = f.blocks;
      turn = f.turn;
      first = f.first;
      shortest = f.shortest;
      longest = f.longest;
      second = f.second;
      ordered = true;
      order = order;
      place = at;
    })
    (with_order s c at f)
unfolding with_order
order_is s c at f order n = rw n.is
