-- Order numbers that are proper and order numbers that are not, each computed.
use Rattle.std.specs.Prelude.{◌≡◌, refl, Bool, true, false, List, [], ◌∷◌, map, ℕ}
use Rattle.order.specs.Order.{seconds, firsts, never_more_seconds, is_proper}

-- A number of blocks, an order number and whether it is proper.
record Case : Type 0 where
  blocks : ℕ
  order : ℕ
  proper : Bool

abbrev is : ℕ → ℕ → Bool → Case
is n x r = record { blocks = n; order = x; proper = r }

abbrev cases : List Case
cases =
    is 0 0 true
    ∷ is 0 1 false
    ∷ is 1 0b10 true
    ∷ is 1 0b01 false
    ∷ is 1 0b110 false
    ∷ is 2 0b1100 true
    ∷ is 2 0b1010 true
    ∷ is 2 0b0011 false
    ∷ is 2 0b0101 false
    ∷ is 2 0b1001 false
    ∷ is 2 0b0110 false
    ∷ is 2 0b1000 false
    ∷ is 8 0xF2C4 true
    ∷ is 9 0xF2C4 false
    ∷ is 32 0xFFFF_FFFF_0000_0000 true
    ∷ is 32 0x0000_0000_FFFF_FFFF false
    ∷ is 33 0xFFFF_FFFF_8000_0000 false
    ∷ []

cases_hold : map (λ c. is_proper c.blocks c.order) cases ≡ map (λ c. c.proper) cases
unfolding seconds firsts never_more_seconds is_proper
cases_hold = refl
