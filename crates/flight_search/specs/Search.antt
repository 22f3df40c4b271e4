-- The search over all proper orders with an incumbent: at each beginning a first pass next is tried before a second pass next, and
-- only a strictly smaller figure replaces the incumbent.
use Rattle.std.specs.Prelude.{Bool, true, false, cond, ◌&&◌, Option, None, Some, ℕ, zero, suc, ◌+◌, ◌-◌, ◌*◌, ◌^◌, ltb}
use Rattle.order.specs.Order.{seconds, firsts}
use Rattle.flight_search.specs.declared.Incumbent.{Incumbent}

-- What the search is over: the orders of a number of blocks, each possible or not and with a figure.
pub record Orders : Type 0 where
  pub blocks : ℕ
  pub possible : ℕ → Bool
  pub figure : ℕ → ℕ

abbrev pub no_incumbent : Option Incumbent
no_incumbent = None

-- The order number of an incumbent, and 0 where there is none.
abbrev pub order_of : Option Incumbent → ℕ
order_of None = 0
order_of (Some b) = b.order

-- Whether a figure is smaller than that of the incumbent, if there is one.
abbrev pub below : ℕ → Option Incumbent → Bool
below v None = true
below v (Some b) = ltb v b.figure

unfoldable pub improves : Orders → ℕ → Option Incumbent → Bool
improves O w b = O.possible w && below (O.figure w) b

unfoldable pub tried : Orders → ℕ → Option Incumbent → Option Incumbent
tried O w b = cond (improves O w b) (Some (record { figure = O.figure w; order = w })) b

-- A child is searched where there is one.
abbrev pub if_any : Bool → (Option Incumbent → Option Incumbent) → Option Incumbent → Option Incumbent
if_any true child b = child b
if_any false child b = b

-- The incumbent after all proper orders that begin with x, which lacks `left` of its passes: those with a first pass next, then those with a second pass next.
unfoldable pub searched : Orders → ℕ → ℕ → Option Incumbent → Option Incumbent
searched O zero x b = tried O x b
searched O (suc left) x b =
    let k : ℕ = 2 * O.blocks - suc left in
    if_any (ltb (seconds x k) (firsts x k)) (searched O left (x + 2 ^ k)) (if_any (ltb (firsts x k) O.blocks) (searched O left x) b)
