-- The four ways of the search at a beginning, as the code takes them, with `left` passes to come at position 2 n - left.
use mathlib.Core.Path.{◌≡◌, sym, ap, ◌∙◌}
use mathlib.Core.List.{List}
use Prim.Native.Nat.{ℕ, suc, ◌+◌, ◌-◌, ◌*◌, ◌^◌, ◌≤◌, ◌<◌}
use native.Mathlib.Omega.{arith}
use lib.ListN.{length}
use Rattle.order.specs.Order.{seconds, firsts}
use Rattle.order.specs.Seconds.{firsts_seconds}
use Rattle.order.specs.Beginning.{Beginning}
use Rattle.order.specs.Children.{first_child, second_child, whole_proper}
use Rattle.std.specs.Prelude.{Option}
use Rattle.difference.specs.declared.Constraint.{Constraint}
use Rattle.sheet.specs.declared.FlightSection.{FlightSection}
use Rattle.flight_search.specs.Search.{Orders, tried, searched}
use Rattle.flight_search.specs.Orders.{orders_of}
use Rattle.flight_search.specs.Searched.{searched_end, searched_both, searched_first, searched_second}
use Rattle.flight_search.specs.Clauses.{SearchRoom, TryOrderPre, SearchPre}
use Rattle.flight_search.specs.declared.Incumbent.{Incumbent}

room_again : {f : FlightSection} {rows₀ rows : List Constraint} {starts₀ starts : List ℕ} → SearchRoom f rows₀ starts₀
    → length rows ≡ length rows₀ → length starts ≡ length starts₀ → SearchRoom f rows starts
room_again r e d = record { times = r.times; rows_length = e ∙ r.rows_length; starts_length = d ∙ r.starts_length }

-- What are not first passes are second passes.
others : (n left x a b : ℕ) → a ≡ firsts x (2 * n - left) → b ≡ 2 * n - left - a → b ≡ seconds x (2 * n - left)
others n left x a b e d = omega (arith, firsts_seconds x (2 * n - left))

pub firsts_few : (n left x a : ℕ) → a ≡ firsts x (2 * n - left) → a ≤ 2 * n - left
firsts_few n left x a e = omega (arith, firsts_seconds x (2 * n - left))

-- Where every first pass is taken, a second pass is left.
second_left : (n left x : ℕ) → (left ≡ 0 → ⊥) → left ≤ 2 * n → n ≤ firsts x (2 * n - left) → seconds x (2 * n - left) < firsts x (2 * n - left)
second_left n left x more within l = omega (arith, more, firsts_seconds x (2 * n - left))

module _ {f : FlightSection} {left x : ℕ} {rows₀ : List Constraint} {starts₀ : List ℕ} (pre : SearchPre f left x rows₀ starts₀) where
  pub try_order_pre : left ≡ 0 → TryOrderPre f x rows₀ starts₀
  try_order_pre e = record { room = pre.room; proper = whole_proper (rw whole at pre.begun) }
    where
      whole : 2 * f.blocks - left ≡ 2 * f.blocks
      whole = omega arith

  module _ (more : left ≡ 0 → ⊥) where
    pub append_within : 2 * f.blocks - left < 64
    append_within = omega (arith, more, pre.room.times.few, pre.room.times.some)

    pub append_short : x < 2 ^ (2 * f.blocks - left)
    append_short = pre.begun.no_higher

    next : 2 * f.blocks - left + 1 ≡ 2 * f.blocks - (left - 1)
    next = omega (arith, more, pre.within)

    short : left - 1 ≤ 2 * f.blocks
    short = omega (arith, pre.within)

    pub first_search_pre : (a : ℕ) → a ≡ firsts x (2 * f.blocks - left) → a < f.blocks → SearchPre f (left - 1) x rows₀ starts₀
    first_search_pre a e l = record { room = pre.room; within = short; begun = rw next at (first_child pre.begun (omega arith)) }

    second_begun : (y : ℕ) → seconds x (2 * f.blocks - left) < firsts x (2 * f.blocks - left) → y ≡ x + 2 ^ (2 * f.blocks - left) → Beginning f.blocks (2 * f.blocks - (left - 1)) y
    second_begun y l e = rw e (rw next at (second_child pre.begun l))

    pub only_second_search_pre : (a y : ℕ) → a ≡ firsts x (2 * f.blocks - left) → f.blocks ≤ a → y ≡ x + 2 ^ (2 * f.blocks - left)
        → SearchPre f (left - 1) y rows₀ starts₀
    only_second_search_pre a y e l d =
        record { room = pre.room; within = short; begun = second_begun y (second_left f.blocks left x more pre.within (omega arith)) d }

    pub second_search_pre : {rows : List Constraint} {starts : List ℕ} → length rows ≡ length rows₀ → length starts ≡ length starts₀
        → (a b y : ℕ) → a ≡ firsts x (2 * f.blocks - left) → b ≡ 2 * f.blocks - left - a → b < a → y ≡ x + 2 ^ (2 * f.blocks - left)
        → SearchPre f (left - 1) y rows starts
    second_search_pre lr ls a b y e d l s = record { room = room_again pre.room lr ls; within = short; begun = second_begun y (omega (arith, others f.blocks left x a b e d)) s }

-- What each way gives.
module _ (f : FlightSection) (left x : ℕ) (more : left ≡ 0 → ⊥) (best r : Option Incumbent) where
  step : left ≡ suc (left - 1)
  step = omega (arith, more)

  abbrev O : Orders
  O = orders_of f

  pub only_second : left ≤ 2 * f.blocks → (a y : ℕ) → a ≡ firsts x (2 * f.blocks - left) → f.blocks ≤ a → y ≡ x + 2 ^ (2 * f.blocks - left)
      → r ≡ searched (orders_of f) (left - 1) y best
      → r ≡ searched (orders_of f) left x best
  unfolding orders_of
  only_second within a y e l d q =
      q
      ∙ ap (λ (z : ℕ). searched O (left - 1) z best) d
      ∙ sym (rw (← step) at (searched_second O (left - 1) x best (rw (← step, ← e) l) (rw (← step) (second_left f.blocks left x more within (omega arith)))))

  pub only_first : (a b : ℕ) → a ≡ firsts x (2 * f.blocks - left) → b ≡ 2 * f.blocks - left - a → a < f.blocks → a ≤ b
      → r ≡ searched (orders_of f) (left - 1) x best
      → r ≡ searched (orders_of f) left x best
  unfolding orders_of
  only_first a b e d h l q =
      q ∙ sym (rw (← step) at (searched_first O (left - 1) x best (rw (← step, ← e) h) (rw (← step, ← e, ← others f.blocks left x a b e d) l)))

  pub first_then_second : (after : Option Incumbent) (a b y : ℕ) → a ≡ firsts x (2 * f.blocks - left) → b ≡ 2 * f.blocks - left - a → a < f.blocks → b < a
      → y ≡ x + 2 ^ (2 * f.blocks - left)
      → after ≡ searched (orders_of f) (left - 1) x best
      → r ≡ searched (orders_of f) (left - 1) y after
      → r ≡ searched (orders_of f) left x best
  unfolding orders_of
  first_then_second after a b y e d h l s p q =
      q
      ∙ ap (searched O (left - 1) y) p
      ∙ ap (λ (z : ℕ). searched O (left - 1) z (searched O (left - 1) x best)) s
      ∙ sym (rw (← step) at (searched_both O (left - 1) x best (rw (← step, ← e) h) (rw (← step, ← e, ← others f.blocks left x a b e d) l)))

pub search_end : (O : Orders) (left x : ℕ) (best r : Option Incumbent) → left ≡ 0 → r ≡ tried O x best → r ≡ searched O left x best
search_end O left x best r e q = q ∙ sym (searched_end O x best) ∙ ap (λ (m : ℕ). searched O m x best) (sym e)
