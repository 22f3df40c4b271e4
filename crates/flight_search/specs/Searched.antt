-- Laws of the search: its result is a proper order that is possible, with its figure, and no proper order that is possible has a smaller one.
-- An incumbent that is as good as an order stays so, and each proper order goes on through one child of each of its beginnings.
use Rattle.std.specs.Prelude.{◌≡◌, Bool, cond, ◌&&◌, Option, None, Some, ⊤, ltb}
use Rattle.std.proofs.Math.Path.{refl}
use Rattle.std.proofs.Common.{sym, true≢false}
use Rattle.std.proofs.Math.Bool.{true, false}
use Prim.Native.Nat.{ℕ, zero, suc, ◌+◌, ◌-◌, ◌*◌, ◌^◌, ◌≤◌, ◌<◌}
use native.Mathlib.Omega.{arith}
use borrow.Author.Tests.{lt-ltb, le-ltb, ltb-true, ltb-false}
use Rattle.difference.specs.Least.{both}
use Rattle.order.specs.Order.{seconds, firsts, Proper}
use Rattle.order.specs.Beginning.{Beginning, Extends, Through, by_first, by_second}
use Rattle.order.specs.Children.{beginning_empty, first_child, second_child, whole_proper, extends_empty, extends_whole, through_child}
use Rattle.flight_search.specs.Search.{Orders, no_incumbent, order_of, below, improves, tried, if_any, searched}
use Rattle.flight_search.specs.declared.Incumbent.{Incumbent}

-- An incumbent is a proper order that is possible, with its figure.
pub record IsAttained (O : Orders) (b : Incumbent) : Type 0 where
  pub proper : Proper O.blocks b.order
  pub possible : O.possible b.order ≡ true
  pub figure : b.figure ≡ O.figure b.order

-- The same of the incumbent, if there is one.
abbrev pub Attained : Orders → Option Incumbent → Type 0
Attained O None = ⊤
Attained O (Some b) = IsAttained O b

-- There is an incumbent, and its figure is no greater than that of w.
abbrev pub AsGood : Orders → ℕ → Option Incumbent → Type 0
AsGood O w None = ⊥
AsGood O w (Some b) = b.figure ≤ O.figure w

-- One order tried.
last_false : (p q : Bool) → p && q ≡ false → p ≡ true → q ≡ false
last_false true q e d = e
last_false false q e d = absurd (true≢false (sym d))

module _ (O : Orders) (w : ℕ) where
  abbrev with_w : Bool → Option Incumbent → Option Incumbent
  with_w i b = cond i (Some (record { figure = O.figure w; order = w })) b

  pub tried_attained : (b : Option Incumbent) → Proper O.blocks w → Attained O b → Attained O (tried O w b)
  unfolding tried improves
  tried_attained b proper a = go (improves O w b) refl
    where
      go : (i : Bool) → improves O w b ≡ i → Attained O (with_w i b)
      go true e = record { proper = proper; possible = (both (O.possible w) (below (O.figure w) b) e).0; figure = refl }
      go false e = a

  pub tried_good : (b : Option Incumbent) → O.possible w ≡ true → AsGood O w (tried O w b)
  unfolding tried improves
  tried_good b p = go b (improves O w b) refl
    where
      go : (c : Option Incumbent) (i : Bool) → improves O w c ≡ i → AsGood O w (with_w i c)
      go c true e = omega arith
      go None false e = absurd (true≢false (last_false (O.possible w) true e p))
      go (Some c) false e = ltb-false _ _ (last_false (O.possible w) (ltb (O.figure w) c.figure) e p)

  pub tried_keeps : (v : ℕ) (b : Option Incumbent) → AsGood O v b → AsGood O v (tried O w b)
  unfolding tried improves
  tried_keeps v None g = absurd g
  tried_keeps v (Some b) g = go (improves O w (Some b)) refl
    where
      go : (i : Bool) → improves O w (Some b) ≡ i → AsGood O v (with_w i (Some b))
      go true e = omega (arith, g, ltb-true (O.figure w) b.figure (both (O.possible w) (ltb (O.figure w) b.figure) e).1)
      go false e = g

-- What a child keeps, a child that may be left out keeps.
any_keeps : (P : Option Incumbent → Type 0) (t : Bool) (child : Option Incumbent → Option Incumbent) (b : Option Incumbent)
    → (t ≡ true → (c : Option Incumbent) → P c → P (child c)) → P b → P (if_any t child b)
any_keeps P true child b h p = h refl b p
any_keeps P false child b h p = p

module _ (O : Orders) where
  searched_keeps : (v left x : ℕ) (b : Option Incumbent) → AsGood O v b → AsGood O v (searched O left x b)
  unfolding searched
  searched_keeps v zero x b g = tried_keeps O x v b g
  searched_keeps v (suc left) x b g =
      let k : ℕ = 2 * O.blocks - suc left in
      any_keeps (AsGood O v) (ltb (seconds x k) (firsts x k)) (searched O left (x + 2 ^ k)) (if_any (ltb (firsts x k) O.blocks) (searched O left x) b)
      (λ _ c h. searched_keeps v left (x + 2 ^ k) c h)
      (any_keeps (AsGood O v) (ltb (firsts x k) O.blocks) (searched O left x) b (λ _ c h. searched_keeps v left x c h) g)

  searched_attained : (left k x : ℕ) (b : Option Incumbent) → k + left ≡ 2 * O.blocks → Beginning O.blocks k x → Attained O b → Attained O (searched O left x b)
  unfolding searched
  searched_attained zero k x b e g a = tried_attained O x b (whole_proper (rw whole at g)) a
    where
      whole : k ≡ 2 * O.blocks
      whole = omega arith
  searched_attained (suc left) k x b e g a =
      any_keeps (Attained O) _ _ _ (λ t c h. searched_attained left (k' + 1) (x + 2 ^ (2 * O.blocks - suc left)) c next (second_child g' (ltb-true _ _ t)) h)
      (any_keeps (Attained O) _ _ b (λ t c h. searched_attained left (k' + 1) x c next (first_child g' (ltb-true _ _ t)) h) a)
    where
      k' : ℕ
      k' = 2 * O.blocks - suc left

      same : k ≡ 2 * O.blocks - suc left
      same = omega arith

      g' : Beginning O.blocks (2 * O.blocks - suc left) x
      g' = rw same at g

      next : 2 * O.blocks - suc left + 1 + left ≡ 2 * O.blocks
      next = omega arith

  module _ (w : ℕ) (proper : Proper O.blocks w) (possible : O.possible w ≡ true) where
    searched_least : (left k x : ℕ) (b : Option Incumbent) → k + left ≡ 2 * O.blocks → Extends w k x → AsGood O w (searched O left x b)
    unfolding searched
    searched_least zero k x b e g = rw own (tried_good O w b possible)
      where
        whole : k ≡ 2 * O.blocks
        whole = omega arith

        own : x ≡ w
        own = extends_whole proper (rw whole at g)
    searched_least (suc left) k x b e g =
        go (through_child proper (omega arith) g') (λ c. searched_least left (k' + 1) x c next) (λ c. searched_least left (k' + 1) (x + 2 ^ k') c next)
      where
        k' : ℕ
        k' = 2 * O.blocks - suc left

        same : k ≡ 2 * O.blocks - suc left
        same = omega arith

        g' : Extends w (2 * O.blocks - suc left) x
        g' = rw same at g

        next : 2 * O.blocks - suc left + 1 + left ≡ 2 * O.blocks
        next = omega arith

        go : Through O.blocks w k' x
            → ((c : Option Incumbent) → Extends w (k' + 1) x → AsGood O w (searched O left x c))
            → ((c : Option Incumbent) → Extends w (k' + 1) (x + 2 ^ k') → AsGood O w (searched O left (x + 2 ^ k') c))
            → AsGood O w (searched O (suc left) x b)
        go (by_first h q) first second =
            any_keeps (AsGood O w) (ltb (seconds x k') (firsts x k')) (searched O left (x + 2 ^ k'))
            (if_any (ltb (firsts x k') O.blocks) (searched O left x) b)
            (λ _ c a. searched_keeps w left (x + 2 ^ k') c a)
            (rw (lt-ltb _ _ h) (first b q))
        go (by_second h q) first second = rw (lt-ltb _ _ h) (second _ q)

  pub search_attained : Attained O (searched O (2 * O.blocks) 0 no_incumbent)
  search_attained =
      searched_attained (2 * O.blocks) 0 0 no_incumbent (omega arith) (beginning_empty O.blocks) tt

  pub search_least : (w : ℕ) → Proper O.blocks w → O.possible w ≡ true → AsGood O w (searched O (2 * O.blocks) 0 no_incumbent)
  search_least w proper possible = searched_least w proper possible (2 * O.blocks) 0 0 no_incumbent (omega arith) (extends_empty w)

-- A proper order that is possible, and whose figure is no greater than that of w.
pub record NoWorse (O : Orders) (w v : ℕ) : Type 0 where
  pub proper : Proper O.blocks v
  pub possible : O.possible v ≡ true
  pub figure : O.figure v ≤ O.figure w

no_worse : (O : Orders) (w : ℕ) (b : Option Incumbent) → Attained O b → AsGood O w b → NoWorse O w (order_of b)
no_worse O w None a g = absurd g
no_worse O w (Some b) a g = record { proper = a.proper; possible = a.possible; figure = omega (arith, g, a.figure) }

pub search_no_worse : (O : Orders) (w : ℕ) → Proper O.blocks w → O.possible w ≡ true → NoWorse O w (order_of (searched O (2 * O.blocks) 0 no_incumbent))
search_no_worse O w proper possible = no_worse O w _ (search_attained O) (search_least O w proper possible)

-- The two steps of the search at a beginning.
pub searched_end : (O : Orders) (x : ℕ) (b : Option Incumbent) → searched O 0 x b ≡ tried O x b
unfolding searched
searched_end O x b = refl

module _ (O : Orders) (left x : ℕ) (b : Option Incumbent) where
  abbrev pub at : ℕ
  at = 2 * O.blocks - suc left

  pub searched_both : firsts x at < O.blocks → seconds x at < firsts x at
      → searched O (suc left) x b ≡ searched O left (x + 2 ^ at) (searched O left x b)
  unfolding searched
  searched_both h l = rw (lt-ltb _ _ h, lt-ltb _ _ l)

  pub searched_first : firsts x at < O.blocks → firsts x at ≤ seconds x at → searched O (suc left) x b ≡ searched O left x b
  unfolding searched
  searched_first h l = rw (lt-ltb _ _ h, le-ltb _ _ l)

  pub searched_second : O.blocks ≤ firsts x at → seconds x at < firsts x at → searched O (suc left) x b ≡ searched O left (x + 2 ^ at) b
  unfolding searched
  searched_second h l = rw (le-ltb _ _ h, lt-ltb _ _ l)
