-- Where a completion is below both incumbents, the search returns the same: the first best.
use Rattle.std.specs.Prelude.{◌≡◌, List, ◌⊎◌}
use Rattle.std.proofs.Math.Path.{sym, ap}
use Rattle.std.proofs.Common.{◌∙◌}
use Rattle.std.proofs.Math.Logic.{inl, inr}
use Prim.Native.Nat.{ℕ, ◌≤◌, ◌<◌}
use native.Mathlib.Omega.{arith}
use Rattle.interleaving.specs.declared.State.{State}
use Rattle.interleaving.specs.declared.Incumbent.{Incumbent}
use Rattle.interleaving.specs.Search.{search_from, Completes}
use Rattle.interleaving.proofs.SearchLaws.{search_bound}
use Rattle.interleaving.specs.Completion.{Attained}
use Rattle.interleaving.proofs.Completion.{same_incumbent, bound_completes, search_attains, search_first}

module _ (J : List ℕ) where
  -- where a completion is below both incumbents, the search returns the same: the first best
  pub any_incumbent : (k : ℕ) (s : State) (b c : Incumbent) (e : State) → Completes J k s e → e.cost < b.figure → e.cost < c.figure → b.path ≤ 0
      → c.path ≤ 0 → search_from J k s b ≡ search_from J k s c
  any_incumbent k s b c e q l m z y = go (search_attains J k s b) (search_attains J k s c)
    where
      x : Incumbent
      x = search_from J k s b

      w : Incumbent
      w = search_from J k s c

      below : (a : Incumbent) → (search_from J k s a).figure ≤ e.cost
      below a = bound_completes J k s _ (search_bound J k s a) e q

      go : (x ≡ b) ⊎ Attained J k s x → (w ≡ c) ⊎ Attained J k s w → x ≡ w
      go (inl p) r = absurd (omega (arith, below b, ap (λ (i : Incumbent). i.figure) p))
      go (inr p) (inl r) = absurd (omega (arith, below c, ap (λ (i : Incumbent). i.figure) r))
      go (inr p) (inr r) = same_incumbent x w figures paths
        where
          figures : x.figure ≡ w.figure
          figures =
              omega (arith, bound_completes J k s _ (search_bound J k s b) r.end r.ends, r.figure, bound_completes J k s _ (search_bound J k s c) p.end p.ends, p.figure)

          paths : x.path ≡ w.path
          paths =
              omega (arith, search_first J k s b (omega arith) r.end r.ends (figures ∙ r.figure), r.path, search_first J k s c (omega arith) p.end p.ends (sym figures ∙ p.figure), p.path)
