-- The passes written block by block into zeros.
use mathlib.Core.Path.{◌≡◌, refl, ap, ◌∙◌}
use mathlib.Core.List.{List, [], ◌∷◌, ◌++◌}
use Prim.Native.Nat.{ℕ, zero, suc, ◌+◌, ◌<◌}
use native.Mathlib.Numerals.{add-one}
use native.Mathlib.Omega.{arith}
use lib.ListN.{length, get_or, set, replicate, length-set}
use lib.Seq.{get_or-set_other}
use Rattle.std.proofs.lemmas.List.{take_more_set}
use Rattle.base.specs.Listed.{listed}
use Rattle.rules.specs.Flight.{no_passes}
use Rattle.rules.specs.declared.Passes.{Passes}
use Rattle.flight.specs.Clauses.{PassesAtPre, PassesAt}

pub none_at : (n k : ℕ) → get_or (replicate n no_passes) k no_passes ≡ no_passes
none_at zero k = refl
none_at (suc n) zero = refl
none_at (suc n) (suc k) = none_at n k

pub record Copying (starts : List ℕ) (n i : ℕ) (blocks : List Passes) : Type 0 where
  pub long : length blocks ≡ 32
  pub done : PassesAt starts n i blocks

pub copy_start : (starts : List ℕ) (n : ℕ) → Copying starts n 0 (replicate 32 (record { first = 0; second = 0 }))
unfolding listed no_passes
copy_start starts n = record { long = refl; done = record { passes = refl; no_more = λ k l. none_at 32 k } }

pub copy_more : {starts : List ℕ} {n i : ℕ} {blocks : List Passes} → PassesAtPre starts n → Copying starts n i blocks → i < n
    → Copying starts n (i + 1) (set blocks i (record { first = get_or starts i 0; second = get_or starts (n + i) 0 }))
unfolding listed
copy_more {starts} {n} {i} {blocks} pre c l = record {
  long = length-set blocks i _ ∙ c.long;
  done = record {
    passes =
        take_more_set blocks i _ (omega (arith, c.long, pre.few))
        ∙ rw (add-one i) (ap (λ (ps : List Passes). ps ++ (record { first = get_or starts i 0; second = get_or starts (n + i) 0 } ∷ [])) c.done.passes);
    no_more = λ k h. get_or-set_other blocks i k _ no_passes (omega arith) ∙ c.done.no_more k (omega arith);
  };
}
