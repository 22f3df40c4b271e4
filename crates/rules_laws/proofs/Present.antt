-- A section of a sheet is present where it has a member: what stands then, what stands else, and how long it is.
use Rattle.std.specs.Prelude.{◌≡◌, Bool, List, [], ℕ, ◌≤◌, ◌<◌, ltb}
use Rattle.std.proofs.Math.Path.{refl}
use Rattle.std.proofs.Math.Bool.{true, false, cond}
use native.Mathlib.Omega.{arith}
use Rattle.std.proofs.Math.ListN.{length}
use Rattle.std.proofs.Common.{lt-ltb, le-ltb}
use Rattle.rules.specs.Plan.{if_present}

module _ {A : Type 0} (n : ℕ) (l : List A) where
  pub present_some : 0 < n → if_present n l ≡ l
  unfolding if_present
  present_some h = rw (lt-ltb 0 n h)

  pub present_none : n < 1 → if_present n l ≡ []
  unfolding if_present
  present_none h = rw (le-ltb 0 n (omega arith))

  pub present_length : length (if_present n l) ≡ cond (ltb 0 n) (length l) 0
  unfolding if_present
  present_length = go (ltb 0 n)
    where
      go : (b : Bool) → length (cond b l []) ≡ cond b (length l) 0
      go true = refl
      go false = refl

  pub present_most : length (if_present n l) ≤ length l
  unfolding if_present
  present_most = go (ltb 0 n)
    where
      go : (b : Bool) → length (cond b l []) ≤ length l
      go true = omega arith
      go false = omega arith
