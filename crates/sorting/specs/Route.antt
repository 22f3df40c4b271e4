-- What holds along a way through the search: the states that a list of desks reaches, for any list that serves strips that are there.
use Rattle.std.specs.Prelude.{List}
use Prim.Native.Nat.{ℕ, ◌<◌}
use Rattle.interleaving.specs.declared.State.{State}
use Rattle.interleaving.specs.Search.{StripLeft}
use Rattle.sorting.specs.Plan.{reached}

-- every desk of the list has a strip left when it is served
abbrev pub Serves : List ℕ → State → (ℕ → ℕ) → ℕ → Type 0
Serves J s f n = (i : ℕ) → i < n → (f i < 3) × StripLeft J (reached J s f i) (f i)
