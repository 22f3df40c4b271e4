-- `sorting::writing::digit` meets its contract. The loop's invariant: the rest is the number without its last i digits.
use Prim.Native.Nat.{◌/◌, ◌^◌}
use mathlib.Core.Path.{◌≡◌}
use Rattle.sorting.proofs.writing.digit.Given as goal

abbrev pub invariant-loop-i : goal.invariant-loop-i
invariant-loop-i l = l.rest ≡ l.path / 4 ^ l._i
