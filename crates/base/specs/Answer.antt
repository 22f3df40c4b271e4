-- The answer of a call that writes into a lent buffer: its number, its place and the length written.
use Rattle.std.specs.Prelude.{ℕ, List, take}
use Rattle.base.specs.declared.Answer.{Answer}

abbrev pub answer : ℕ → ℕ → ℕ → Answer
answer number place length = record { number = number; place = place; length = length }

-- the bytes that an accepted call has written: the first of its buffer at exit, as many as its answer says
unfoldable pub written : Answer → List ℕ → List ℕ
written r after = take r.length after
