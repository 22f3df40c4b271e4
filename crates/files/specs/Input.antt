-- What of a buffer counts after reading. Which bytes a read of the system delivers no definition can say: `GivesAll` speaks of readers that say it.
use Rattle.std.specs.Prelude.{ℕ, ◌+◌, ◌≤◌, ◌≡◌, refl, true, false, List, take, Option, Result, Ok, Err, IfSome}
use Rattle.std.proofs.Common.{sym, arith, length-take-le}
use Rattle.std.proofs.Math.ListN as lists
use Rattle.io.specs.Counts.{IsPrefixLen}
use Rattle.std.specs.declared.io.Error.{Error}
use Rattle.files.specs.declared.Received.{Received}

-- one read: what was read before it stays, and what it adds lies within the buffer
pub record Piece (at : ℕ) (before after : List ℕ) (r : Received) : Type 0 where
  pub kept : take at after ≡ take at before
  pub within : at + r.length ≤ lists.length after

-- what a failure gives
abbrev pub nothing : Received
nothing = record { length = 0; failed = true }

-- what a read is to a program: the number of its bytes, or a failure
abbrev pub received : Result ℕ Error → Received
received (Ok n) = record { length = n; failed = false }
received (Err e) = nothing

-- a whole input: at most as many bytes as the buffer has, and none where it failed
pub record Whole (buffer : List ℕ) (r : Received) : Type 0 where
  pub counts : IsPrefixLen r.length buffer
  pub none : r.failed ≡ true → r.length ≡ 0

-- Of a reader whose bytes are known, what counts of the buffer is all of them, or as many as the buffer takes.
abbrev pub GivesAll : Option (List ℕ) → List ℕ → Received → Type 0
GivesAll known buffer r = r.failed ≡ false → IfSome known (λ xs. take r.length buffer ≡ take (lists.length buffer) xs)

pub whole_none : (buffer : List ℕ) (r : Received) → r ≡ nothing → Whole buffer r
whole_none buffer r e = rw e (record { counts = (omega arith, refl); none = λ h. refl })

pub whole_read : (buffer : List ℕ) (n : ℕ) → n ≤ lists.length buffer → Whole buffer (record { length = n; failed = false })
whole_read buffer n h = record { counts = (h, sym (length-take-le n buffer h)); none = λ e. let z : ◌≡◌ {A = ℕ} 0 1 = cc in omega arith }

-- an input that ended: the last read added nothing
pub whole_ended : (n : ℕ) (before buffer : List ℕ) (r : Received) → Piece n before buffer r → Whole buffer (record { length = n; failed = false })
whole_ended n before buffer r p = whole_read buffer n (let w = p.within in omega arith)
