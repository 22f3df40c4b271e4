-- What was read lies within the buffer, and is what the file has given.
use Rattle.std.proofs.Common.{◌≡◌, ◌-◌, ◌≤◌, length, take}
use Rattle.std.specs.Io.KnownBytes.{Consumes}
use Rattle.files.proofs.read_whole.Given as goal

abbrev pub invariant-loop-length : goal.invariant-loop-length
invariant-loop-length g l = record {
  within : l.length ≤ length l.buffer;
  long : length l.buffer ≡ length l.initial.buffer;
  consumed : Consumes (g.R.Read.remaining l.initial.file) (g.R.Read.remaining l.file) (take l.length l.buffer);
}

abbrev pub decreases-loop-length : goal.decreases-loop-length
decreases-loop-length g l = length l.buffer - l.length
