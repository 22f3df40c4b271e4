-- `is_due` meets its contract: a length is among those that are due exactly where it is one of them.
use Rattle.sheet_lengths.proofs.Lengths.{compared}
use Rattle.sheet_lengths.proofs.is_due.Goals as goal

pub returns-in-Bytes : goal.returns-in-Bytes
returns-in-Bytes c = search compared

pub returns-then-first-length : goal.returns-then-first-length
returns-then-first-length c = search compared

pub returns-else-first-length : goal.returns-else-first-length
returns-else-first-length c = search compared

pub returns-in-None : goal.returns-in-None
returns-in-None c = search compared
