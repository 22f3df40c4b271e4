-- `station_sum` meets its contract. Invariant: `sum` is the sum of the first i times of the station, each at most the greatest time.
use Prim.Native.Nat.{◌+◌, ◌*◌}
use lib.ListN.{get_or}
use Rattle.running.specs.FunctionLaws.{Summed}
use Rattle.sheet.specs.Limits.{most_time}
use Rattle.running.proofs.mosaic.station_sum.Given as goal

abbrev pub invariant-loop-i : goal.invariant-loop-i
invariant-loop-i l = Summed (λ i. get_or l.m.station (4 * i + l.k) 0) most_time l.j l.i l.sum
