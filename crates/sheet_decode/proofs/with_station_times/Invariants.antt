-- `with_station_times` meets its contract. Invariant: the first k station times are stored.
use Rattle.sheet_decode.specs.DecodeLaws.{TimesStored}
use Rattle.sheet_decode.proofs.with_station_times.Given as goal

abbrev pub invariant-loop-k : goal.invariant-loop-k
invariant-loop-k l = TimesStored l.s l.c l.base l.count l.initial.times l.k l.times
