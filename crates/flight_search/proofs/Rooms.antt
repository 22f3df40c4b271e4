-- The parts of the room that are lent have the lengths that the search asks, and it starts at the empty beginning.
use mathlib.Core.Path.{◌≡◌, sym}
use mathlib.Core.List.{List}
use Prim.Native.Nat.{ℕ, ◌-◌, ◌*◌}
use native.Mathlib.Omega.{arith}
use lib.ListN.{length, take}
use lib.Seq.{length-take-le}
use Rattle.order.specs.Children.{beginning_empty}
use Rattle.difference.specs.declared.Constraint.{Constraint}
use Rattle.sheet.specs.declared.FlightSection.{FlightSection}
use Rattle.flight_search.specs.Clauses.{SearchAllPre, SearchPre}

module _ {f : FlightSection} {rows : List Constraint} {starts : List ℕ} (room : SearchAllPre f rows starts) where
  pub rows_part : 4 * f.blocks - 1 ≡ length (take (4 * f.blocks - 1) rows)
  rows_part = sym (length-take-le (4 * f.blocks - 1) rows (omega (arith, room.rows_long, room.times.few)))

  pub starts_part : 2 * f.blocks ≡ length (take (2 * f.blocks) starts)
  starts_part = sym (length-take-le (2 * f.blocks) starts (omega (arith, room.starts_long, room.times.few)))

  pub root_search_pre : SearchPre f (2 * f.blocks) 0 (take (4 * f.blocks - 1) rows) (take (2 * f.blocks) starts)
  root_search_pre = record {
    room = record { times = room.times; rows_length = sym rows_part; starts_length = sym starts_part };
    within = omega arith;
    begun = rw none (beginning_empty f.blocks);
  }
    where
      none : 2 * f.blocks - 2 * f.blocks ≡ 0
      none = omega arith
