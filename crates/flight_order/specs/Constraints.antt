-- The constraints of a flight in one pass order. The passes are numbered (crate order, Passes): the first pass of block i is pass i, its second pass is
-- pass n + i.
-- A delay may be anything from `shortest` to `longest` (02, Req 07; an exact delay is a window of one value), and `turn` passes between the end of a pass and
-- the start of the next (02, Req 06). In the literature: coupled tasks on one machine with minimum and maximum time lags; a turn is a minimum time lag between
-- passes.
use Rattle.std.specs.Prelude.{Bool, false, cond, List, ℕ, ◌+◌, ◌-◌, ◌*◌, ltb, eqb, get_or}
use Rattle.order.specs.Passes.{pass_at, time_of}
use Rattle.difference.specs.System.{System, value, least_values, solvable}
use Rattle.sheet.specs.declared.FlightSection.{FlightSection}
use Rattle.difference.specs.declared.Constraint.{Constraint}
use Rattle.flight_order.specs.declared.Blocks.{Blocks}

pub record OrderedFlight : Type 0 where
  pub blocks : ℕ
  pub order : ℕ
  pub turn : ℕ
  pub first : List ℕ
  pub second : List ℕ
  pub shortest : List ℕ
  pub longest : List ℕ

abbrev pub ordered_flight : ℕ → ℕ → ℕ → List ℕ → List ℕ → List ℕ → List ℕ → OrderedFlight
ordered_flight n order turn first second shortest longest =
    record { blocks = n; order = order; turn = turn; first = first; second = second; shortest = shortest; longest = longest }

-- Constraint k: for each block the shortest delay, for each block the longest delay, then for each position but the last the pass after it.
unfoldable pub constraint_of : OrderedFlight → ℕ → Constraint
constraint_of F k =
    cond (ltb k F.blocks)
    (record { from = k; to = F.blocks + k; up = get_or F.first k 0 + get_or F.shortest k 0; down = 0 })
    (cond (ltb k (2 * F.blocks))
    (record { from = k; to = k - F.blocks; up = 0; down = get_or F.first (k - F.blocks) 0 + get_or F.longest (k - F.blocks) 0 })
    (record {
      from = pass_at F.blocks F.order (k - 2 * F.blocks);
      to = pass_at F.blocks F.order (k - 2 * F.blocks + 1);
      up = time_of F.blocks F.first F.second (pass_at F.blocks F.order (k - 2 * F.blocks)) + F.turn;
      down = 0;
    }))

abbrev pub system_for : OrderedFlight → System
system_for F = record {
  variables = 2 * F.blocks;
  count = 4 * F.blocks - 1;
  from = λ k. (constraint_of F k).from;
  to = λ k. (constraint_of F k).to;
  up = λ k. (constraint_of F k).up;
  down = λ k. (constraint_of F k).down;
}

-- The flight of a sheet in an order.
abbrev pub flight_in : FlightSection → ℕ → OrderedFlight
flight_in f order = ordered_flight f.blocks order f.turn f.first f.second f.shortest f.longest

-- The flight section of n blocks, with a turn, without an order; and that of blocks that are lent.
abbrev pub free_section : ℕ → ℕ → List ℕ → List ℕ → List ℕ → List ℕ → FlightSection
free_section n turn first second shortest longest =
    record {
      blocks = n;
      turn = turn;
      first = first;
      shortest = shortest;
      longest = longest;
      second = second;
      ordered = false;
      order = 0;
      place = 0;
    }

abbrev pub section_of : Blocks → FlightSection
section_of b = free_section b.count b.turn b.first.now b.second.now b.shortest.now b.longest.now

-- The least start of each pass, by its number, and whether a timetable keeps the order at all.
unfoldable pub least_starts : FlightSection → ℕ → List ℕ
least_starts f order = least_values (system_for (flight_in f order))

unfoldable pub possible_in : FlightSection → ℕ → Bool
possible_in f order = solvable (system_for (flight_in f order))

-- The end of the last pass (in the literature: the makespan), which in every proper order is the second pass of the last block; 0 where there is no block.
unfoldable pub order_figure : FlightSection → ℕ → ℕ
order_figure f order =
    cond (eqb f.blocks 0) 0 (value (least_starts f order) (2 * f.blocks - 1) + get_or f.second (f.blocks - 1) 0)
