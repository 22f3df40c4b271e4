-- A window is a choice of exact delays (02, Req 07: "an exact delay being a window of one value"): a timetable of a flight is one of the same flight with some
-- choice of delays in its windows, and conversely.
-- The idea: the delays chosen are those that lie between the two starts of each block.
use Rattle.std.specs.Prelude.{ℕ, ◌+◌, ◌-◌, ◌≤◌, ◌<◌, ◌≡◌, List, get_or}
use Rattle.sheet.specs.declared.FlightSection.{FlightSection}
use Rattle.rules.specs.Flight.{FlightUnder}
use Rattle.rules.specs.declared.Passes.{Passes}

-- the flight with these exact delays in the place of its windows
abbrev pub with_delays : List ℕ → FlightSection → FlightSection
with_delays delays f =
    record {
      blocks = f.blocks;
      turn = f.turn;
      first = f.first;
      shortest = delays;
      longest = delays;
      second = f.second;
      ordered = f.ordered;
      order = f.order;
      place = f.place;
    }

-- a choice of delays: one in the window of each block
pub record DelaysChosen (f : FlightSection) (delays : List ℕ) : Type 0 where
  pub at_least : (i : ℕ) → i < f.blocks → get_or f.shortest i 0 ≤ get_or delays i 0
  pub at_most : (i : ℕ) → i < f.blocks → get_or delays i 0 ≤ get_or f.longest i 0

-- a choice of delays with which passes are a timetable under the ceiling c
pub record ChoiceKept (c : ℕ) (f : FlightSection) (ps : List Passes) : Type 0 where
  pub delays : List ℕ
  pub chosen : DelaysChosen f delays
  pub under : FlightUnder c (with_delays delays f) ps
