-- The answer of the flight planner to C: a plan without its passes.
use Rattle.std.specs.Prelude.{◌≡◌, Bool, List, ℕ}
use Rattle.sheet.specs.declared.FlightSection.{FlightSection}
use Rattle.flight.specs.Choice.{is_possible, least_figure, chosen_order}
use Rattle.flight_bench.specs.declared.FlightAnswer.{FlightAnswer}

abbrev pub section_of : ℕ → ℕ → List ℕ → List ℕ → List ℕ → List ℕ → Bool → ℕ → FlightSection
section_of n turn first shortest longest second ordered order =
    record {
      blocks = n;
      turn = turn;
      first = first;
      shortest = shortest;
      longest = longest;
      second = second;
      ordered = ordered;
      order = order;
      place = 0;
    }

pub record Answered (f : FlightSection) (r : FlightAnswer) : Type 0 where
  pub possible : r.possible ≡ is_possible f
  pub figure : r.figure ≡ least_figure f
  pub order : r.order ≡ chosen_order f
