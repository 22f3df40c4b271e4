-- `window_ordered` meets its contract: the two numbers that are read are the bounds of the window; a field of another tag has none.
use Rattle.sheet_checks.specs.NumberLaws.{window_read, no_window}
use Rattle.sheet_checks.proofs.window_ordered.Goals as goal

pub returns-then-tag-eq-FLIGHT_WINDOW_BLOCK : goal.returns-then-tag-eq-FLIGHT_WINDOW_BLOCK
returns-then-tag-eq-FLIGHT_WINDOW_BLOCK c = search window_read

pub returns : goal.returns
returns c = search no_window
