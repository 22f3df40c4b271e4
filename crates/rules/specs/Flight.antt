-- The rules of the flight (01, "The three sets of rules", and "The sheet" for the order number; 02, Req 06, for the turn, and Req 07 for the window). In the
-- literature: coupled tasks on one machine with minimum and maximum time lags, exact delays among them; a turn is a minimum time lag between passes.
use Rattle.std.specs.Prelude.{ℕ, ◌+◌, ◌-◌, ◌*◌, ◌≤◌, ◌<◌, ◌≡◌, true, cond, List, ◌⊎◌, length, get_or, ltb}
use Rattle.order.specs.Order.{Proper}
use Rattle.order.specs.Passes.{pass_at, time_of}
use Rattle.sheet.specs.Limits.{ceiling}
use Rattle.sheet.specs.declared.FlightSection.{FlightSection}
use Rattle.base.specs.Sums.{greatest_over}
use Rattle.rules.specs.declared.Passes.{Passes}

-- the starts of block i, from 0
unfoldable pub no_passes : Passes
no_passes = record { first = 0; second = 0 }

unfoldable pub passes_at : List Passes → ℕ → Passes
passes_at ps i = get_or ps i no_passes

-- The passes of n blocks are numbered: the first pass of block i is pass i, its second pass is pass n + i.
unfoldable pub pass_start : FlightSection → List Passes → ℕ → ℕ
pass_start f ps p = cond (ltb p f.blocks) (passes_at ps p).first (passes_at ps (p - f.blocks)).second

unfoldable pub pass_time : FlightSection → ℕ → ℕ
pass_time f p = time_of f.blocks f.first f.second p

unfoldable pub pass_end : FlightSection → List Passes → ℕ → ℕ
pass_end f ps p = pass_start f ps p + pass_time f p

-- "A second pass starts exactly l after its first ends": when the second pass of block i starts with a delay l
unfoldable pub second_due : FlightSection → ℕ → Passes → ℕ → ℕ
second_due f i p l = p.first + get_or f.first i 0 + l

-- 02, Req 07: "any interval between two bounds". The delay lies in the window of block i, both ends included; an exact delay is a window of one value.
pub record DelayKept (f : FlightSection) (i : ℕ) (p : Passes) : Type 0 where
  pub at_least : second_due f i p (get_or f.shortest i 0) ≤ p.second
  pub at_most : p.second ≤ second_due f i p (get_or f.longest i 0)

-- "No two passes overlap"; 02, Req 06: "Each pass starts at least g after the pass before it ends, whichever blocks they belong to": from when on another pass
-- may start after pass p. With g of 0 "one may start the second another ends".
unfoldable pub clear_at : FlightSection → List Passes → ℕ → ℕ
clear_at f ps p = pass_end f ps p + f.turn

-- pass q comes after pass p, clear of it
abbrev pub Clear : FlightSection → List Passes → ℕ → ℕ → Type 0
Clear f ps p q = clear_at f ps p ≤ pass_start f ps q

-- said of every pair of passes: one of the two comes after the other, clear of it. It is the same to say it of each pass and the next one in the order that is
-- kept (rules_laws, Turns.antt).
abbrev pub AllApart : FlightSection → List Passes → Type 0
AllApart f ps = (p q : ℕ) → p < 2 * f.blocks → q < 2 * f.blocks → (p ≡ q → ⊥) → Clear f ps p q ⊎ Clear f ps q p

-- a timetable of the flight under the ceiling c
pub record FlightUnder (c : ℕ) (f : FlightSection) (ps : List Passes) : Type 0 where
  pub every_block : length ps ≡ f.blocks
  pub delay_kept : (i : ℕ) → i < f.blocks → DelayKept f i (passes_at ps i)
  pub apart : AllApart f ps
  -- "all starts and finishes are whole numbers from 0" to the ceiling
  pub within : (p : ℕ) → p < 2 * f.blocks → pass_end f ps p ≤ c

-- "In an allowed plan all starts and finishes are whole numbers from 0 to 10,000,000": the same under that ceiling
abbrev pub FlightLawful : FlightSection → List Passes → Type 0
FlightLawful f ps = FlightUnder ceiling f ps

-- "a flight timetable keeps an order where its passes, taken by start, come in that order"
pub record Keeps (f : FlightSection) (order : ℕ) (ps : List Passes) : Type 0 where
  pub by_start : (j k : ℕ) → j < k → k < 2 * f.blocks → pass_start f ps (pass_at f.blocks order j) < pass_start f ps (pass_at f.blocks order k)

-- "A given order must be kept; otherwise any proper order may be chosen."
pub record OrderAllowed (f : FlightSection) (order : ℕ) : Type 0 where
  pub proper : Proper f.blocks order
  pub as_given : f.ordered ≡ true → order ≡ f.order

-- "Figure: the end of the last pass." (in the literature: makespan)
unfoldable pub flight_figure : FlightSection → List Passes → ℕ
flight_figure f ps = greatest_over (2 * f.blocks) (λ p. pass_end f ps p)
