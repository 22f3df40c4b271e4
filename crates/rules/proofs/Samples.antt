-- A test of the rules by samples: timetables, with and without idle time, that are lawful, with their figures; timetables that a rule refuses, one or more for
-- each rule; and those that only the ceiling refuses; last, two scanner lists.
-- Each timetable is tested by computing, and a test that holds says the sample in the words of the rules (tested). The sheets that 01 works through are crate
-- worked_sheets.
use Prim.{Unit, tt}
use Prim.Native.Nat.{ℕ, zero, suc, ◌-◌, ◌<◌}
use native.Mathlib.Omega.{arith}
use mathlib.Core.Path.{◌≡◌, refl, sym}
use mathlib.Core.Bool.{Bool, true, false, not, ◌&&◌, true≢false}
use mathlib.Core.List.{List, [], ◌∷◌, ◌++◌}
use lib.ListN.{length, get_or, replicate}
use lib.Dec.{eqb}
use borrow.Author.Tests.{eqb-true}
use Rattle.base.specs.Branch.{both}
use Rattle.order.specs.Order.{Decides}
use Rattle.sheet.specs.Limits.{ceiling}
use Rattle.sheet.specs.declared.MosaicSection.{MosaicSection}
use Rattle.sheet.specs.declared.SortingSection.{SortingSection}
use Rattle.sheet.specs.declared.FlightSection.{FlightSection}
use Rattle.rules.specs.Mosaic.{MosaicUnder, mosaic_figure}
use Rattle.rules.specs.Sorting.{SortingUnder, sorting_figure}
use Rattle.rules.specs.ScannerList.{ComesBefore}
use Rattle.rules.specs.Flight.{FlightUnder, Keeps, OrderAllowed, flight_figure}
use Rattle.rules.proofs.Computes.{rules_compute}
use Rattle.rules.proofs.Tests.{is_mosaic, mosaic_decided, is_sorting, sorting_decided, is_flight, flight_decided, keeps_order, keeps_decided, may_have_order}
use Rattle.rules.proofs.Tests.{order_decided}
use Rattle.rules.specs.declared.Batch.{Batch}
use Rattle.rules.specs.declared.Job.{Job}
use Rattle.rules.specs.declared.Passes.{Passes}

-- a section with a timetable, in flight with an order number
pub data Timetable : Type 0 where
  of_mosaic : MosaicSection → List Batch → Timetable
  of_sorting : SortingSection → List Job → Timetable
  of_flight : FlightSection → ℕ → List Passes → Timetable

-- it obeys the rules under the ceiling c
unfoldable pub Obeys : ℕ → Timetable → Type 0
Obeys c (of_mosaic m bs) = MosaicUnder c m bs
Obeys c (of_sorting s js) = SortingUnder c s js
Obeys c (of_flight f order ps) = FlightUnder c f ps × Keeps f order ps × OrderAllowed f order

unfoldable pub figure_of : Timetable → ℕ
figure_of (of_mosaic m bs) = mosaic_figure m bs
figure_of (of_sorting s js) = sorting_figure s js
figure_of (of_flight f order ps) = flight_figure f ps

unfoldable pub obeys : ℕ → Timetable → Bool
obeys c (of_mosaic m bs) = is_mosaic c m bs
obeys c (of_sorting s js) = is_sorting c s js
obeys c (of_flight f order ps) = is_flight c f ps && (keeps_order f order ps && may_have_order f order)

all_three : {P Q R : Type 0} {p q r : Bool} → Decides P p → Decides Q q → Decides R r → Decides (P × Q × R) (p && (q && r))
all_three {p = true} {q = true} {r = true} a b c = record { holds = λ e. (a.holds refl, b.holds refl, c.holds refl); fails = λ e w. absurd (true≢false e) }
all_three {p = true} {q = true} {r = false} a b c = record { holds = λ e. absurd (true≢false (sym e)); fails = λ e w. c.fails refl w.2 }
all_three {p = true} {q = false} {r} a b c = record { holds = λ e. absurd (true≢false (sym e)); fails = λ e w. b.fails refl w.1 }
all_three {p = false} {q} {r} a b c = record { holds = λ e. absurd (true≢false (sym e)); fails = λ e w. a.fails refl w.0 }

pub obeys_decided : (c : ℕ) (t : Timetable) → Decides (Obeys c t) (obeys c t)
unfolding Obeys obeys
obeys_decided c (of_mosaic m bs) = mosaic_decided m bs c
obeys_decided c (of_sorting s js) = sorting_decided s js c
obeys_decided c (of_flight f order ps) = all_three (flight_decided f ps c) (keeps_decided f ps order) (order_decided f order)

-- a sample: lawful with a figure; refused; or refused by the ceiling alone, and obeying the rules under a higher one
pub data Outcome : Type 0 where
  lawful : ℕ → Outcome
  refused : Outcome
  passes : ℕ → Outcome

pub record Sample : Type 0 where
  pub timetable : Timetable
  pub outcome : Outcome

-- what a sample says
unfoldable pub Says : Timetable → Outcome → Type 0
Says t (lawful figure) = Obeys ceiling t × (figure_of t ≡ figure)
Says t refused = Obeys ceiling t → ⊥
Says t (passes c) = (Obeys ceiling t → ⊥) × Obeys c t

-- its test
unfoldable pub test : Timetable → Outcome → Bool
test t (lawful figure) = obeys ceiling t && eqb (figure_of t) figure
test t refused = not (obeys ceiling t)
test t (passes c) = not (obeys ceiling t) && obeys c t

none : (a : Bool) → not a ≡ true → a ≡ false
none true e = absurd (true≢false (sym e))
none false e = refl

-- a test that holds says its sample
pub tested : (t : Timetable) (o : Outcome) → test t o ≡ true → Says t o
unfolding Says test
tested t (lawful figure) e =
    let w = both (obeys ceiling t) (eqb (figure_of t) figure) e in
    ((obeys_decided ceiling t).holds w.0, eqb-true _ _ w.1)
tested t refused e = (obeys_decided ceiling t).fails (none (obeys ceiling t) e)
tested t (passes c) e =
    let w = both (not (obeys ceiling t)) (obeys c t) e in
    ((obeys_decided ceiling t).fails (none (obeys ceiling t) w.0), (obeys_decided c t).holds w.1)

-- two stations, mount time 1, strips (2,1;1) (1,3;3) (4,2;2) (1,3;1), ready at 2, 4, 7, 9, with their weights
abbrev weighted_strips : List ℕ → MosaicSection
weighted_strips weight = record {
  stations = 2;
  mount = 1;
  strips = 4;
  station = 2 ∷ 1 ∷ 0 ∷ 0 ∷ 1 ∷ 3 ∷ 0 ∷ 0 ∷ 4 ∷ 2 ∷ 0 ∷ 0 ∷ 1 ∷ 3 ∷ 0 ∷ 0 ∷ [] ++ replicate 144 0;
  bench = 1 ∷ 3 ∷ 2 ∷ 1 ∷ [] ++ replicate 36 0;
  weight = weight ++ replicate 36 0;
}

-- the same without weights
abbrev four_strips : MosaicSection
four_strips = weighted_strips (1 ∷ 1 ∷ 1 ∷ 1 ∷ [])

-- five strips of weight 100, each with a bench time of 1, and no station or mount time
abbrev five_heavy_strips : MosaicSection
five_heavy_strips = record {
  stations = 1;
  mount = 0;
  strips = 5;
  station = replicate 160 0;
  bench = 1 ∷ 1 ∷ 1 ∷ 1 ∷ 1 ∷ [] ++ replicate 35 0;
  weight = 100 ∷ 100 ∷ 100 ∷ 100 ∷ 100 ∷ [] ++ replicate 35 0;
}

abbrev batch : ℕ → ℕ → ℕ → Batch
batch last start finish = record { last = last; start = start; finish = finish }

-- two desks with one strip each: its weight, its scan time and its desk time
abbrev weighted_desks : ℕ → ℕ → ℕ → ℕ → ℕ → ℕ → SortingSection
weighted_desks weight scan desk weight₂ scan₂ desk₂ = record {
  desks = 2;
  counts = 1 ∷ 1 ∷ 0 ∷ [];
  scan = scan ∷ 0 ∷ 0 ∷ 0 ∷ 0 ∷ 0 ∷ scan₂ ∷ [] ++ replicate 11 0;
  desk = desk ∷ 0 ∷ 0 ∷ 0 ∷ 0 ∷ 0 ∷ desk₂ ∷ [] ++ replicate 11 0;
  weight = weight ∷ 0 ∷ 0 ∷ 0 ∷ 0 ∷ 0 ∷ weight₂ ∷ [] ++ replicate 11 0;
}

-- the same without weights
abbrev two_desks : ℕ → ℕ → ℕ → ℕ → SortingSection
two_desks scan desk scan₂ desk₂ = weighted_desks 1 scan desk 1 scan₂ desk₂

-- the only strip of a desk, with its scan start and its desk start
abbrev strip : ℕ → ℕ → ℕ → Job
strip desk scan start = record { desk = desk; number = 1; scan = scan; start = start }

-- blocks: the turn between passes, and their first passes, shortest delays, longest delays and second passes
abbrev windows_of : ℕ → Bool → ℕ → List ℕ → List ℕ → List ℕ → List ℕ → FlightSection
windows_of turn ordered order first shortest longest second = record {
  blocks = length first;
  turn = turn;
  first = first ++ replicate (32 - length first) 0;
  shortest = shortest ++ replicate (32 - length shortest) 0;
  longest = longest ++ replicate (32 - length longest) 0;
  second = second ++ replicate (32 - length second) 0;
  ordered = ordered;
  order = order;
  place = 0;
}

-- the same with exact delays
abbrev blocks_of : ℕ → Bool → ℕ → List ℕ → List ℕ → List ℕ → FlightSection
blocks_of turn ordered order first delay second = windows_of turn ordered order first delay delay second

abbrev starts : ℕ → ℕ → Passes
starts first second = record { first = first; second = second }

abbrev row : Timetable → Outcome → Sample
row t o = record { timetable = t; outcome = o }

unfoldable pub samples : List Sample
samples =
    -- batches 1, 2-3, 4, each mounted as early as it may be, the first two before their last strips are ready ..
    row (of_mosaic four_strips (batch 1 0 3 ∷ batch 3 3 12 ∷ batch 4 12 14 ∷ [])) (lawful 41)
    -- .. the same mounted so late that the mount is done when the last strip is ready, which changes no finish, and later, which does
    ∷ row (of_mosaic four_strips (batch 1 1 3 ∷ batch 3 6 12 ∷ batch 4 12 14 ∷ [])) (lawful 41)
    ∷ row (of_mosaic four_strips (batch 1 3 5 ∷ batch 3 8 14 ∷ batch 4 14 16 ∷ [])) (lawful 49)
    -- bench work before the mount is done: at 9, when strip 4 is ready and the mount has started
    ∷ row (of_mosaic four_strips (batch 1 0 3 ∷ batch 4 9 15 ∷ [])) refused
    -- bench work of batch 2-3 that waits only for its first strip, ready at 4
    ∷ row (of_mosaic four_strips (batch 1 0 3 ∷ batch 3 3 9 ∷ batch 4 9 11 ∷ [])) refused
    -- a mount before the batch before has finished, at 3; its own finish is as with a mount at 3
    ∷ row (of_mosaic four_strips (batch 1 0 3 ∷ batch 2 2 7 ∷ batch 4 7 12 ∷ [])) refused
    -- a batch without strips
    ∷ row (of_mosaic four_strips (batch 4 0 16 ∷ batch 4 16 17 ∷ [])) refused
    -- a strip that no batch has
    ∷ row (of_mosaic four_strips (batch 1 0 3 ∷ batch 2 3 7 ∷ batch 3 7 10 ∷ [])) refused
    -- a finish one early, and one late
    ∷ row (of_mosaic four_strips (batch 1 0 3 ∷ batch 2 3 6 ∷ batch 4 6 12 ∷ [])) refused
    ∷ row (of_mosaic four_strips (batch 1 0 3 ∷ batch 2 3 8 ∷ batch 4 8 12 ∷ [])) refused
    -- the same where the mount is late, which finishes at 9
    ∷ row (of_mosaic four_strips (batch 1 0 3 ∷ batch 2 5 8 ∷ batch 4 8 12 ∷ [])) refused
    ∷ row (of_mosaic four_strips (batch 1 0 3 ∷ batch 2 5 10 ∷ batch 4 10 14 ∷ [])) refused
    -- a finish at the ceiling, and one past it
    ∷ row (of_mosaic four_strips (batch 4 9_999_992 10_000_000 ∷ [])) (lawful 40_000_000)
    ∷ row (of_mosaic four_strips (batch 4 9_999_993 10_000_001 ∷ [])) (passes 10_000_001)
    -- weights: each strip's own, times the finish of its batch
    ∷ row (of_mosaic (weighted_strips (5 ∷ 1 ∷ 2 ∷ 20 ∷ [])) (batch 1 0 3 ∷ batch 3 3 12 ∷ batch 4 12 14 ∷ [])) (lawful 331)
    -- a figure that four bytes do not hold
    ∷ row (of_mosaic five_heavy_strips (batch 5 9_999_995 10_000_000 ∷ [])) (lawful 5_000_000_000)
    -- a scanner that begins late, and a desk that waits
    ∷ row (of_sorting (two_desks 2 5 1 1) (strip 1 1 4 ∷ strip 2 3 9 ∷ [])) (lawful 19)
    -- a desk job before its scan has ended, two scans at once, and a strip without its job
    ∷ row (of_sorting (two_desks 2 5 1 1) (strip 1 0 1 ∷ strip 2 2 3 ∷ [])) refused
    ∷ row (of_sorting (two_desks 2 5 1 1) (strip 1 0 2 ∷ strip 2 1 3 ∷ [])) refused
    ∷ row (of_sorting (two_desks 2 5 1 1) (strip 1 0 2 ∷ [])) refused
    -- a desk's finish at the ceiling, and one past it
    ∷ row (of_sorting (two_desks 2 5 1 1) (strip 1 0 2 ∷ strip 2 2 9_999_999 ∷ [])) (lawful 10_000_007)
    ∷ row (of_sorting (two_desks 2 5 1 1) (strip 1 0 2 ∷ strip 2 2 10_000_000 ∷ [])) (passes 10_000_001)
    -- weights: each strip's own, times its desk's finish
    ∷ row (of_sorting (weighted_desks 3 2 5 7 1 1) (strip 1 1 4 ∷ strip 2 3 9 ∷ [])) (lawful 97)
    ∷ row (of_sorting (weighted_desks 3 2 5 7 1 1) (strip 2 0 1 ∷ strip 1 1 3 ∷ [])) (lawful 38)
    -- a second block that is flown later than it could be
    ∷ row (of_flight (blocks_of 0 false 0 (1 ∷ 1 ∷ []) (2 ∷ 2 ∷ []) (1 ∷ 1 ∷ [])) 0xA (starts 0 3 ∷ starts 6 9 ∷ [])) (lawful 10)
    -- a last pass that ends at the ceiling, and one past it
    ∷ row (of_flight (blocks_of 0 false 0 (3 ∷ []) (4 ∷ []) (1 ∷ [])) 2 (starts 9_999_992 9_999_999 ∷ [])) (lawful 10_000_000)
    ∷ row (of_flight (blocks_of 0 false 0 (3 ∷ []) (4 ∷ []) (1 ∷ [])) 2 (starts 9_999_993 10_000_000 ∷ [])) (passes 10_000_001)
    -- less than the delay, and more
    ∷ row (of_flight (blocks_of 0 false 0 (3 ∷ []) (4 ∷ []) (1 ∷ [])) 2 (starts 0 6 ∷ [])) refused
    ∷ row (of_flight (blocks_of 0 false 0 (3 ∷ []) (4 ∷ []) (1 ∷ [])) 2 (starts 0 8 ∷ [])) refused
    -- starts that keep order C do not keep order A, whose first passes come as in C
    ∷ row (of_flight (blocks_of 0 false 0 (1 ∷ 1 ∷ []) (2 ∷ 2 ∷ []) (1 ∷ 1 ∷ [])) 0xA (starts 0 3 ∷ starts 1 4 ∷ [])) refused
    -- nor may C be kept where A is given
    ∷ row (of_flight (blocks_of 0 true 0xA (1 ∷ 1 ∷ []) (2 ∷ 2 ∷ []) (1 ∷ 1 ∷ [])) 0xC (starts 0 3 ∷ starts 1 4 ∷ [])) refused
    -- two passes at once
    ∷ row (of_flight (blocks_of 0 true 0xA (1 ∷ 1 ∷ []) (0 ∷ 5 ∷ []) (1 ∷ 1 ∷ [])) 0xA (starts 0 1 ∷ starts 1 7 ∷ [])) refused
    -- a second pass that starts, in its order's turn, before the second pass before it has ended
    ∷ row (of_flight (blocks_of 0 false 0 (1 ∷ 1 ∷ []) (5 ∷ 5 ∷ []) (3 ∷ 1 ∷ [])) 0xC (starts 0 6 ∷ starts 1 7 ∷ [])) refused
    -- a block whose delay is the turn, flown from 0 on, and one whose delay is a second less
    ∷ row (of_flight (blocks_of 2 false 0 (1 ∷ []) (2 ∷ []) (1 ∷ [])) 2 (starts 0 3 ∷ [])) (lawful 4)
    ∷ row (of_flight (blocks_of 2 false 0 (1 ∷ []) (1 ∷ []) (1 ∷ [])) 2 (starts 0 2 ∷ [])) refused
    -- a second block that begins the turn after the first one has ended, and one that begins a second too soon
    ∷ row (of_flight (blocks_of 2 false 0 (1 ∷ 1 ∷ []) (2 ∷ 2 ∷ []) (1 ∷ 1 ∷ [])) 0xA (starts 0 3 ∷ starts 6 9 ∷ [])) (lawful 10)
    ∷ row (of_flight (blocks_of 2 false 0 (1 ∷ 1 ∷ []) (2 ∷ 2 ∷ []) (1 ∷ 1 ∷ [])) 0xA (starts 0 3 ∷ starts 5 8 ∷ [])) refused
    -- passes of two blocks between each other, the turn apart, and a second too close
    ∷ row (of_flight (blocks_of 1 false 0 (1 ∷ 1 ∷ []) (3 ∷ 3 ∷ []) (1 ∷ 1 ∷ [])) 0xC (starts 0 4 ∷ starts 2 6 ∷ [])) (lawful 7)
    ∷ row (of_flight (blocks_of 2 false 0 (1 ∷ 1 ∷ []) (3 ∷ 3 ∷ []) (1 ∷ 1 ∷ [])) 0xC (starts 0 4 ∷ starts 2 6 ∷ [])) refused
    -- the first passes alone too close, and the second passes alone
    ∷ row (of_flight (blocks_of 2 false 0 (1 ∷ 1 ∷ []) (6 ∷ 7 ∷ []) (1 ∷ 1 ∷ [])) 0xC (starts 0 7 ∷ starts 2 10 ∷ [])) refused
    ∷ row (of_flight (blocks_of 2 false 0 (1 ∷ 1 ∷ []) (6 ∷ 5 ∷ []) (1 ∷ 1 ∷ [])) 0xC (starts 0 7 ∷ starts 3 9 ∷ [])) refused
    -- a window of 4 to 6: both ends, a second between them, and one beyond each end
    ∷ row (of_flight (windows_of 0 false 0 (3 ∷ []) (4 ∷ []) (6 ∷ []) (1 ∷ [])) 2 (starts 0 7 ∷ [])) (lawful 8)
    ∷ row (of_flight (windows_of 0 false 0 (3 ∷ []) (4 ∷ []) (6 ∷ []) (1 ∷ [])) 2 (starts 0 8 ∷ [])) (lawful 9)
    ∷ row (of_flight (windows_of 0 false 0 (3 ∷ []) (4 ∷ []) (6 ∷ []) (1 ∷ [])) 2 (starts 0 9 ∷ [])) (lawful 10)
    ∷ row (of_flight (windows_of 0 false 0 (3 ∷ []) (4 ∷ []) (6 ∷ []) (1 ∷ [])) 2 (starts 0 6 ∷ [])) refused
    ∷ row (of_flight (windows_of 0 false 0 (3 ∷ []) (4 ∷ []) (6 ∷ []) (1 ∷ [])) 2 (starts 0 10 ∷ [])) refused
    -- a window and an exact delay, with passes between each other
    ∷ row (of_flight (windows_of 0 true 0xC (1 ∷ 1 ∷ []) (0 ∷ 5 ∷ []) (3 ∷ 5 ∷ []) (1 ∷ 1 ∷ [])) 0xC (starts 0 2 ∷ starts 1 7 ∷ [])) (lawful 8)
    -- a last pass that ends at the ceiling: no turn is due behind it
    ∷ row (of_flight (blocks_of 600 false 0 (3 ∷ []) (600 ∷ []) (1 ∷ [])) 2 (starts 9_999_396 9_999_999 ∷ [])) (lawful 10_000_000)
    ∷ []

unfoldable pub all_tested : List Sample → Bool
all_tested [] = true
all_tested (c ∷ cs) = test c.timetable c.outcome && all_tested cs

-- all of them, computed
samples_tested : all_tested samples ≡ true
unfolding samples all_tested test obeys figure_of rules_compute
samples_tested = refl

-- Each sample of a list, said of all.
unfoldable pub AllSay : List Sample → Type 0
AllSay [] = Unit
AllSay (c ∷ cs) = Says c.timetable c.outcome × AllSay cs

all_tested_lem : (cs : List Sample) → all_tested cs ≡ true → AllSay cs
unfolding all_tested AllSay
all_tested_lem [] e = tt
all_tested_lem (c ∷ cs) e =
    let w = both (test c.timetable c.outcome) (all_tested cs) e in
    (tested c.timetable c.outcome w.0, all_tested_lem cs w.1)

pub samples_hold : AllSay samples
samples_hold = all_tested_lem samples samples_tested

-- Which of two scanner lists comes before the other: desk 1 against desk 3 at the first place where they part, desk 3 against desk 1 at the last. A beginning
-- of a list does not come before it: they part nowhere.
abbrev list_before : List ℕ
list_before = 1 ∷ 2 ∷ 1 ∷ 3 ∷ []

abbrev list_after : List ℕ
list_after = 1 ∷ 2 ∷ 3 ∷ 1 ∷ []

pub lists_sample : ComesBefore list_before list_after × (ComesBefore list_after list_before → ⊥) × (ComesBefore (1 ∷ []) (1 ∷ 2 ∷ []) → ⊥)
lists_sample = (
  record { place = 2; in_both = (omega arith, omega arith); same = λ i l. omega (arith, same i (omega arith)); lower = omega arith },
  λ b. back b.place (λ k h. omega (arith, b.same k h)) (omega (arith, b.lower)),
  λ b. beginning b.place (omega (arith, b.in_both)) (omega (arith, b.lower)),
)
  where
    same : (i : ℕ) → i < 2 → get_or list_before i 0 ≡ get_or list_after i 0
    same zero l = refl
    same (suc zero) l = refl
    same (suc (suc i)) l = absurd (omega arith)

    back : (i : ℕ) → ((k : ℕ) → k < i → get_or list_after k 0 ≡ get_or list_before k 0) → get_or list_after i 0 < get_or list_before i 0 → ⊥
    back zero h l = absurd (omega arith)
    back (suc zero) h l = absurd (omega arith)
    back (suc (suc zero)) h l = absurd (omega arith)
    back (suc (suc (suc i))) h l = absurd (omega (arith, h 2 (omega arith)))

    beginning : (i : ℕ) → i < 1 → get_or (1 ∷ []) i 0 < get_or (1 ∷ 2 ∷ []) i 0 → ⊥
    beginning zero h l = absurd (omega arith)
    beginning (suc i) h l = absurd (omega arith)
