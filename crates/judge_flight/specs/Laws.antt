-- Laws of a flight's passes: what the bytes give is what the rules name, and the loops over the order and over all passes.
use Rattle.std.specs.Prelude.{ℕ, zero, suc, ◌+◌, ◌-◌, ◌*◌, ◌^◌, ◌≤◌, ◌<◌, max, ◌≡◌, refl, Bool, true, false, not, ◌&&◌, ◌||◌, ◌⊎◌, List, leb, eqb}
use Rattle.std.proofs.Common.{sym, ◌∙◌, inl, inr}
use Rattle.std.proofs.Math.Path.{ap}
use Rattle.std.proofs.Math.Decide.{dec_lt}
use Rattle.std.proofs.Math.Numerals.{add-one}
use native.Mathlib.Omega.{arith}
use borrow.Author.Tests.{lt-ltb, le-ltb, le-leb, lt-leb, eq-eqb, ne_eqb, not-true, not-false}
use Rattle.order.specs.Order.{is_proper}
use Rattle.order.specs.Decided.{proper_true}
use Rattle.order.specs.Passes.{pass_at}
use Rattle.order.specs.PassLaws.{pass_known}
use Rattle.sheet.specs.declared.FlightSection.{FlightSection}
use Rattle.base.specs.Sums.{greatest_over}
use Rattle.rules.specs.Flight.{no_passes, passes_at, pass_start, pass_time, pass_end, clear_at, flight_figure}
use Rattle.plan_format.specs.Format.{size_of, width_of, passes_form}
use Rattle.plan_read.specs.PlanRead.{passes_from, blocks_from, PassesRead}
use Rattle.plan_read.specs.Laws.{member_at}
use Rattle.running.specs.FunctionLaws.{TimeTold}
use Rattle.rules.specs.declared.Passes.{Passes}
use Rattle.judge_rules.specs.Follows.{passes_in_order, flight_head}
use Rattle.judge_flight.specs.Starts.{start_in_plan, end_in_plan, clear_in_plan, PassStartPre, StartTold, FigureTold, FlightHeadPre, PassEndPre, PassesInOrderPre}

module _ (f : FlightSection) (plan : List ℕ) (at p : ℕ) (known : p < 2 * f.blocks) where
  start_case : Dec (p < f.blocks) → start_in_plan plan at f.blocks p ≡ pass_start f (blocks_from plan at f.blocks) p
  unfolding start_in_plan pass_start passes_at
  start_case (yes h) = rw (lt-ltb _ _ h, member_at passes_from (size_of passes_form) plan at f.blocks p no_passes h)
  start_case (no h) =
      let l : f.blocks ≤ p = omega arith in
      let k : p - f.blocks < f.blocks = omega arith in
      rw (le-ltb _ _ l, member_at passes_from (size_of passes_form) plan at f.blocks (p - f.blocks) no_passes k)

  -- what the bytes give is the start and the end that the rules name
  pub start_is : start_in_plan plan at f.blocks p ≡ pass_start f (blocks_from plan at f.blocks) p
  start_is = start_case (dec_lt p f.blocks)

  pub end_is : end_in_plan f plan at p ≡ pass_end f (blocks_from plan at f.blocks) p
  unfolding end_in_plan pass_end
  end_is = ap (λ n. n + pass_time f p) start_is

  pub clear_is : clear_in_plan f plan at p ≡ clear_at f (blocks_from plan at f.blocks) p
  unfolding clear_in_plan clear_at
  clear_is = ap (λ n. n + f.turn) end_is

module _ (plan : List ℕ) (at n p : ℕ) (block : Passes) where
  pub first_start : p < n → PassesRead plan (at + size_of passes_form * p) block → StartTold (start_in_plan plan at n p) block.first
  unfolding start_in_plan
  first_start h r = record { is = rw (lt-ltb _ _ h) (ap (λ (q : Passes). q.first) r.is); fits = r.fits.first }

  pub second_start : n ≤ p → PassesRead plan (at + size_of passes_form * (p - n)) block → StartTold (start_in_plan plan at n p) block.second
  unfolding start_in_plan
  second_start h r = record { is = rw (le-ltb _ _ h) (ap (λ (q : Passes). q.second) r.is); fits = r.fits.second }

module _ (f : FlightSection) (plan : List ℕ) (at p : ℕ) where
  pub end_told : (start time : ℕ) → StartTold (start_in_plan plan at f.blocks p) start → TimeTold (pass_time f p) time
      → FigureTold (end_in_plan f plan at p) (start + time)
  unfolding end_in_plan
  end_told start time t u = record { is = rw (t.is, u.is); fits = omega (arith, t.fits, u.fits) }

  pub clear_told : (end : ℕ) → FigureTold (end_in_plan f plan at p) end → end + f.turn ≡ clear_in_plan f plan at p
  unfolding clear_in_plan
  clear_told end t = rw t.is

-- the first k passes of the order come one after another
pub record OrderedSoFar (f : FlightSection) (order : ℕ) (ps : List Passes) (k : ℕ) : Type 0 where
  pub within : k ≤ 2 * f.blocks - 1
  pub so_far : passes_in_order f order ps k ≡ true

order_suc : (f : FlightSection) (order : ℕ) (ps : List Passes) (k : ℕ)
    → passes_in_order f order ps (suc k)
    ≡ (passes_in_order f order ps k && leb (clear_at f ps (pass_at f.blocks order k)) (pass_start f ps (pass_at f.blocks order (k + 1))))
unfolding passes_in_order
order_suc f order ps k = refl

order_stays : (f : FlightSection) (order : ℕ) (ps : List Passes) (k n : ℕ) → passes_in_order f order ps k ≡ false → passes_in_order f order ps (k + n) ≡ false
order_stays f order ps k zero e = ap (passes_in_order f order ps) (omega arith) ∙ e
order_stays f order ps k (suc n) e =
    ap (passes_in_order f order ps) next ∙ order_suc f order ps (k + n) ∙ rw (order_stays f order ps k n e)
  where
    next : k + suc n ≡ suc (k + n)
    next = omega arith

pub ordered_none : (f : FlightSection) (order : ℕ) (ps : List Passes) → OrderedSoFar f order ps 0
unfolding passes_in_order
ordered_none f order ps = record { within = omega arith; so_far = refl }

-- at position k, behind the first: p and q are the passes at the position before and at this one
module _ (f : FlightSection) (order : ℕ) (plan : List ℕ) (at k : ℕ) (a : PassesInOrderPre f order at)
    (t : OrderedSoFar f order (blocks_from plan at f.blocks) (k - 1)) (behind : 1 ≤ k)
    (less : k < 2 * f.blocks) (p q start clear : ℕ) (ep : p ≡ pass_at f.blocks order (k - 1)) (eq : q ≡ pass_at f.blocks order k)
    (ts : StartTold (start_in_plan plan at f.blocks q) start) (te : clear ≡ clear_in_plan f plan at p) where
  known_p : p < 2 * f.blocks
  known_p = rw ep (pass_known a.proper (k - 1) (omega arith))

  known_q : q < 2 * f.blocks
  known_q = rw eq (pass_known a.proper k less)

  clear_there : clear ≡ clear_at f (blocks_from plan at f.blocks) (pass_at f.blocks order (k - 1))
  clear_there = te ∙ clear_is f plan at p known_p ∙ ap (clear_at f (blocks_from plan at f.blocks)) ep

  start_there : start ≡ pass_start f (blocks_from plan at f.blocks) (pass_at f.blocks order (k - 1 + 1))
  start_there =
      ts.is
      ∙ start_is f plan at q known_q
      ∙ ap (pass_start f (blocks_from plan at f.blocks)) eq
      ∙ ap (λ n. pass_start f (blocks_from plan at f.blocks) (pass_at f.blocks order n)) (omega arith)

  pub ordered_more : clear ≤ start → OrderedSoFar f order (blocks_from plan at f.blocks) (k + 1 - 1)
  ordered_more h =
      record {
        within = omega arith;
        so_far =
            ap (passes_in_order f order (blocks_from plan at f.blocks)) next
            ∙ order_suc f order (blocks_from plan at f.blocks) (k - 1)
            ∙ rw (t.so_far, ← clear_there, ← start_there, le-leb _ _ h);
      }
    where
      next : k + 1 - 1 ≡ suc (k - 1)
      next = omega arith

  pub ordered_wrong : start < clear → false ≡ passes_in_order f order (blocks_from plan at f.blocks) (2 * f.blocks - 1)
  ordered_wrong h =
      sym
      (ap (passes_in_order f order (blocks_from plan at f.blocks)) all ∙ order_stays f order (blocks_from plan at f.blocks) (suc (k - 1)) (2 * f.blocks - 1 - suc (k - 1)) here)
    where
      all : 2 * f.blocks - 1 ≡ suc (k - 1) + (2 * f.blocks - 1 - suc (k - 1))
      all = omega arith

      here : passes_in_order f order (blocks_from plan at f.blocks) (suc (k - 1)) ≡ false
      here = order_suc f order (blocks_from plan at f.blocks) (k - 1) ∙ rw (t.so_far, ← clear_there, ← start_there, lt-leb _ _ h)

pub ordered_all : (f : FlightSection) (order : ℕ) (ps : List Passes) (k : ℕ) → OrderedSoFar f order ps (k - 1) → 2 * f.blocks ≤ k
    → true ≡ passes_in_order f order ps (2 * f.blocks - 1)
ordered_all f order ps k t h = sym (ap (passes_in_order f order ps) all ∙ t.so_far)
  where
    all : 2 * f.blocks - 1 ≡ k - 1
    all = let w = t.within in omega arith

module _ (f : FlightSection) (order at k p : ℕ) (a : PassesInOrderPre f order at) (less : k < 2 * f.blocks) where
  pub this_start : p ≡ pass_at f.blocks order k → PassStartPre at f.blocks p
  this_start e = record { room = a.room; few = a.sound.most_blocks_holds; known = rw e (pass_known a.proper k less) }

  pub this_end : p ≡ pass_at f.blocks order k → PassEndPre f at p
  this_end e = record { sound = a.sound; room = a.room; known = rw e (pass_known a.proper k less) }

  pub end_before : p ≡ pass_at f.blocks order (k - 1) → PassEndPre f at p
  end_before e = record { sound = a.sound; room = a.room; known = rw e (pass_known a.proper (k - 1) (omega arith)) }

-- the greatest end of the first p passes
pub record LatestSoFar (f : FlightSection) (ps : List Passes) (p value : ℕ) : Type 0 where
  pub within : p ≤ 2 * f.blocks
  pub is : value ≡ greatest_over p (λ q. pass_end f ps q)
  pub fits : value < 2 ^ (8 * width_of passes_form 0 + 1)

pub latest_none : (f : FlightSection) (ps : List Passes) → LatestSoFar f ps 0 0
unfolding greatest_over
latest_none f ps = record { within = omega arith; is = refl; fits = omega arith }

module _ (f : FlightSection) (plan : List ℕ) (at p value : ℕ) (t : LatestSoFar f (blocks_from plan at f.blocks) p value) where
  pub latest_more : (end next : ℕ) → p < 2 * f.blocks → FigureTold (end_in_plan f plan at p) end → next ≡ max value end
      → LatestSoFar f (blocks_from plan at f.blocks) (p + 1) next
  unfolding greatest_over
  latest_more end next h u e =
      let b = t.fits in
      let c = u.fits in
      record {
        within = omega arith;
        is = e ∙ rw (t.is, u.is, end_is f plan at p h, add-one p);
        fits = omega arith;
      }

  pub latest_asked : FlightHeadPre f at → p < 2 * f.blocks → PassEndPre f at p
  latest_asked a h = record { sound = a.sound; room = a.room; known = h }

  pub latest_all : 2 * f.blocks ≤ p → FigureTold (flight_figure f (blocks_from plan at f.blocks)) value
  unfolding flight_figure
  latest_all h = record { is = t.is ∙ ap (λ n. greatest_over n (λ q. pass_end f (blocks_from plan at f.blocks) q)) all; fits = t.fits }
    where
      all : p ≡ 2 * f.blocks
      all = let w = t.within in omega arith

-- the head of the flight
pub order_asked : (f : FlightSection) (order at : ℕ) (x : Bool) → x ≡ is_proper f.blocks order → not x ≡ false → FlightHeadPre f at
    → PassesInOrderPre f order at
order_asked f order at x ex hx a = record { sound = a.sound; room = a.room; proper = proper_true f.blocks order (sym ex ∙ not-false x hx) }

-- the order number is the one given, or none is given
order_allowed : (f : FlightSection) (order : ℕ) → ((f.ordered ≡ true) × (order ≡ f.order)) ⊎ (f.ordered ≡ false) → (not f.ordered || eqb order f.order) ≡ true
order_allowed f order (inl given) = rw (given.0, eq-eqb _ _ given.1)
order_allowed f order (inr free) = rw free

given_other : (o e : Bool) → o ≡ true → e ≡ false → (not o || e) ≡ false
given_other o e g h = rw (g, h)

all_right : (x y z w r : Bool) → x ≡ true → y ≡ true → z ≡ true → r ≡ w → r ≡ (x && (y && (z && w)))
all_right x y z w r ex ey ez e = rw (ex, ey, ez) e

third_wrong : (x y z w : Bool) → x ≡ true → y ≡ true → z ≡ false → false ≡ (x && (y && (z && w)))
third_wrong x y z w ex ey ez = rw (ex, ey, ez)

module _ (f : FlightSection) (members order : ℕ) (plan : List ℕ) (at : ℕ) where
  pub members_wrong : (members ≡ f.blocks → ⊥) → false ≡ flight_head f members order (blocks_from plan at members)
  unfolding flight_head
  members_wrong h = rw (ne_eqb _ _ h)

  module _ (em : members ≡ f.blocks) (x : Bool) (ex : x ≡ is_proper f.blocks order) where
    pub proper_wrong : not x ≡ true → false ≡ flight_head f members order (blocks_from plan at members)
    unfolding flight_head
    proper_wrong h = rw (eq-eqb _ _ em, ← ex, not-true x h)

    module _ (hx : not x ≡ false) where
      pub given_wrong : f.ordered ≡ true → (order ≡ f.order → ⊥) → false ≡ flight_head f members order (blocks_from plan at members)
      unfolding flight_head
      given_wrong g h = third_wrong _ _ _ _ (eq-eqb _ _ em) (sym ex ∙ not-false x hx) (given_other f.ordered (eqb order f.order) g (ne_eqb _ _ h))

      pub head_right : (r : Bool) → ((f.ordered ≡ true) × (order ≡ f.order)) ⊎ (f.ordered ≡ false)
          → r ≡ passes_in_order f order (blocks_from plan at f.blocks) (2 * f.blocks - 1)
          → r ≡ flight_head f members order (blocks_from plan at members)
      unfolding flight_head
      head_right r allowed e =
          all_right _ _ _ _ r (eq-eqb _ _ em) (sym ex ∙ not-false x hx) (order_allowed f order allowed)
          (e ∙ ap (λ n. passes_in_order f order (blocks_from plan at n) (2 * f.blocks - 1)) (sym em))
