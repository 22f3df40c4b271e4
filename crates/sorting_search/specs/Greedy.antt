-- The greedy list: its next strip is always of the desk whose step has the least lower bound. Its figure is that of a completion.
use Rattle.std.specs.Prelude.{◌≡◌, Bool, cond, List, length, get_or, ltb}
use Rattle.std.proofs.Math.Path.{refl, ap}
use Rattle.std.proofs.Common.{sym, subst, ◌∙◌}
use Rattle.std.proofs.Math.Bool.{true, false}
use Prim.Native.Nat.{ℕ, zero, suc, ◌-◌, ◌≤◌, ◌<◌, max}
use Rattle.std.proofs.Math.Decide.{dec_lt}
use native.Mathlib.Omega.{arith}
use borrow.Author.Tests.{ltb-true, lt-ltb, le-ltb}
use Rattle.sheet.specs.Limits.{table_length}
use Rattle.interleaving.specs.declared.State.{State}
use Rattle.interleaving.specs.Instance.{Instance, cost_cap}
use Rattle.interleaving.specs.Search.{StripLeft, step_of, Completes}
use Rattle.interleaving.proofs.SearchLaws.{step_left}
use Rattle.interleaving.specs.Caps.{StepPre}
use Rattle.interleaving.specs.Consistent.{Consistent}
use Rattle.interleaving.proofs.Consistent.{consistent_step}
use Rattle.sorting_bounds.specs.DeskBound.{desk_bound}
use Rattle.sorting_bounds.specs.ScannerBound.{EntriesFrom, scanner_bound}

-- the greater of the two lower bounds of s
unfoldable pub bound_of : List ℕ → List ℕ → State → ℕ
bound_of J M s = max (scanner_bound M s) (desk_bound J s)

-- the first desk that has a strip left; the third where neither of the first two has one
unfoldable pub first_desk : List ℕ → State → ℕ
first_desk J s = cond (ltb (get_or s.taken 0 0) (get_or J 0 0)) 0 (cond (ltb (get_or s.taken 1 0) (get_or J 1 0)) 1 2)

-- of two desks the one whose step has the smaller lower bound; the chosen one where they are equal, or where d has no strip left
unfoldable pub better_desk : List ℕ → List ℕ → State → ℕ → ℕ → ℕ
better_desk J M s chosen d =
    cond (ltb (get_or s.taken d 0) (get_or J d 0)) (cond (ltb (bound_of J M (step_of J s d)) (bound_of J M (step_of J s chosen))) d chosen) chosen

-- the desk whose step has the least lower bound
unfoldable pub greedy_desk : List ℕ → List ℕ → State → ℕ
greedy_desk J M s = better_desk J M s (better_desk J M s (first_desk J s) 1) 2

-- the cost at the end of the greedy list from s on, k strips being left
unfoldable pub greedy_from : List ℕ → List ℕ → ℕ → State → ℕ
greedy_from J M zero s = s.cost
greedy_from J M (suc k) s = greedy_from J M k (step_of J s (greedy_desk J M s))

abbrev pub greedy_figure : List ℕ → List ℕ → State → ℕ
greedy_figure J M s = greedy_from J M s.left s

-- what a lower bound of s asks of the table
pub record LowerBoundPre (J : List ℕ) (s : State) (M : List ℕ) : Type 0 where
  pub jobs : Instance J
  pub state : Consistent J s
  pub size : length M ≡ table_length
  pub entries : EntriesFrom J M 0

-- the same where a strip is left
pub record GreedyDeskPre (J : List ℕ) (s : State) (M : List ℕ) : Type 0 where
  pub bounded : LowerBoundPre J s M
  pub left : 0 < s.left

pub record BetterDeskPre (J : List ℕ) (s : State) (chosen d : ℕ) (M : List ℕ) : Type 0 where
  pub going : GreedyDeskPre J s M
  pub serves : StepPre J s chosen
  pub desk : d < 3

-- first_desk, by what strip_left says
module _ (J : List ℕ) (s : State) where
  pub first_is_0 : {q : Bool} → q ≡ ltb (get_or s.taken 0 0) (get_or J 0 0) → q ≡ true → 0 ≡ first_desk J s
  unfolding first_desk
  first_is_0 e t = rw (← e, t)

  pub first_is_1 : {q r : Bool} → q ≡ ltb (get_or s.taken 0 0) (get_or J 0 0) → q ≡ false → r ≡ ltb (get_or s.taken 1 0) (get_or J 1 0) → r ≡ true
      → 1 ≡ first_desk J s
  unfolding first_desk
  first_is_1 e t f u = rw (← e, t, ← f, u)

  pub first_is_2 : {q r : Bool} → q ≡ ltb (get_or s.taken 0 0) (get_or J 0 0) → q ≡ false → r ≡ ltb (get_or s.taken 1 0) (get_or J 1 0) → r ≡ false
      → 2 ≡ first_desk J s
  unfolding first_desk
  first_is_2 e t f u = rw (← e, t, ← f, u)

-- better_desk
module _ (J M : List ℕ) (s : State) (chosen d : ℕ) where
  pub better_other : {q : Bool} {n o : State} {x y : ℕ} → q ≡ ltb (get_or s.taken d 0) (get_or J d 0) → q ≡ true → n ≡ step_of J s chosen → x ≡ bound_of J M n
      → o ≡ step_of J s d → y ≡ bound_of J M o → y < x → d ≡ better_desk J M s chosen d
  unfolding better_desk
  better_other {x = x} {y = y} e t n f o g l = rw (← e, t, lt-ltb (bound_of J M (step_of J s d)) (bound_of J M (step_of J s chosen)) smaller)
    where
      smaller : bound_of J M (step_of J s d) < bound_of J M (step_of J s chosen)
      smaller = omega (arith, f ∙ ap (bound_of J M) n, g ∙ ap (bound_of J M) o)

  pub better_chosen : {q : Bool} {n o : State} {x y : ℕ} → q ≡ ltb (get_or s.taken d 0) (get_or J d 0) → q ≡ true → n ≡ step_of J s chosen → x ≡ bound_of J M n
      → o ≡ step_of J s d → y ≡ bound_of J M o → x ≤ y → chosen ≡ better_desk J M s chosen d
  unfolding better_desk
  better_chosen {x = x} {y = y} e t n f o g l = rw (← e, t, le-ltb (bound_of J M (step_of J s d)) (bound_of J M (step_of J s chosen)) larger)
    where
      larger : bound_of J M (step_of J s chosen) ≤ bound_of J M (step_of J s d)
      larger = omega (arith, f ∙ ap (bound_of J M) n, g ∙ ap (bound_of J M) o)

  pub better_none : {q : Bool} → q ≡ ltb (get_or s.taken d 0) (get_or J d 0) → q ≡ false → chosen ≡ better_desk J M s chosen d
  unfolding better_desk
  better_none e t = rw (← e, t)

-- the greedy desk can serve
module _ {J : List ℕ} {s : State} {M : List ℕ} where
  serve_at : {d : ℕ} → GreedyDeskPre J s M → d < 3 → StripLeft J s d → StepPre J s d
  serve_at g p m = record { jobs = g.bounded.jobs; capped = g.bounded.state.fits; desk = p; strip = m; left = g.left }

  pub serve_if : {d : ℕ} {q : Bool} → GreedyDeskPre J s M → d < 3 → q ≡ ltb (get_or s.taken d 0) (get_or J d 0) → q ≡ true → StepPre J s d
  serve_if g p e t = serve_at g p (ltb-true _ _ (sym e ∙ t))

  first_serves : GreedyDeskPre J s M → StepPre J s (first_desk J s)
  unfolding first_desk
  first_serves g = go (dec_lt (get_or s.taken 0 0) (get_or J 0 0)) (dec_lt (get_or s.taken 1 0) (get_or J 1 0))
    where
      go : Dec (StripLeft J s 0) → Dec (StripLeft J s 1)
          → StepPre J s (cond (ltb (get_or s.taken 0 0) (get_or J 0 0)) 0 (cond (ltb (get_or s.taken 1 0) (get_or J 1 0)) 1 2))
      go (yes m) q = rw (lt-ltb _ _ m) (serve_at g (omega arith) m)
      go (no n) (yes m) = rw (le-ltb (get_or s.taken 0 0) (get_or J 0 0) (omega arith), lt-ltb (get_or s.taken 1 0) (get_or J 1 0) m) (serve_at g (omega arith) m)
      go (no n) (no o) =
          rw (le-ltb (get_or s.taken 0 0) (get_or J 0 0) (omega arith), le-ltb (get_or s.taken 1 0) (get_or J 1 0) (omega arith))
          (serve_at g (omega arith) (omega (arith, g.left, g.bounded.state.left)))

  better_serves : {chosen d : ℕ} → BetterDeskPre J s chosen d M → StepPre J s (better_desk J M s chosen d)
  unfolding better_desk
  better_serves {chosen} {d} h = go (dec_lt (get_or s.taken d 0) (get_or J d 0))
    where
      one : (b : Bool) → StepPre J s d → StepPre J s (cond b d chosen)
      one true c = c
      one false c = h.serves

      go : Dec (StripLeft J s d)
          → StepPre J s
          (cond (ltb (get_or s.taken d 0) (get_or J d 0)) (cond (ltb (bound_of J M (step_of J s d)) (bound_of J M (step_of J s chosen))) d chosen) chosen)
      go (yes m) =
          rw (lt-ltb (get_or s.taken d 0) (get_or J d 0) m)
          (one (ltb (bound_of J M (step_of J s d)) (bound_of J M (step_of J s chosen))) (serve_at h.going h.desk m))
      go (no n) = rw (le-ltb (get_or s.taken d 0) (get_or J d 0) (omega arith)) h.serves

  pub better_desk_pre_second : {a d : ℕ} → GreedyDeskPre J s M → d < 3 → a ≡ first_desk J s → BetterDeskPre J s a d M
  better_desk_pre_second g p e = record { going = g; serves = subst (StepPre J s) (sym e) (first_serves g); desk = p }

  pub better_desk_pre_third : {a b c d : ℕ} → GreedyDeskPre J s M → c < 3 → d < 3 → a ≡ first_desk J s → b ≡ better_desk J M s a c → BetterDeskPre J s b d M
  better_desk_pre_third g q p e f = record { going = g; serves = subst (StepPre J s) (sym f) (better_serves (better_desk_pre_second g q e)); desk = p }

  greedy_serves : GreedyDeskPre J s M → StepPre J s (greedy_desk J M s)
  unfolding greedy_desk
  greedy_serves g = better_serves (better_desk_pre_third {c = 1} g (omega arith) (omega arith) refl refl)

  pub lower_bound_pre_step : {d : ℕ} {n : State} → GreedyDeskPre J s M → StepPre J s d → n ≡ step_of J s d → LowerBoundPre J n M
  lower_bound_pre_step {d} {n} g c e = record {
    jobs = g.bounded.jobs;
    state = subst (Consistent J) (sym e) (consistent_step J c.jobs s g.bounded.state d c.desk c.strip c.left);
    size = g.bounded.size;
    entries = g.bounded.entries;
  }

pub greedy_is : (J M : List ℕ) (s : State) {a b r : ℕ} → a ≡ first_desk J s → b ≡ better_desk J M s a 1 → r ≡ better_desk J M s b 2 → r ≡ greedy_desk J M s
unfolding greedy_desk
greedy_is J M s e f g = g ∙ ap (λ (x : ℕ). better_desk J M s x 2) (f ∙ ap (λ (x : ℕ). better_desk J M s x 1) e)

-- the loop of greedy: the greedy list of t is the rest of that of s
pub record Leads (J : List ℕ) (s t : State) (M : List ℕ) : Type 0 where
  pub bounded : LowerBoundPre J t M
  pub same : greedy_figure J M t ≡ greedy_figure J M s

pub leads_start : {J : List ℕ} {s : State} {M : List ℕ} → LowerBoundPre J s M → Leads J s s M
leads_start h = record { bounded = h; same = refl }

pub leads_going : {J : List ℕ} {s t : State} {M : List ℕ} → Leads J s t M → 0 < t.left → GreedyDeskPre J t M
leads_going h l = record { bounded = h.bounded; left = l }

pub leads_serves : {J : List ℕ} {s t : State} {M : List ℕ} {d : ℕ} → Leads J s t M → 0 < t.left → d ≡ greedy_desk J M t → StepPre J t d
leads_serves {J} {s} {t} h l e = subst (StepPre J t) (sym e) (greedy_serves (leads_going h l))

greedy_next : (J M : List ℕ) (t : State) → 0 < t.left → greedy_figure J M (step_of J t (greedy_desk J M t)) ≡ greedy_figure J M t
unfolding greedy_from
greedy_next J M t l =
    ap (λ (k : ℕ). greedy_from J M k (step_of J t (greedy_desk J M t))) (step_left J t (greedy_desk J M t)) ∙ sym (ap (λ (k : ℕ). greedy_from J M k t) more)
  where
    more : t.left ≡ suc (t.left - 1)
    more = omega arith

pub leads_step : {J : List ℕ} {s t n : State} {M : List ℕ} {d : ℕ} → Leads J s t M → 0 < t.left → d ≡ greedy_desk J M t → n ≡ step_of J t d → Leads J s n M
leads_step {J} {s} {t} {n} {M} {d} h l e f = record {
  bounded = lower_bound_pre_step (leads_going h l) (leads_serves h l e) f;
  same = ap (greedy_figure J M) (f ∙ ap (step_of J t) e) ∙ greedy_next J M t l ∙ h.same;
}

pub leads_less : {J : List ℕ} {s t n : State} {M : List ℕ} {d : ℕ} → Leads J s t M → 0 < t.left → d ≡ greedy_desk J M t → n ≡ step_of J t d → n.left < t.left
leads_less {J} {s} {t} {n} {M} {d} h l f e = rw (e, step_left J t d) (omega arith)

pub leads_end : {J : List ℕ} {s t : State} {M : List ℕ} → Leads J s t M → t.left ≤ 0 → (t.cost ≡ greedy_figure J M s) × (t.cost ≤ cost_cap)
unfolding greedy_from
leads_end {J} {s} {t} {M} h l = (sym (ap (λ (k : ℕ). greedy_from J M k t) none) ∙ h.same, omega (arith, h.bounded.state.fits.cost))
  where
    none : t.left ≡ 0
    none = omega arith

-- the greedy figure is that of a completion of s
pub record GreedyFigure (J : List ℕ) (s : State) (r : ℕ) : Type 0 where
  pub end : State
  pub completes : Completes J s.left s end
  pub figure : r ≡ end.cost
  pub small : r ≤ cost_cap

module _ (J M : List ℕ) where
  greedy_end : (k : ℕ) (s : State) → LowerBoundPre J s M → s.left ≡ k → (e : State) × Completes J k s e × (greedy_from J M k s ≡ e.cost)
  unfolding Completes greedy_from
  greedy_end zero s h e = (s, refl, refl)
  greedy_end (suc k) s h e = next (greedy_serves going) (λ n w. greedy_end k n (lower_bound_pre_step going (greedy_serves going) w))
    where
      going : GreedyDeskPre J s M
      going = record { bounded = h; left = omega arith }

      next : StepPre J s (greedy_desk J M s)
          → ((n : State) → n ≡ step_of J s (greedy_desk J M s) → n.left ≡ k → (x : State) × Completes J k n x × (greedy_from J M k n ≡ x.cost))
          → (x : State) × ((d : ℕ) × (d < 3) × StripLeft J s d × Completes J k (step_of J s d) x) × (greedy_from J M k (step_of J s (greedy_desk J M s)) ≡ x.cost)
      next c rest = made (rest (step_of J s (greedy_desk J M s)) refl (step_left J s (greedy_desk J M s) ∙ less))
        where
          less : s.left - 1 ≡ k
          less = omega arith

          made : (x : State) × Completes J k (step_of J s (greedy_desk J M s)) x × (greedy_from J M k (step_of J s (greedy_desk J M s)) ≡ x.cost)
              → (x : State) × ((d : ℕ) × (d < 3) × StripLeft J s d × Completes J k (step_of J s d) x)
              × (greedy_from J M k (step_of J s (greedy_desk J M s)) ≡ x.cost)
          made r = (r.0, (greedy_desk J M s, c.desk, c.strip, r.1), r.2)

pub greedy_figure_lem : {J : List ℕ} {s : State} {M : List ℕ} {r : ℕ} → LowerBoundPre J s M → (r ≡ greedy_figure J M s) × (r ≤ cost_cap) → GreedyFigure J s r
greedy_figure_lem {J} {s} {M} {r} h e = made (greedy_end J M s.left s h refl)
  where
    made : (x : State) × Completes J s.left s x × (greedy_figure J M s ≡ x.cost) → GreedyFigure J s r
    made w = record { end = w.0; completes = w.1; figure = e.0 ∙ w.2; small = e.1 }
