-- The rules of the flight, by pairs of passes and as they run over the blocks and over neighbours in the order, say the same.
-- Each pass ends, and the turn is over, before the next one in the order starts, so before every later one; every pass stands somewhere in a proper order.
use Rattle.std.specs.Prelude.{◌≡◌, List, ◌⊎◌, ℕ, zero, suc, ◌+◌, ◌-◌, ◌*◌, ◌≤◌, ◌<◌, get_or}
use Rattle.std.proofs.Math.Path.{refl, sym}
use Rattle.std.proofs.Common.{ap, subst, ◌∙◌, inl, inr, ⊎_elim, add-zero, arith, lt-ltb, le-ltb}
use Rattle.std.proofs.Math.Decide.{dec_lt, ℕ_discrete}
use Rattle.order.specs.Order.{Proper}
use Rattle.order.specs.Passes.{pass_at}
use Rattle.order.specs.PassLaws.{pass_known, position}
use Rattle.order.specs.PassLaws as passes
use Rattle.sheet.specs.Limits.{ceiling}
use Rattle.sheet.specs.Sound.{FlightSound}
use Rattle.sheet.specs.declared.FlightSection.{FlightSection}
use Rattle.rules.specs.Flight.{passes_at, pass_start, pass_time, pass_end, second_due, DelayKept, clear_at, Clear, FlightUnder, FlightLawful, Keeps, OrderAllowed}
use Rattle.running.specs.Running.{BlockFollows, FlightRuns}
use Rattle.rules.specs.declared.Passes.{Passes}

module _ (f : FlightSection) where
  pub time_first : (i : ℕ) → i < f.blocks → pass_time f i ≡ get_or f.first i 0
  unfolding pass_time
  time_first i l = sym (passes.first_time f.blocks f.first f.second i l)

  pub time_second : (p : ℕ) → f.blocks ≤ p → pass_time f p ≡ get_or f.second (p - f.blocks) 0
  unfolding pass_time
  time_second p l = sym (passes.second_time f.blocks f.first f.second p l)

  pub second_time : (i : ℕ) → pass_time f (f.blocks + i) ≡ get_or f.second i 0
  second_time i = time_second (f.blocks + i) (omega arith) ∙ ap (λ (x : ℕ). get_or f.second x 0) back
    where
      back : f.blocks + i - f.blocks ≡ i
      back = omega arith

  -- a pass takes at least a second
  pub time_some : FlightSound f → (p : ℕ) → p < 2 * f.blocks → 1 ≤ pass_time f p
  time_some sound p l = go (dec_lt p f.blocks)
    where
      go : Dec (p < f.blocks) → 1 ≤ pass_time f p
      go (yes q) = omega (arith, time_first p q, sound.least_first p q)
      go (no q) = omega (arith, time_second p (omega arith), sound.least_second (p - f.blocks) (omega arith))

-- a first pass ends no later than its second starts
pub first_ended : (f : FlightSection) (i : ℕ) (p : Passes) → DelayKept f i p → p.first + get_or f.first i 0 ≤ p.second
unfolding second_due
first_ended f i p k = omega (arith, k.at_least)

module _ (f : FlightSection) (ps : List Passes) where
  pub start_first : (i : ℕ) → i < f.blocks → pass_start f ps i ≡ (passes_at ps i).first
  unfolding pass_start
  start_first i l = rw (lt-ltb i f.blocks l)

  pub start_second : (p : ℕ) → f.blocks ≤ p → pass_start f ps p ≡ (passes_at ps (p - f.blocks)).second
  unfolding pass_start
  start_second p l = rw (le-ltb p f.blocks l)

  pub second_start : (i : ℕ) → pass_start f ps (f.blocks + i) ≡ (passes_at ps i).second
  second_start i = start_second (f.blocks + i) (omega arith) ∙ ap (λ (x : ℕ). (passes_at ps x).second) back
    where
      back : f.blocks + i - f.blocks ≡ i
      back = omega arith

  pub end_is : (p : ℕ) → pass_end f ps p ≡ pass_start f ps p + pass_time f p
  unfolding pass_end
  end_is p = refl

  -- another pass may start no sooner than the turn after a pass ends
  pub clear_end : (p : ℕ) → clear_at f ps p ≡ pass_end f ps p + f.turn
  unfolding clear_at
  clear_end p = refl

  -- From the rules to the run.
  pub next_apart : {c : ℕ} (w : ℕ) → FlightUnder c f ps → Keeps f w ps → Proper f.blocks w
      → (k : ℕ) → k + 1 < 2 * f.blocks → Clear f ps (pass_at f.blocks w k) (pass_at f.blocks w (k + 1))
  next_apart w law keeps proper k l =
      ⊎_elim (λ h. h) (λ h. absurd (omega (arith, h, later, clear_end (pass_at f.blocks w (k + 1)), end_is (pass_at f.blocks w (k + 1)))))
      (law.apart (pass_at f.blocks w k) (pass_at f.blocks w (k + 1)) (pass_known proper k (omega arith)) (pass_known proper (k + 1) l) differ)
    where
      later : pass_start f ps (pass_at f.blocks w k) < pass_start f ps (pass_at f.blocks w (k + 1))
      later = keeps.by_start k (k + 1) (omega arith) l

      differ : pass_at f.blocks w k ≡ pass_at f.blocks w (k + 1) → ⊥
      differ e = omega (arith, later, ap (pass_start f ps) e)

  module _ (w : ℕ) (law : FlightLawful f ps) (keeps : Keeps f w ps) (allowed : OrderAllowed f w) where
    block_follows_lem : (i : ℕ) → i < f.blocks → BlockFollows f i (passes_at ps i)
    block_follows_lem i l = record {
      known = l;
      delay_kept = law.delay_kept i l;
      within = omega (arith, law.within (f.blocks + i) (omega arith), end_is (f.blocks + i), second_start i, second_time f i);
    }

    pub lawful_runs : FlightRuns f w ps
    lawful_runs = record {
      members = λ i l. block_follows_lem i (omega (arith, law.every_block));
      head = record { every_block = law.every_block; allowed = allowed; in_order = next_apart w law keeps allowed.proper };
    }

  -- Where each pass ends, and the turn is over, before the next one in a proper order starts, so it is before every later one, and any two passes are apart.
  module _ (w : ℕ) (proper : Proper f.blocks w)
      (next : (k : ℕ) → k + 1 < 2 * f.blocks → Clear f ps (pass_at f.blocks w k) (pass_at f.blocks w (k + 1))) where
    chain : (j d : ℕ) → j + 1 + d < 2 * f.blocks → Clear f ps (pass_at f.blocks w j) (pass_at f.blocks w (j + 1 + d))
    chain j zero l = rw (add-zero (j + 1)) (next j (omega arith))
    chain j (suc d) l =
        subst (λ (k : ℕ). Clear f ps (pass_at f.blocks w j) (pass_at f.blocks w k)) there
        (omega (arith, chain j d (omega arith), clear_end (pass_at f.blocks w (j + 1 + d)), end_is (pass_at f.blocks w (j + 1 + d)), next (j + 1 + d) (omega arith)))
      where
        there : j + 1 + d + 1 ≡ j + 1 + suc d
        there = omega arith

    pub before_later : (j k : ℕ) → j < k → k < 2 * f.blocks → Clear f ps (pass_at f.blocks w j) (pass_at f.blocks w k)
    before_later j k h l = subst (λ (i : ℕ). Clear f ps (pass_at f.blocks w j) (pass_at f.blocks w i)) there (chain j (k - (j + 1)) (omega arith))
      where
        there : j + 1 + (k - (j + 1)) ≡ k
        there = omega arith

    apart_at : (j k : ℕ) → j < 2 * f.blocks → k < 2 * f.blocks → (pass_at f.blocks w j ≡ pass_at f.blocks w k → ⊥)
        → Clear f ps (pass_at f.blocks w j) (pass_at f.blocks w k) ⊎ Clear f ps (pass_at f.blocks w k) (pass_at f.blocks w j)
    apart_at j k lj lk ne = go (dec_lt j k) (ℕ_discrete j k)
      where
        go : Dec (j < k) → Dec (j ≡ k)
            → Clear f ps (pass_at f.blocks w j) (pass_at f.blocks w k) ⊎ Clear f ps (pass_at f.blocks w k) (pass_at f.blocks w j)
        go (yes h) e = inl (before_later j k h lk)
        go (no h) (yes e) = absurd (ne (ap (pass_at f.blocks w) e))
        go (no h) (no e) = inr (before_later k j (omega arith) lj)

    pub all_apart : (p q : ℕ) → p < 2 * f.blocks → q < 2 * f.blocks → (p ≡ q → ⊥) → Clear f ps p q ⊎ Clear f ps q p
    all_apart p q lp lq ne = go (position proper p lp) (position proper q lq)
      where
        go : (j : ℕ) × (j < 2 * f.blocks) × (pass_at f.blocks w j ≡ p) → (k : ℕ) × (k < 2 * f.blocks) × (pass_at f.blocks w k ≡ q)
            → Clear f ps p q ⊎ Clear f ps q p
        go a b = rw (← a.2, ← b.2) (apart_at a.0 b.0 a.1 b.1 (λ e. ne (sym a.2 ∙ e ∙ b.2)))

    pub order_kept : FlightSound f → Keeps f w ps
    order_kept sound = record {
      by_start =
          λ j k h l. omega (arith, before_later j k h l, clear_end (pass_at f.blocks w j), end_is (pass_at f.blocks w j), time_some f sound (pass_at f.blocks w j) (pass_known proper j (omega arith)));
    }

  -- From the run to the rules.
  module _ (w : ℕ) (R : FlightRuns f w ps) where
    within : (p : ℕ) → p < 2 * f.blocks → pass_end f ps p ≤ ceiling
    within p l = go (dec_lt p f.blocks)
      where
        go : Dec (p < f.blocks) → pass_end f ps p ≤ ceiling
        go (yes h) =
            let b : BlockFollows f p (passes_at ps p) = R.members p (omega (arith, R.head.every_block)) in
            omega (arith, end_is p, start_first p h, time_first f p h, first_ended f p (passes_at ps p) b.delay_kept, b.within)
        go (no h) =
            let b : BlockFollows f (p - f.blocks) (passes_at ps (p - f.blocks)) = R.members (p - f.blocks) (omega (arith, R.head.every_block)) in
            omega (arith, end_is p, start_second p (omega arith), time_second f p (omega arith), b.within)

    pub runs_lawful : FlightLawful f ps
    runs_lawful = record {
      every_block = R.head.every_block;
      delay_kept = λ i l. (R.members i (omega (arith, R.head.every_block))).delay_kept;
      apart = all_apart w R.head.allowed.proper R.head.in_order;
      within = within;
    }

    pub runs_keeps : FlightSound f → Keeps f w ps
    runs_keeps = order_kept w R.head.allowed.proper R.head.in_order

    pub runs_allowed : OrderAllowed f w
    runs_allowed = R.head.allowed
