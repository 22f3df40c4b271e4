-- Lists of passes, and the starts and times of the rules by the number of the pass.
use Rattle.std.specs.Prelude.{◌≡◌, ℕ, ◌+◌, ◌-◌, ◌*◌, ◌<◌, length}
use Rattle.std.proofs.Math.Path.{refl}
use Rattle.std.proofs.Common.{ap, ◌∙◌, arith}
use Rattle.std.proofs.Math.Decide.{dec_lt}
use Rattle.order.specs.Passes.{time_of}
use Rattle.base.specs.Listed.{listed_length, listed_at}
use Rattle.sheet.specs.declared.FlightSection.{FlightSection}
use Rattle.rules.specs.Flight.{passes_at, pass_start, pass_time, no_passes}
use Rattle.rules.specs.declared.Passes.{Passes}
use Rattle.rules_laws.proofs.FlightRunning.{start_first, start_second}
use Rattle.flight_order.specs.Timetable.{passes_with_starts}

module _ (n : ℕ) (y : ℕ → ℕ) where
  pub passes_length : length (passes_with_starts n y) ≡ n
  unfolding passes_with_starts
  passes_length = listed_length n (λ i. record { first = y i; second = y (n + i) })

  block_passes : (i : ℕ) → i < n → passes_at (passes_with_starts n y) i ≡ record { first = y i; second = y (n + i) }
  unfolding passes_with_starts passes_at
  block_passes i l = listed_at n (λ i. record { first = y i; second = y (n + i) }) i no_passes l

  pub passes_first : (i : ℕ) → i < n → (passes_at (passes_with_starts n y) i).first ≡ y i
  passes_first i l = ap (λ (q : Passes). q.first) (block_passes i l)

  pub passes_second : (i : ℕ) → i < n → (passes_at (passes_with_starts n y) i).second ≡ y (n + i)
  passes_second i l = ap (λ (q : Passes). q.second) (block_passes i l)

module _ (f : FlightSection) where
  pub start_from : (y : ℕ → ℕ) (p : ℕ) → p < 2 * f.blocks → pass_start f (passes_with_starts f.blocks y) p ≡ y p
  start_from y p l = go (dec_lt p f.blocks)
    where
      go : Dec (p < f.blocks) → pass_start f (passes_with_starts f.blocks y) p ≡ y p
      go (yes q) = start_first f (passes_with_starts f.blocks y) p q ∙ passes_first f.blocks y p q
      go (no q) = start_second f (passes_with_starts f.blocks y) p (omega arith) ∙ passes_second f.blocks y (p - f.blocks) (omega arith) ∙ ap y back
        where
          back : f.blocks + (p - f.blocks) ≡ p
          back = omega arith

  pub time_is : (p : ℕ) → pass_time f p ≡ time_of f.blocks f.first f.second p
  unfolding pass_time
  time_is p = refl
