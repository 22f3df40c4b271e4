-- Figures of timetables that obey some rules, and when fewer rules have the same least figure.
use Rattle.std.specs.Prelude.{ℕ, ◌≤◌, ◌≡◌}
use Rattle.std.proofs.Common.{arith}

-- some timetable that obeys the rules has no larger figure than t
pub record NoLarger {T : Type 0} (Obeys : T → Type 0) (figure : T → ℕ) (t : T) : Type 0 where
  pub timetable : T
  pub obeys : Obeys timetable
  pub no_larger : figure timetable ≤ figure t

-- v is the least figure of the timetables that obey the rules
pub record LeastFigure {T : Type 0} (Obeys : T → Type 0) (figure : T → ℕ) (v : ℕ) : Type 0 where
  pub timetable : T
  pub obeys : Obeys timetable
  pub figure_is : figure timetable ≡ v
  pub least : (t : T) → Obeys t → v ≤ figure t

-- Where for each timetable under the fewer rules there is one under all rules with no larger figure, a number is the least figure under all rules exactly
-- where it is the least under the fewer ones.
module _ {T : Type 0} (All Fewer : T → Type 0) (figure : T → ℕ)
    (fewer : (t : T) → All t → Fewer t) (enough : (t : T) → Fewer t → NoLarger All figure t) (v : ℕ) where
  pub same_least : (LeastFigure All figure v → LeastFigure Fewer figure v) × (LeastFigure Fewer figure v → LeastFigure All figure v)
  same_least = (
    λ a. record {
      timetable = a.timetable;
      obeys = fewer a.timetable a.obeys;
      figure_is = a.figure_is;
      least = λ t f. let w = enough t f in omega (arith, a.least w.timetable w.obeys, w.no_larger);
    },
    λ b. let w = enough b.timetable b.obeys in record {
      timetable = w.timetable;
      obeys = w.obeys;
      figure_is = omega (arith, w.no_larger, b.figure_is, b.least w.timetable (fewer w.timetable w.obeys));
      least = λ t a. b.least t (fewer t a);
    },
  )
