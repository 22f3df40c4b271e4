-- Every row of the table of worked sheets holds. Each is computed from the definitions, and the planner's theorems say what the result means by the rules.
use Prim.{tt}
use Rattle.std.specs.Prelude.{ℕ, ◌≡◌, refl, Bool, true, false, ◌&&◌, List, [], ◌∷◌, length}
use Rattle.std.proofs.Common.{subst, ap, ◌∙◌}
use Rattle.base.specs.Branch.{both}
use Rattle.sheet.specs.Limits.{ceiling, table_length, plan_length}
use Rattle.sheet.specs.Refusals.{order_impossible}
use Rattle.sheet.specs.Read.{read_sheet}
use Rattle.sheet.specs.Computes.{sheet_computes}
use Rattle.sheet.specs.declared.Sheet.{Sheet}
use Rattle.rules.specs.Plan.{Plan, plan_bytes, PlanLawful}
use Rattle.rules.proofs.Computes.{rules_compute}
use Rattle.rules.proofs.Tests.{is_mosaic, mosaic_decided, is_sorting, sorting_decided, is_flight, flight_decided, keeps_order, keeps_decided, may_have_order}
use Rattle.rules.proofs.Tests.{order_decided}
use Rattle.base.specs.Answer.{answer}
use Rattle.planner.specs.Call.{chosen_plan, answer_of, planned_bytes}
use Rattle.planner.specs.Computes.{planner_computes}
use Rattle.planner.specs.Theorems.{figure_of_mosaic, figure_of_sorting, Least}
use Rattle.planner.proofs.Theorems.{impossible_exactly, plan_lawful, plan_least_mosaic, plan_least_sorting, plan_least_flight, plan_taken}
use Rattle.flight.specs.Choice.{is_possible}
use Rattle.mosaic.specs.Laws.Attained.{AsEarly}
use Rattle.mosaic.proofs.Theorems.{batches_least}
use Rattle.worked_sheets.specs.Table.{Figures, figures_of, Claim, IsAllowed, NoneBelow, ListFirst, LeastOfBatches, Says, Row, table, ready_times, All, FirstCase, ready_at_holds, planned}
use Rattle.worked_sheets.specs.Table.{best, best_batched, allowed, impossible}

-- What is computed of a row.
is_plan : Sheet → Plan → Bool
is_plan s p =
    is_mosaic ceiling s.mosaic p.batches
    && (is_sorting ceiling s.sorting p.jobs
    && (is_flight ceiling s.flight p.passes && (keeps_order s.flight p.order p.passes && may_have_order s.flight p.order)))

abbrev Computed : List ℕ → Claim → Type 0
Computed sheet (ready_at_holds times) = Says sheet (ready_at_holds times)
Computed sheet (planned p figures) =
    (is_possible (read_sheet sheet).flight ≡ true) × (chosen_plan (read_sheet sheet) ≡ p) × (figures_of (read_sheet sheet) p ≡ figures)
    × (answer_of sheet plan_length table_length ≡ answer 0 0 (length (plan_bytes (read_sheet sheet) p))) × (planned_bytes sheet plan_length table_length ≡ plan_bytes (read_sheet sheet) p) × ((read_sheet sheet).number ≡ 0)
Computed sheet (best p figures) =
    (is_plan (read_sheet sheet) p ≡ true) × (figures_of (read_sheet sheet) p ≡ figures) × (figures_of (read_sheet sheet) (chosen_plan (read_sheet sheet)) ≡ figures) × ((read_sheet sheet).number ≡ 0)
Computed sheet (best_batched p figures) =
    (is_plan (read_sheet sheet) p ≡ true) × (figures_of (read_sheet sheet) p ≡ figures) × AsEarly 0 p.batches × ((read_sheet sheet).number ≡ 0)
Computed sheet (allowed p figures) = (is_plan (read_sheet sheet) p ≡ true) × (figures_of (read_sheet sheet) p ≡ figures) × ((read_sheet sheet).number ≡ 0)
Computed sheet (impossible place) =
    (answer_of sheet plan_length table_length ≡ answer order_impossible place 0) × (is_possible (read_sheet sheet).flight ≡ false) × ((read_sheet sheet).number ≡ 0)

plan_true : (s : Sheet) (p : Plan) → is_plan s p ≡ true → PlanLawful s p
unfolding is_plan
plan_true s p e =
    let m = both _ _ e in
    let t = both _ _ m.1 in
    let f = both _ _ t.1 in
    let k = both _ _ f.1 in
    record {
      mosaic = (mosaic_decided s.mosaic p.batches ceiling).holds m.0;
      sorting = (sorting_decided s.sorting p.jobs ceiling).holds t.0;
      flight = (flight_decided s.flight p.passes ceiling).holds f.0;
      kept = (keeps_decided s.flight p.passes p.order).holds k.0;
      order = (order_decided s.flight p.order).holds k.1;
    }

is_allowed : (sheet : List ℕ) (p : Plan) (figures : Figures) → is_plan (read_sheet sheet) p ≡ true → figures_of (read_sheet sheet) p ≡ figures
    → (read_sheet sheet).number ≡ 0 → IsAllowed sheet p figures
is_allowed sheet p figures e f z =
    record { allows = record { sound = z; allowed = record { plan = p; lawful = plan_true (read_sheet sheet) p e; layout = refl } }; has = f }

none_below : (sheet : List ℕ) (figures : Figures) → figures_of (read_sheet sheet) (chosen_plan (read_sheet sheet)) ≡ figures → NoneBelow sheet figures
unfolding figures_of Least
none_below sheet figures e = subst (NoneBelow sheet) e (record {
  mosaic = λ q a. plan_least_mosaic sheet a.sound ceiling a.allowed.plan a.allowed.lawful;
  sorting = λ q a. plan_least_sorting sheet a.sound ceiling a.allowed.plan a.allowed.lawful;
  flight = λ q a. plan_least_flight sheet a.sound ceiling a.allowed.plan a.allowed.lawful;
})

ours_allowed : (sheet : List ℕ) (p : Plan) (figures : Figures) → is_possible (read_sheet sheet).flight ≡ true → chosen_plan (read_sheet sheet) ≡ p
    → figures_of (read_sheet sheet) p ≡ figures → (read_sheet sheet).number ≡ 0 → IsAllowed sheet p figures
ours_allowed sheet p figures e c f z =
    record {
      allows = record
          { sound = z; allowed = record { plan = p; lawful = subst (PlanLawful (read_sheet sheet)) c (plan_lawful sheet z e); layout = refl } };
      has = f;
    }

list_first : (sheet : List ℕ) (p : Plan) → chosen_plan (read_sheet sheet) ≡ p → ListFirst sheet p
unfolding figure_of_sorting
list_first sheet p c = subst (ListFirst sheet) c (λ q a. (plan_taken sheet a.sound).comes_first a.allowed.plan.jobs a.allowed.lawful.sorting)

least_of_batches : (sheet : List ℕ) (p : Plan) → is_plan (read_sheet sheet) p ≡ true → AsEarly 0 p.batches → LeastOfBatches sheet p
unfolding figure_of_mosaic
least_of_batches sheet p e early q a same =
    batches_least (read_sheet sheet).mosaic p.batches a.allowed.plan.batches early (plan_true (read_sheet sheet) p e).mosaic a.allowed.lawful.mosaic same

says : (sheet : List ℕ) (c : Claim) → Computed sheet c → Says sheet c
says sheet (ready_at_holds times) c = c
says sheet (planned p figures) c =
    (ours_allowed sheet p figures c.0 c.1 c.2 c.5, none_below sheet figures (ap (figures_of (read_sheet sheet)) c.1 ∙ c.2), list_first sheet p c.1, c.3, c.4)
says sheet (best p figures) c = (is_allowed sheet p figures c.0 c.1 c.3, none_below sheet figures c.2)
says sheet (best_batched p figures) c = (is_allowed sheet p figures c.0 c.1 c.3, least_of_batches sheet p c.0 c.2)
says sheet (allowed p figures) c = is_allowed sheet p figures c.0 c.1 c.2
says sheet (impossible place) c = (c.0, (impossible_exactly sheet c.2).0 c.1)

all_say : (rs : List Row) → All Computed rs → All Says rs
all_say [] c = tt
all_say (r ∷ rs) c = (says r.sheet r.claim c.0, all_say rs c.1)

computed : All Computed table × FirstCase
unfolding ready_times is_plan figures_of AsEarly sheet_computes rules_compute planner_computes
computed = (
  (
    refl,
    (
      (refl, refl, refl, refl, refl, refl),
      (
        (refl, refl, (refl, (refl, (refl, tt))), refl),
        (
          (refl, refl, (refl, (refl, (refl, tt))), refl),
          (
            (refl, refl, refl),
            (
              (refl, refl, refl),
              (
                (refl, refl, refl),
                (
                  (refl, refl, refl, refl, refl, refl),
                  (
                    (refl, refl, refl),
                    (
                      (refl, refl, refl, refl, refl, refl),
                      (
                        (refl, refl, refl, refl),
                        (
                          (refl, refl, refl, refl, refl, refl),
                          (
                            (refl, refl, refl, refl, refl, refl),
                            (
                              (refl, refl, refl),
                              (
                                (refl, refl, refl, refl, refl, refl),
                                (
                                  (refl, refl, refl, refl, refl, refl),
                                  tt,
                                ),
                              ),
                            ),
                          ),
                        ),
                      ),
                    ),
                  ),
                ),
              ),
            ),
          ),
        ),
      ),
    ),
  ),
  (refl, refl),
)

-- What 01, and 02 where it says more, says of the sheets that 01 works through.
pub worked : All Says table
worked = all_say table computed.0

-- The bytes of the first, in and out.
pub first_case : FirstCase
first_case = computed.1
