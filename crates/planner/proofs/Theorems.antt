-- What holds of the plan that the program takes for a sheet, for every row of bytes as a sheet: it is lawful, no plan that obeys the rules under any ceiling
-- has a smaller figure, its sorting is the one that Req 03 takes, it starts as early as any, and the flight is called impossible exactly where no timetable
-- keeps the given order or, where none is given, a proper one. `read_sheet` is what reading gives (crate sheet), `PlanUnder`, `PlanLawful`, `AllowedFor` and
-- `SortingTaken` are of crate rules, `chosen_plan` is Call.antt's. What that means for a call is said in crate demands.
use Rattle.std.specs.Prelude.{ℕ, ◌≤◌, ◌<◌, ◌≡◌, refl, Bool, true, false, List, length}
use Rattle.std.proofs.Math.Path.{sym, subst}
use Rattle.std.proofs.Common.{◌∙◌, true≢false}
use native.Mathlib.Omega.{arith}
use Rattle.sheet.specs.Limits.{ceiling}
use Rattle.sheet.specs.Read.{read_sheet}
use Rattle.sheet.specs.Sound.{SheetSound}
use Rattle.sheet.proofs.Theorems.{read_sound}
use Rattle.sheet.specs.declared.FlightSection.{FlightSection}
use Rattle.rules.specs.Mosaic.{batch_at}
use Rattle.rules.specs.Sorting.{job_at}
use Rattle.rules.specs.ScannerList.{scanner_list, SortingTaken}
use Rattle.rules.specs.Flight.{passes_at, Keeps}
use Rattle.rules.specs.Plan.{Plan, PlanUnder, PlanLawful, AllowedFor}
use Rattle.rules.specs.declared.Job.{Job}
use Rattle.mosaic.specs.Plan.{lasts}
use Rattle.mosaic.proofs.Theorems.{mosaic_lawful, mosaic_figure_lem, mosaic_least, mosaic_earliest}
use Rattle.sorting.proofs.Theorems.{sorting_lawful, sorting_figure_lem, sorting_least, sorting_earliest}
use Rattle.sorting.proofs.Taken.{sorting_taken, sorting_taken_once}
use Rattle.flight.specs.Choice.{is_possible, chosen_order}
use Rattle.flight.specs.Chosen.{LongestBelowTurn, chosen_given}
use Rattle.flight.specs.Theorems.{flight_lawful, flight_figure_lem, flight_least, flight_earliest, flight_impossible, flight_free}
use Rattle.planner.specs.Call.{chosen_plan}
use Rattle.planner.specs.Theorems.{figure_of_mosaic, figure_of_sorting, figure_of_flight, Least, Impossible, order_given_lem, no_order_given}

module _ (sheet : List ℕ) (sound : (read_sheet sheet).number ≡ 0) where
  whole : SheetSound (read_sheet sheet)
  whole = read_sound sheet sound

  -- The flight is called impossible exactly where it is ..
  pub impossible_exactly : (is_possible (read_sheet sheet).flight ≡ false → Impossible (read_sheet sheet))
      × (Impossible (read_sheet sheet) → is_possible (read_sheet sheet).flight ≡ false)
  impossible_exactly = (λ e. is_impossible e (read_sheet sheet).flight.ordered refl, called_impossible)
    where
      f : FlightSection
      f = (read_sheet sheet).flight

      is_impossible : is_possible f ≡ false → (o : Bool) → f.ordered ≡ o → Impossible (read_sheet sheet)
      is_impossible e true o =
          Impossible.order_given_lem o
          (λ ps law keeps. (flight_impossible f whole.flight).0 e ceiling f.order ps law keeps (record { proper = whole.flight.given o; as_given = λ _. refl }))
      is_impossible e false o =
          Impossible.no_order_given o
          (λ w proper ps law keeps.
          (flight_impossible f whole.flight).0 e ceiling w ps law keeps (record { proper = proper; as_given = λ g. absurd (true≢false (sym g ∙ o)) }))

      called_impossible : Impossible (read_sheet sheet) → is_possible f ≡ false
      called_impossible (Impossible.order_given_lem o none) =
          (flight_impossible f whole.flight).1 (λ w ps law keeps allowed. none ps law (subst (λ (v : ℕ). Keeps f v ps) (allowed.as_given o) keeps))
      called_impossible (Impossible.no_order_given o none) =
          (flight_impossible f whole.flight).1 (λ w ps law keeps allowed. none w allowed.proper ps law keeps)

  -- .. and where no order is given, exactly where some block's longest delay is shorter than the turn (02, Req 06) ..
  pub free_impossible_exactly : (read_sheet sheet).flight.ordered ≡ false
      → (Impossible (read_sheet sheet) → LongestBelowTurn (read_sheet sheet).flight) × (LongestBelowTurn (read_sheet sheet).flight → Impossible (read_sheet sheet))
  free_impossible_exactly free = (
    λ none. (flight_free (read_sheet sheet).flight whole.flight free).0 (impossible_exactly.1 none),
    λ short. impossible_exactly.0 ((flight_free (read_sheet sheet).flight whole.flight free).1 short),
  )

  -- .. and so a sheet for which some plan obeys the rules under any ceiling is possible.
  pub lawful_possible : {c : ℕ} (q : Plan) → PlanUnder c (read_sheet sheet) q → is_possible (read_sheet sheet).flight ≡ true
  lawful_possible q l = go (is_possible (read_sheet sheet).flight) refl
    where
      go : (b : Bool) → is_possible (read_sheet sheet).flight ≡ b → b ≡ true
      go true e = refl
      go false e = absurd ((flight_impossible (read_sheet sheet).flight whole.flight).0 e _ q.order q.passes l.flight l.kept l.order)

  -- The plan of a sound and possible sheet is lawful.
  pub plan_lawful : is_possible (read_sheet sheet).flight ≡ true → PlanLawful (read_sheet sheet) (chosen_plan (read_sheet sheet))
  unfolding chosen_plan
  plan_lawful e =
      let h = flight_lawful (read_sheet sheet).flight whole.flight e in
      record {
        mosaic = mosaic_lawful (read_sheet sheet).mosaic whole.mosaic;
        sorting = sorting_lawful (read_sheet sheet).sorting whole.sorting;
        flight = h.0;
        kept = h.1;
        order = h.2;
      }

  -- Its sorting is the one to be taken (02, Req 03), and only one is.
  pub plan_taken : SortingTaken (read_sheet sheet).sorting (chosen_plan (read_sheet sheet)).jobs
  unfolding chosen_plan
  plan_taken = sorting_taken (read_sheet sheet).sorting whole.sorting

  pub taken_determined : (js ks : List Job) → SortingTaken (read_sheet sheet).sorting js → SortingTaken (read_sheet sheet).sorting ks → js ≡ ks
  taken_determined = sorting_taken_once (read_sheet sheet).sorting whole.sorting

  -- No plan that obeys the rules under any ceiling has a smaller figure in any section.
  pub plan_least_mosaic : Least figure_of_mosaic (read_sheet sheet) (chosen_plan (read_sheet sheet))
  unfolding Least figure_of_mosaic chosen_plan
  plan_least_mosaic c q l =
      omega (arith, mosaic_figure_lem (read_sheet sheet).mosaic whole.mosaic, mosaic_least (read_sheet sheet).mosaic whole.mosaic q.batches l.mosaic)

  pub plan_least_sorting : Least figure_of_sorting (read_sheet sheet) (chosen_plan (read_sheet sheet))
  unfolding Least figure_of_sorting chosen_plan
  plan_least_sorting c q l =
      omega (arith, sorting_figure_lem (read_sheet sheet).sorting whole.sorting, sorting_least (read_sheet sheet).sorting whole.sorting q.jobs l.sorting)

  pub plan_least_flight : Least figure_of_flight (read_sheet sheet) (chosen_plan (read_sheet sheet))
  unfolding Least figure_of_flight chosen_plan
  plan_least_flight c q l =
      omega (
        arith,
        flight_figure_lem (read_sheet sheet).flight whole.flight (lawful_possible q l),
        flight_least (read_sheet sheet).flight whole.flight q.order q.passes l.flight l.kept l.order,
      )

-- What holds against every allowed plan Q of a sheet, a row of bytes. Its starts are those of the timetable that the bytes give.
module _ (sheet q : List ℕ) (a : AllowedFor sheet q) where
  -- "The planner starts every mount, scan, desk job and pass as early as its batches or order allow": no later than Q, where Q has our batches ..
  pub plan_early_mosaic : lasts a.allowed.plan.batches ≡ lasts (chosen_plan (read_sheet sheet)).batches → (i : ℕ) → i < length a.allowed.plan.batches
      → (batch_at (chosen_plan (read_sheet sheet)).batches i).start ≤ (batch_at a.allowed.plan.batches i).start
  unfolding chosen_plan
  plan_early_mosaic same i l =
      mosaic_earliest (read_sheet sheet).mosaic (whole sheet a.sound).mosaic a.allowed.plan.batches a.allowed.lawful.mosaic same i l

  -- .. or our scanner list ..
  pub plan_early_sorting : scanner_list a.allowed.plan.jobs ≡ scanner_list (chosen_plan (read_sheet sheet)).jobs → (i : ℕ)
      → i < length a.allowed.plan.jobs
      → ((job_at (chosen_plan (read_sheet sheet)).jobs i).scan ≤ (job_at a.allowed.plan.jobs i).scan)
      × ((job_at (chosen_plan (read_sheet sheet)).jobs i).start ≤ (job_at a.allowed.plan.jobs i).start)
  unfolding chosen_plan
  plan_early_sorting same i l =
      sorting_earliest (read_sheet sheet).sorting (whole sheet a.sound).sorting a.allowed.plan.jobs a.allowed.lawful.sorting same i l

  -- .. or our pass order.
  pub plan_early_flight : a.allowed.plan.order ≡ (chosen_plan (read_sheet sheet)).order → (i : ℕ) → i < (read_sheet sheet).flight.blocks
      → ((passes_at (chosen_plan (read_sheet sheet)).passes i).first ≤ (passes_at a.allowed.plan.passes i).first)
      × ((passes_at (chosen_plan (read_sheet sheet)).passes i).second ≤ (passes_at a.allowed.plan.passes i).second)
  unfolding chosen_plan
  plan_early_flight same i l =
      flight_earliest (read_sheet sheet).flight (whole sheet a.sound).flight a.allowed.plan.passes a.allowed.lawful.flight keeps i l
    where
      keeps : Keeps (read_sheet sheet).flight (chosen_order (read_sheet sheet).flight) a.allowed.plan.passes
      keeps = subst (λ (w : ℕ). Keeps (read_sheet sheet).flight w a.allowed.plan.passes) same a.allowed.lawful.kept

  -- With a given order each pass of ours starts no later than the same pass of every Q.
  pub plan_earliest : (read_sheet sheet).flight.ordered ≡ true → (i : ℕ) → i < (read_sheet sheet).flight.blocks
      → ((passes_at (chosen_plan (read_sheet sheet)).passes i).first ≤ (passes_at a.allowed.plan.passes i).first)
      × ((passes_at (chosen_plan (read_sheet sheet)).passes i).second ≤ (passes_at a.allowed.plan.passes i).second)
  unfolding chosen_plan
  plan_earliest given = plan_early_flight (a.allowed.lawful.order.as_given given ∙ sym (chosen_given (read_sheet sheet).flight given))
