-- The three demands on the planner and the judge, in their own words and order, as theorems about calls; behind them what the change requests of 02 ask to be
-- shown. What a theorem asks of a call is what the contract of the function gives: `Called` of `planner::plan` (planner, Call.antt), `Viewed` of
-- `sevulamon_plan` (viewer, Viewed.antt), `j ≡ judged sheet plan` of `judge::judge` and `sevulamon_judge` (judge, Judged.antt), `Paged` of `page::page` and
-- `sevulamon_page` (page, Call.antt), and `GivesLength` of `sheet_lengths::length_due` (sheet_lengths, Lengths.antt). When a plan is allowed is said by
-- the rules alone (rules: Mosaic, Sorting, Flight, Plan). Rows of bytes are lists of numbers; where a law needs that they are below 256, as those of every
-- lent slice are, it says so (`AreBytes`).
use Rattle.std.specs.Prelude.{ℕ, zero, suc, ◌+◌, ◌*◌, ◌≤◌, ◌<◌, ◌≡◌, refl, true, false, get_or, drop}
use Rattle.std.proofs.Common.{sym, subst, ◌∙◌, true≢false, inl, inr, ⊎_elim}
use Rattle.std.proofs.Math.Path.{ap, ap₂}
use mathlib.Core.List.{List, ◌∷◌, ◌++◌}
use Rattle.std.proofs.Math.ListN.{length}
use native.Mathlib.Omega.{arith}
use borrow.Author.Tests.{le-ltb}
use Rattle.field.specs.Bytes.{number_at, bytes_of}
use Rattle.field.specs.Field.{field_at, field_bytes}
use Rattle.field.specs.Fields.{whole_at}
use Rattle.field.specs.declared.Field.TheVariants.{Whole}
use Rattle.sheet.specs.Limits.{ceiling, most_stations, most_turn, most_weight, most_strips, most_desks, most_strips_of_desk, most_blocks, table_length, plan_length}
use Rattle.sheet.specs.Limits.{page_length}
use Rattle.sheet.specs.Tags.{mosaic_head_tag, mosaic_strip_tag, sorting_head_tag, sorting_strip_tag, flight_head_tag, flight_block_tag, flight_order_tag}
use Rattle.sheet.specs.Tags.{flight_window_block_tag, plan_mosaic_tag, plan_sorting_tag}
use Rattle.sheet.specs.Refusals.{length_wrong, out_of_range, order_impossible, buffer_too_small, layout_wrong, rule_broken, figure_untrue, time_too_large, time_of_zero}
use Rattle.sheet.specs.Refusals.{longest_below_shortest}
use Rattle.sheet.specs.Read.{read_sheet}
use Rattle.sheet.proofs.Theorems.{read_sound}
use Rattle.sheet.specs.Among.{Among}
use Rattle.sheet.specs.FieldTable.{Between, TableRow, field_table, table_of, length_of, lengths_due, turn_flight_head, Value, values_of}
use Rattle.sheet.specs.Contents.{RowOfLength}
use Rattle.sheet.proofs.Contents.{head_lengths, head_length_lem, flight_head_values_lem}
use Rattle.sheet.specs.Causes.{NoMembers, OrderMissing, Permitted, FirstOut, CountOutOfRange, TimeTooLarge, TimeOfZero, TooMany, field_rows, rows_at}
use Rattle.sheet.specs.Table.{Reached, RefusedFor, RefusedForContent, RefusedForValue, RefusedForLongestBelowShortest}
use Rattle.sheet.specs.Rows.{row_at}
use Rattle.sheet.proofs.Decided.{whole_at_not_cut}
use Rattle.sheet.proofs.Theorems.{at_field}
use Rattle.sheet.proofs.Refused.{sound_exactly, not_eleven}
use Rattle.sheet.proofs.Values.{count_exactly, too_large_exactly, zero_exactly, window_exactly}
use Rattle.sheet.specs.Sections.{in_flight}
use Rattle.sheet.specs.Checks.{ends_section}
use Rattle.sheet.specs.Decode.{zeros, exact_block, next_members}
use Rattle.sheet.proofs.Stores.{length_zeros}
use Rattle.sheet.specs.Sound.{SheetSound, strips_in_all}
use Rattle.sheet.specs.FlightPlaces.{FieldRead, HeadRead, block_at, BlockRead}
use Rattle.sheet.proofs.FlightPlaces.{head_read, order_read, block_read}
use Rattle.sheet.specs.MovedPlaces.{moved_place, SameButPlaces}
use Rattle.sheet.specs.AbsentWeight.{StripAt, without_weight, with_weight_one}
use Rattle.sheet.proofs.AbsentWeight.{absent_weight}
use Rattle.sheet.specs.Weights.{WeightOut, MosaicWeightRead, SortingWeightRead, Unweighted}
use Rattle.sheet.proofs.Weights.{weight_refused, mosaic_weight_read, sorting_weight_read}
use Rattle.sheet.proofs.Weights.{unweighted_mosaic, unweighted_sorting}
use Rattle.sheet.specs.WrittenZero.{with_empty_head, with_written_zero}
use Rattle.sheet.proofs.WrittenZero.{written_zero}
use Rattle.sheet.specs.OneValue.{with_exact_delay, with_one_value}
use Rattle.sheet.proofs.OneValue.{one_value}
use Rattle.sheet.specs.SectionLaws.{BlockSound}
use Rattle.sheet.specs.declared.Block.{Block}
use Rattle.sheet.specs.declared.Reading.{Reading}
use Rattle.sheet.specs.declared.FlightSection.{FlightSection}
use Rattle.sheet.specs.declared.Sheet.{Sheet}
use Rattle.sheet_lengths.specs.Lengths.{lengths_given, GivesLength}
use Rattle.sheet_lengths.proofs.Theorems.{row_length, length_row, sole_row_length, head_lengths_due, strip_lengths_due, desk_strip_lengths_due, no_length}
use Rattle.sheet_lengths.proofs.Theorems.{other_tag_none, other_count_none}
use Rattle.sheet_lengths.specs.declared.LengthDue.{LengthDue}
use Rattle.sheet_lengths.specs.declared.LengthDue.TheVariants.{Bytes, Either, None}
use Rattle.order.specs.Order.{Proper}
use Rattle.base.specs.Answer.{answer, written}
use Rattle.base.specs.declared.Answer.{Answer}
use Rattle.base.specs.LeastFigure.{NoLarger, LeastFigure, same_least}
use Rattle.rules.specs.Mosaic.{batch_at, batch_before, finish_due, MosaicUnder, MosaicLawful, mosaic_figure}
use Rattle.rules.specs.Sorting.{job_at, SortingUnder, SortingLawful, sorting_figure}
use Rattle.rules.specs.ScannerList.{scanner_list, SameOrAfter, SortingTaken}
use Rattle.rules.specs.Flight.{passes_at, second_due, DelayKept, AllApart, FlightUnder, FlightLawful, Keeps, OrderAllowed, flight_figure}
use Rattle.rules.specs.declared.Batch.{Batch}
use Rattle.rules.specs.declared.Job.{Job}
use Rattle.rules.specs.declared.Passes.{Passes}
use Rattle.rules.specs.Plan.{Plan, members_bytes, batch_bytes, job_bytes, mosaic_bytes, sorting_bytes, mosaic_fields, sorting_fields, flight_fields, plan_bytes, PlanUnder, AllowedFor}
use Rattle.plan_format.specs.Format.{size_of, flight_head_form, numbers_bytes, form_bytes}
use Rattle.plan_format.specs.ByteLaws.{AreBytes}
use Rattle.plan_read.specs.PlanRead.{batch_from, passes_from, blocks_from}
use Rattle.rules_laws.proofs.FlightRunning.{all_apart}
use Rattle.rules_laws.specs.Turns.{NextApart}
use Rattle.rules_laws.proofs.Turns.{neighbours_apart, neighbours_enough}
use Rattle.rules_laws.specs.Delays.{with_delays, DelaysChosen}
use Rattle.rules_laws.proofs.Delays.{exact_delay, kept_choice, same_order, same_figure}
use Rattle.rules_laws.proofs.Delays.{choice_kept}
use Rattle.rules_laws.specs.Mounts.{MountsWait, MountsMoved}
use Rattle.rules_laws.proofs.Mounts.{waiting_obeys, moved_obeys, moved_figure}
use Rattle.rules_laws.proofs.Determined.{plan_most, plan_determined}
use Rattle.rules_laws.proofs.Fits.{mosaic_figure_most}
use Rattle.rules_laws.proofs.SortingFits.{sorting_figure_most}
use Rattle.rules_laws.proofs.Present.{present_some}
use Rattle.rules_laws.specs.Unweighted.{completion_sum, finish_sum}
use Rattle.rules_laws.proofs.Unweighted.{mosaic_unweighted, sorting_unweighted}
use Rattle.judge.specs.Judged.{part_at, turned_back, found, judged}
use Rattle.judge_members.specs.Members.{present, member_place}
use Rattle.judge_members.specs.declared.Progress.{Progress}
use Rattle.judge_laws.specs.Due.{DueUpTo, LayoutFault, LaidOut}
use Rattle.judge_laws.specs.HeadLength.{EightByteHead}
use Rattle.judge_laws.proofs.HeadLength.{another_length_not_due}
use Rattle.judge.specs.declared.Judged.{Judged}
use Rattle.judge_laws.specs.Fault.{MemberFollows, HeadFollows, SectionFault, Fault}
use Rattle.judge_laws.specs.Fault.{Reached as Judging}
use Rattle.judge_laws.proofs.OtherPlace.{same_judged, same_refused}
use Rattle.judge_laws.specs.Theorems.{FiguresTrue, FiguresGiven}
use Rattle.judge_laws.proofs.Theorems.{judge_allows, allowed_judged, allowed_found, allowed_stated, judged_figures, figures_given}
use Rattle.judge_laws.proofs.Theorems.{fault_judged, judged_fault, judged_sheet_only}
use Rattle.mosaic.specs.Plan.{lasts}
use Rattle.mosaic.proofs.Theorems.{mosaic_ceiling, mosaic_mounts}
use Rattle.sorting.proofs.Theorems.{sorting_ceiling}
use Rattle.flight.specs.Chosen.{LongestBelowTurn}
use Rattle.flight.specs.Choice.{one_by_one, chosen_order}
use Rattle.flight.specs.Theorems.{flight_ceiling, flight_figure_lem, flight_least, flight_unsearched}
use Rattle.planner.specs.Call.{chosen_plan, sheet_answer, answer_of, cleared_to, table_after, Called}
use Rattle.planner.specs.Outcomes.{Large, Accepted, our_bytes}
use Rattle.planner.proofs.Outcomes.{call_accepted, call_refused, call_small, call_cleared}
use Rattle.planner.specs.TurnedBack.{TurnedBack}
use Rattle.planner.proofs.TurnedBack.{turned_back_lem, turned_back_only, eleven_only, sheet_only, else_accepted}
use Rattle.planner.specs.Theorems.{figure_of_mosaic, figure_of_sorting, figure_of_flight, Least, Impossible}
use Rattle.planner.proofs.Theorems.{plan_lawful, plan_least_mosaic, plan_least_sorting}
use Rattle.planner.specs.OtherPlace.{moved_answer}
use Rattle.planner.proofs.OtherPlace.{same_answer, same_buffer, same_table}
use Rattle.planner.specs.Theorems.{NoTimetable, NoProperOrder}
use Rattle.planner.proofs.Theorems.{free_impossible_exactly, plan_least_flight, plan_early_mosaic, plan_early_sorting, plan_early_flight, plan_earliest, plan_taken, taken_determined}
use Rattle.viewer.specs.Viewed.{Viewed}
use Rattle.page.specs.Page.{page_lines, page_bytes}
use Rattle.page.specs.Call.{page_of, Paged}
use Rattle.page_laws.specs.Lines.{InLines}
use Rattle.page_laws.proofs.Lines.{page_in_lines, page_length_lem}
use Rattle.page_laws.proofs.Room.{page_most}
use Rattle.page_laws.specs.Uncut.{PageUncut}
use Rattle.page_laws.proofs.Uncut.{page_uncut}
use Rattle.page_laws.proofs.Determined.{page_determines}
use Rattle.page_laws.specs.Outcomes.{PagePrinted}
use Rattle.page_laws.proofs.Outcomes.{page_accepted, page_left, page_too_small, page_not_allowed, page_allowed, page_judge_only}

-- TERMS.

-- What an accepted call has written: place 0, as many bytes as the answer says, which have room in a buffer of 1,103 bytes, and nothing behind them.
pub record WritesPlan (plan plan_after : List ℕ) (r : Answer) : Type 0 where
  pub place : r.place ≡ 0
  pub long : length (written r plan_after) ≡ r.length
  pub most : r.length ≤ plan_length
  pub behind : drop r.length plan_after ≡ drop r.length plan

-- The figures of a plan are at most those of another, in each section.
pub record NoneLarger (s : Sheet) (p q : Plan) : Type 0 where
  pub mosaic : figure_of_mosaic s p ≤ figure_of_mosaic s q
  pub sorting : figure_of_sorting s p ≤ figure_of_sorting s q
  pub flight : figure_of_flight s p ≤ figure_of_flight s q

-- No allowed plan of the sheet has a smaller figure, of one section, than q.
unfoldable pub IsLeast : (Sheet → Plan → ℕ) → (sheet q : List ℕ) → AllowedFor sheet q → Type 0
IsLeast figure sheet q a =
    (other : List ℕ) (b : AllowedFor sheet other) → figure (read_sheet sheet) a.allowed.plan ≤ figure (read_sheet sheet) b.allowed.plan

-- The figure of q equals ours exactly when no allowed plan of the sheet has a smaller one than q.
pub record BestExactly (figure : Sheet → Plan → ℕ) (sheet ours q : List ℕ) (o : AllowedFor sheet ours) (a : AllowedFor sheet q) : Type 0 where
  pub equal_best : figure (read_sheet sheet) a.allowed.plan ≡ figure (read_sheet sheet) o.allowed.plan → IsLeast figure sheet q a
  pub best_equal : IsLeast figure sheet q a → figure (read_sheet sheet) a.allowed.plan ≡ figure (read_sheet sheet) o.allowed.plan

-- the bytes of an accepted plan have room in the least buffer
bytes_most : (sheet plan table plan_after : List ℕ) (r : Answer) → Accepted sheet plan table plan_after r → r.length ≤ plan_length
unfolding our_bytes
bytes_most sheet plan table plan_after r a =
    omega (
      arith,
      a.long,
      ap length a.bytes,
      plan_most (read_sheet sheet) (read_sound sheet a.sound) (chosen_plan (read_sheet sheet)) (plan_lawful sheet a.sound a.possible),
    )

-- "A sheet is otherwise sound where no cause that the planner checks it for, 11 apart, lies in it": what is meant by `(read_sheet sheet).number ≡ 0` below.
pub otherwise_sound : (sheet : List ℕ) → ((read_sheet sheet).number ≡ 0 → (number place : ℕ) → RefusedFor sheet number place → ⊥)
    × (((number place : ℕ) → RefusedFor sheet number place → ⊥) → (read_sheet sheet).number ≡ 0)
otherwise_sound = sound_exactly

-- A planning call: the sheet, the plan buffer and the working table at entry, the plan buffer and the table at exit, and the answer.
module _ (sheet plan table plan_after table_end : List ℕ) (r : Answer) (call : Called sheet plan table plan_after table_end r) where
  -- DEMAND 1. "Buffers: sheet, plan buffer and working table are after each call exactly as the papers state, for all contents and lengths."
  -- The sheet is lent for reading, so it is as it was.
  -- "Callers owe us no check, and each call ends": no function that users call has a `requires`, and that a call ends is part of its proof.

  -- "A refused call writes no plan byte;"
  pub refused_writes_nothing : (r.number ≡ 0 → ⊥) → (plan_after ≡ plan) × (r.length ≡ 0)
  refused_writes_nothing = call_refused sheet plan table plan_after table_end r call

  -- "an accepted one writes the plan and no byte past it": `written` is as many bytes as the answer says, at most 1,103, and behind them the buffer is as it
  -- was. That they are the plan is demand 3.
  pub accepted_writes_the_plan : r.number ≡ 0 → WritesPlan plan plan_after r
  accepted_writes_the_plan z =
      let a = call_accepted sheet plan table plan_after table_end r call z in
      record { place = a.place; long = a.long; most = bytes_most sheet plan table plan_after r a; behind = a.behind }

  -- Where a buffer is too small everything is as it was; else the first 6,400 numbers of the table are zero and the rest unchanged, after every call.
  pub small_leaves_everything : (Large plan table → ⊥) → (plan_after ≡ plan) × (table_end ≡ table)
  small_leaves_everything = call_small sheet plan table plan_after table_end r call

  pub large_clears_the_table : Large plan table → table_end ≡ cleared_to table_length table
  large_clears_the_table = call_cleared sheet plan table plan_after table_end r call

  -- Number and place are those of the table "Turned back": each is given where its cause lies (`TurnedBack`), and not otherwise.
  pub turned_back_for_its_cause : (number place : ℕ) → TurnedBack sheet plan table number place → r ≡ answer number place 0
  turned_back_for_its_cause = turned_back_lem sheet plan table plan_after table_end r call

  pub not_turned_back_otherwise : (r.number ≡ 0 → ⊥) → TurnedBack sheet plan table r.number r.place
  not_turned_back_otherwise = turned_back_only sheet plan table plan_after table_end r call

-- DEMAND 2. "The judge follows the rules alone:" no crate of the planner is beneath it (crates.txt). A judging call: the sheet, the plan and the answer.
module _ (sheet plan : List ℕ) (j : Judged) (call : j ≡ judged sheet plan) where
  -- "it allows every plan that obeys them, with the true figures,"
  pub allows_what_obeys : (a : AllowedFor sheet plan) → (j.number ≡ 0) × FiguresTrue (read_sheet sheet) a.allowed.plan j
  allows_what_obeys a = (
    ap (λ (x : Judged). x.number) call ∙ allowed_judged sheet plan a,
    subst (FiguresTrue (read_sheet sheet) a.allowed.plan) (sym call) (judged_figures sheet plan a),
  )

  -- 01: "the figure of each section, 0 for an absent section (a present figure is at least 1)"
  pub figure_of_each_section : AllowedFor sheet plan → FiguresGiven (read_sheet sheet) j
  figure_of_each_section a = subst (FiguresGiven (read_sheet sheet)) (sym call) (figures_given sheet plan a)

  -- "and turns back every other": what it allows is allowed by the rules. A plan is a row of bytes.
  pub allows_nothing_else : AreBytes plan → j.number ≡ 0 → AllowedFor sheet plan
  allows_nothing_else bytes z = judge_allows sheet plan bytes (ap (λ (x : Judged). x.number) (sym call) ∙ z)

  -- "by the stated number and place": each fault of the table gives its number and its place, with figures 0, and not otherwise (judge_laws, Fault.antt).
  pub turns_back_for_its_fault : (number place : ℕ) → Fault sheet plan number place → j ≡ turned_back number place
  turns_back_for_its_fault number place f = call ∙ fault_judged sheet plan number place f

  pub turns_back_not_otherwise : (j.number ≡ 0 → ⊥) → Fault sheet plan j.number j.place
  turns_back_not_otherwise h =
      subst (λ (x : Judged). (x.number ≡ 0 → ⊥) → Fault sheet plan x.number x.place) (sym call) (judged_fault sheet plan) h

-- An accepted planning call. `written r plan_after` is the plan that it has written: the first bytes of the buffer, as many as the answer says.
module _ (sheet plan table plan_after table_end : List ℕ) (r : Answer) (call : Called sheet plan table plan_after table_end r) (z : r.number ≡ 0) where
  accepted : Accepted sheet plan table plan_after r
  accepted = call_accepted sheet plan table plan_after table_end r call z

  chosen : AllowedFor sheet (written r plan_after)
  unfolding our_bytes
  chosen =
      record {
        sound = accepted.sound;
        allowed = record { plan = chosen_plan (read_sheet sheet); lawful = plan_lawful sheet accepted.sound accepted.possible; layout = accepted.bytes };
      }

  -- Demand 2, its last sentence: "Each plan that we write, it allows", with the figures that the plan states ..
  pub our_plan_judged : ((judged sheet (written r plan_after)).number ≡ 0) × (judged sheet (written r plan_after) ≡ found (read_sheet sheet) (written r plan_after))
  our_plan_judged = (allowed_judged sheet (written r plan_after) chosen, allowed_found sheet (written r plan_after) chosen)

  -- .. and those are the true ones.
  pub our_figures_true : (ours : AllowedFor sheet (written r plan_after))
      → FiguresTrue (read_sheet sheet) ours.allowed.plan (judged sheet (written r plan_after))
  our_figures_true ours = judged_figures sheet (written r plan_after) ours

  -- DEMAND 3. "Our plan is allowed;"
  pub our_plan_allowed : AllowedFor sheet (written r plan_after)
  our_plan_allowed = chosen

  -- the timetable of those bytes is the one that the program has chosen
  ours_chosen : (ours : AllowedFor sheet (written r plan_after)) → ours.allowed.plan ≡ chosen_plan (read_sheet sheet)
  unfolding chosen
  ours_chosen ours =
      plan_determined (read_sheet sheet) (read_sound sheet accepted.sound) ours.allowed.plan (chosen_plan (read_sheet sheet)) ours.allowed.lawful
      chosen.allowed.lawful (sym ours.allowed.layout ∙ chosen.allowed.layout)

  -- No plan that obeys the rules under any ceiling has a smaller figure in any section (Req 01) ..
  pub no_smaller_figure_at_all : (ours : AllowedFor sheet (written r plan_after)) (c : ℕ) (q : Plan) → PlanUnder c (read_sheet sheet) q
      → NoneLarger (read_sheet sheet) ours.allowed.plan q
  unfolding Least
  no_smaller_figure_at_all ours c q law =
      rw (ours_chosen ours)
      (record {
        mosaic = plan_least_mosaic sheet accepted.sound c q law;
        sorting = plan_least_sorting sheet accepted.sound c q law;
        flight = plan_least_flight sheet accepted.sound c q law;
      })

  module _ (ours : AllowedFor sheet (written r plan_after)) (q : List ℕ) (a : AllowedFor sheet q) where
    -- .. and so "no allowed plan of the sheet has a smaller figure in any section;"
    pub no_smaller_figure : NoneLarger (read_sheet sheet) ours.allowed.plan a.allowed.plan
    unfolding Least
    no_smaller_figure =
        rw (ours_chosen ours)
        (record {
          mosaic = plan_least_mosaic sheet accepted.sound ceiling a.allowed.plan a.allowed.lawful;
          sorting = plan_least_sorting sheet accepted.sound ceiling a.allowed.plan a.allowed.lawful;
          flight = plan_least_flight sheet accepted.sound ceiling a.allowed.plan a.allowed.lawful;
        })

    best_exactly : (figure : Sheet → Plan → ℕ) → Least figure (read_sheet sheet) (chosen_plan (read_sheet sheet))
        → BestExactly figure sheet (written r plan_after) q ours a
    unfolding Least IsLeast
    best_exactly figure least =
        record {
          equal_best = λ e other b. at_most _ _ _ e (below ceiling b.allowed.plan b.allowed.lawful);
          best_equal = λ h. same _ _ (h (written r plan_after) ours) (below ceiling a.allowed.plan a.allowed.lawful);
        }
      where
        below : Least figure (read_sheet sheet) ours.allowed.plan
        below = rw (ours_chosen ours) least

        at_most : (i j k : ℕ) → i ≡ j → j ≤ k → i ≤ k
        at_most i j k e h = omega arith

        same : (i j : ℕ) → i ≤ j → j ≤ i → i ≡ j
        same i j h k = omega arith

    -- More exactly, section by section: another plan is best there exactly where its figure equals ours.
    pub best_exactly_mosaic : BestExactly figure_of_mosaic sheet (written r plan_after) q ours a
    best_exactly_mosaic = best_exactly figure_of_mosaic (plan_least_mosaic sheet a.sound)

    pub best_exactly_sorting : BestExactly figure_of_sorting sheet (written r plan_after) q ours a
    best_exactly_sorting = best_exactly figure_of_sorting (plan_least_sorting sheet a.sound)

    pub best_exactly_flight : BestExactly figure_of_flight sheet (written r plan_after) q ours a
    best_exactly_flight = best_exactly figure_of_flight (plan_least_flight sheet a.sound)

    -- "with a given pass order each pass starts no later than in any allowed plan;"
    pub each_pass_earliest : (read_sheet sheet).flight.ordered ≡ true → (i : ℕ) → i < (read_sheet sheet).flight.blocks
        → ((passes_at ours.allowed.plan.passes i).first ≤ (passes_at a.allowed.plan.passes i).first)
        × ((passes_at ours.allowed.plan.passes i).second ≤ (passes_at a.allowed.plan.passes i).second)
    each_pass_earliest = rw (ours_chosen ours) (plan_earliest sheet q a)

    -- 01: "The planner starts every mount, scan, desk job and pass as early as its batches or order allow": no later than a plan with our batches ..
    pub mounts_early : lasts a.allowed.plan.batches ≡ lasts ours.allowed.plan.batches → (i : ℕ) → i < length a.allowed.plan.batches
        → (batch_at ours.allowed.plan.batches i).start ≤ (batch_at a.allowed.plan.batches i).start
    mounts_early = rw (ours_chosen ours) (plan_early_mosaic sheet q a)

    -- .. or our scanner list ..
    pub jobs_early : scanner_list a.allowed.plan.jobs ≡ scanner_list ours.allowed.plan.jobs → (i : ℕ) → i < length a.allowed.plan.jobs
        → ((job_at ours.allowed.plan.jobs i).scan ≤ (job_at a.allowed.plan.jobs i).scan)
        × ((job_at ours.allowed.plan.jobs i).start ≤ (job_at a.allowed.plan.jobs i).start)
    jobs_early = rw (ours_chosen ours) (plan_early_sorting sheet q a)

    -- .. or our pass order.
    pub passes_early : a.allowed.plan.order ≡ ours.allowed.plan.order → (i : ℕ) → i < (read_sheet sheet).flight.blocks
        → ((passes_at ours.allowed.plan.passes i).first ≤ (passes_at a.allowed.plan.passes i).first)
        × ((passes_at ours.allowed.plan.passes i).second ≤ (passes_at a.allowed.plan.passes i).second)
    passes_early = rw (ours_chosen ours) (plan_early_flight sheet q a)

-- "and 11 is given exactly when the sheet is otherwise sound and no timetable keeps the order."
module _ (sheet plan table plan_after table_end : List ℕ) (r : Answer) (call : Called sheet plan table plan_after table_end r) where
  -- Only where an order is given and no passes are a timetable that keeps it or, since Req 06, none is given and none keep a proper one (`Impossible`) ..
  pub eleven_only_then : r.number ≡ order_impossible → Large plan table × ((read_sheet sheet).number ≡ 0) × Impossible (read_sheet sheet)
  eleven_only_then = eleven_only sheet plan table plan_after table_end r call

  -- .. and then always, with buffers large enough, at the one place that the reading fixes: the order field's or, without one, the flight head's (Req 06).
  pub eleven_always_then : Large plan table → (read_sheet sheet).number ≡ 0 → Impossible (read_sheet sheet)
      → r ≡ answer order_impossible (read_sheet sheet).flight.place 0
  eleven_always_then large sound none =
      turned_back_lem sheet plan table plan_after table_end r call order_impossible (read_sheet sheet).flight.place (TurnedBack.impossible large sound none refl refl)

  -- Every other sound sheet is accepted.
  pub accepted_else : Large plan table → (read_sheet sheet).number ≡ 0 → (Impossible (read_sheet sheet) → ⊥) → r.number ≡ 0
  accepted_else = else_accepted sheet plan table plan_after table_end r call

-- A call from C is a call with a working table of 6,400 zeros: all that is said of calls holds of it.
pub from_c : (sheet plan plan_after : List ℕ) (r : Answer) → Viewed sheet plan plan_after r
    → Called sheet plan (zeros table_length) plan_after (table_after (length plan) (zeros table_length)) r
from_c sheet plan plan_after r v =
    record { answer = rw (length_zeros table_length) v.answer; buffer = rw (length_zeros table_length) v.buffer; table = refl }

-- THE CHANGE REQUESTS (02).

-- REQ 01. "The plan's ceiling of 10,000,000 remains enough: for each section's timetable that would pass it there is one within it of no larger figure".
-- A timetable that obeys every rule of its section but the ceiling obeys the rules under some ceiling c, as high as it needs; one that obeys them under the
-- ceiling of 10,000,000 is called lawful.
pub record ButCeiling {T : Type 0} (Under : ℕ → T → Type 0) (t : T) : Type 0 where
  pub c : ℕ
  pub under : Under c t

-- passes that obey the rules under the ceiling c and keep an order that the sheet allows
pub record FlightKept (f : FlightSection) (c : ℕ) (ps : List Passes) : Type 0 where
  pub order : ℕ
  pub allowed : OrderAllowed f order
  pub under : FlightUnder c f ps
  pub kept : Keeps f order ps

-- v is the least figure without any ceiling exactly where it is the least within the ceiling of 10,000,000
abbrev pub SameLeast : {T : Type 0} → (ℕ → T → Type 0) → (T → ℕ) → ℕ → Type 0
SameLeast Under figure v =
    (LeastFigure (Under ceiling) figure v → LeastFigure (ButCeiling Under) figure v)
    × (LeastFigure (ButCeiling Under) figure v → LeastFigure (Under ceiling) figure v)

same_under : {T : Type 0} (Under : ℕ → T → Type 0) (figure : T → ℕ) → ((c : ℕ) (t : T) → Under c t → NoLarger (Under ceiling) figure t)
    → (v : ℕ) → SameLeast Under figure v
same_under Under figure enough v =
    same_least (Under ceiling) (ButCeiling Under) figure (λ t u. record { c = ceiling; under = u }) (λ t b. enough b.c t b.under) v

-- For every otherwise sound sheet: for each timetable that obeys the rules under some ceiling there is a lawful one of no larger figure ..
module _ (sheet : List ℕ) (sound : (read_sheet sheet).number ≡ 0) where
  whole : SheetSound (read_sheet sheet)
  whole = read_sound sheet sound

  pub ceiling_enough_mosaic : (c : ℕ) (bs : List Batch) → MosaicUnder c (read_sheet sheet).mosaic bs
      → NoLarger (MosaicLawful (read_sheet sheet).mosaic) (mosaic_figure (read_sheet sheet).mosaic) bs
  ceiling_enough_mosaic c bs law = mosaic_ceiling (read_sheet sheet).mosaic whole.mosaic bs law

  pub ceiling_enough_sorting : (c : ℕ) (js : List Job) → SortingUnder c (read_sheet sheet).sorting js
      → NoLarger (SortingLawful (read_sheet sheet).sorting) (sorting_figure (read_sheet sheet).sorting) js
  ceiling_enough_sorting c js law = sorting_ceiling (read_sheet sheet).sorting whole.sorting js law

  -- .. in flight one that keeps the same proper order.
  pub ceiling_enough_flight : (c w : ℕ) (ps : List Passes) → FlightUnder c (read_sheet sheet).flight ps → Keeps (read_sheet sheet).flight w ps
      → Proper (read_sheet sheet).flight.blocks w
      → NoLarger (λ qs. FlightLawful (read_sheet sheet).flight qs × Keeps (read_sheet sheet).flight w qs) (flight_figure (read_sheet sheet).flight) ps
  ceiling_enough_flight c w ps law kept proper = flight_ceiling (read_sheet sheet).flight whole.flight w ps law kept proper

  -- So the least figure without any ceiling is the least within it, in each section ..
  pub same_least_mosaic : (v : ℕ) → SameLeast (λ c. MosaicUnder c (read_sheet sheet).mosaic) (mosaic_figure (read_sheet sheet).mosaic) v
  same_least_mosaic = same_under (λ c. MosaicUnder c (read_sheet sheet).mosaic) (mosaic_figure (read_sheet sheet).mosaic) ceiling_enough_mosaic

  pub same_least_sorting : (v : ℕ) → SameLeast (λ c. SortingUnder c (read_sheet sheet).sorting) (sorting_figure (read_sheet sheet).sorting) v
  same_least_sorting = same_under (λ c. SortingUnder c (read_sheet sheet).sorting) (sorting_figure (read_sheet sheet).sorting) ceiling_enough_sorting

  pub same_least_flight : (v : ℕ) → SameLeast (FlightKept (read_sheet sheet).flight) (flight_figure (read_sheet sheet).flight) v
  same_least_flight = same_under (FlightKept (read_sheet sheet).flight) (flight_figure (read_sheet sheet).flight) enough
    where
      enough : (c : ℕ) (ps : List Passes) → FlightKept (read_sheet sheet).flight c ps
          → NoLarger (FlightKept (read_sheet sheet).flight ceiling) (flight_figure (read_sheet sheet).flight) ps
      enough c ps k =
          let w = flight_ceiling (read_sheet sheet).flight whole.flight k.order ps k.under k.kept k.allowed.proper in
          record {
            timetable = w.timetable;
            obeys = record { order = k.order; allowed = k.allowed; under = w.obeys.0; kept = w.obeys.1 };
            no_larger = w.no_larger;
          }

  -- .. and where no allowed order is kept within the ceiling, none is without it: 11 is never given because of the ceiling.
  pub impossible_at_all : Impossible (read_sheet sheet) → (c w : ℕ) (ps : List Passes) → OrderAllowed (read_sheet sheet).flight w
      → FlightUnder c (read_sheet sheet).flight ps → Keeps (read_sheet sheet).flight w ps → ⊥
  impossible_at_all none c w ps allowed law kept =
      let q = flight_ceiling (read_sheet sheet).flight whole.flight w ps law kept allowed.proper in
      possible none q.timetable q.obeys.0 q.obeys.1
    where
      possible : Impossible (read_sheet sheet) → (qs : List Passes) → FlightLawful (read_sheet sheet).flight qs → Keeps (read_sheet sheet).flight w qs → ⊥
      possible (Impossible.order_given_lem o none_keeps) qs lawful keeps =
          none_keeps qs lawful (subst (λ (v : ℕ). Keeps (read_sheet sheet).flight v qs) (allowed.as_given o) keeps)
      possible (Impossible.no_order_given o none_keeps) qs lawful keeps = none_keeps w allowed.proper qs lawful keeps

-- REQ 02. A page call: the sheet, the plan and the page buffer at entry, the page buffer at exit, and the answer. Page.antt of crate page says what the page of
-- a timetable is, line by line, and Line.antt of crate page_lines what a line is, column by column. `written r page_after` is what the call has written: the
-- first bytes of the buffer, as many as the answer says.
module _ (sheet plan page page_after : List ℕ) (r : Answer) (call : Paged sheet plan page page_after r) where
  -- "Number 2 is given also for a page buffer below 3,069 bytes, before the judge is tried."
  pub small_page_is_two : length page < page_length → r ≡ answer buffer_too_small 0 0
  small_page_is_two = page_too_small sheet plan page page_after r call

  -- "Only a plan the judge allows is printed;" and each such plan is, where the buffer is large enough.
  pub only_allowed_is_printed : (j : Judged) → j ≡ judged sheet plan → r.number ≡ 0 → j.number ≡ 0
  only_allowed_is_printed j judging z = ap (λ (x : Judged). x.number) judging ∙ (page_accepted sheet plan page page_after r call z).no_fault

  module _ (large : page_length ≤ length page) (j : Judged) (judging : j ≡ judged sheet plan) where
    pub allowed_is_printed : j.number ≡ 0 → r.number ≡ 0
    allowed_is_printed z = page_allowed sheet plan page page_after r call large (sym (ap (λ (x : Judged). x.number) judging) ∙ z)

    -- "for any other the judge's number and place come back" ..
    pub judge_comes_back : (j.number ≡ 0 → ⊥) → r ≡ answer j.number j.place 0
    judge_comes_back h = rw judging (page_not_allowed sheet plan page page_after r call large (λ q. h (ap (λ (x : Judged). x.number) judging ∙ q)))

  -- .. "and the page is untouched", with 2 as well.
  pub refused_leaves_the_page : (r.number ≡ 0 → ⊥) → (page_after ≡ page) × (r.length ≡ 0)
  refused_leaves_the_page = page_left sheet plan page page_after r call

  module _ (z : r.number ≡ 0) where
    paged : PagePrinted sheet plan page page_after r
    paged = page_accepted sheet plan page page_after r call z

    -- What is printed is an allowed plan. A plan is a row of bytes.
    pub printed_is_allowed : AreBytes plan → AllowedFor sheet plan
    printed_is_allowed bytes = judge_allows sheet plan bytes paged.no_fault

    -- "No byte past the last line is written. This call .. also returns the length written."
    pub nothing_past_the_last_line : (r.place ≡ 0) × (drop r.length page_after ≡ drop r.length page)
    nothing_past_the_last_line = (paged.place, paged.behind)

    module _ (a : AllowedFor sheet plan) where
      -- What is written is the page of the plan's timetable ..
      pub page_is_printed : (written r page_after ≡ page_bytes (read_sheet sheet) a.allowed.plan) × (r.length ≡ length (written r page_after))
      unfolding page_of
      page_is_printed = (
        paged.bytes ∙ ap (page_bytes (read_sheet sheet)) (allowed_stated sheet plan a),
        paged.long ∙ ap length (sym paged.bytes),
      )

      -- .. "in lines of exactly 32 columns and a line feed", so that its length is 33 times the lines, and at most 3,069.
      pub printed_in_lines : InLines (page_lines (read_sheet sheet) a.allowed.plan) (written r page_after)
      printed_in_lines =
          subst (InLines (page_lines (read_sheet sheet) a.allowed.plan)) (sym page_is_printed.0) (page_in_lines (read_sheet sheet) a.allowed.plan)

      pub page_long : (r.length ≡ 33 * length (page_lines (read_sheet sheet) a.allowed.plan)) × (r.length ≤ page_length)
      page_long = (long ∙ page_length_lem (read_sheet sheet) a.allowed.plan, omega (arith, long, most))
        where
          long : r.length ≡ length (page_bytes (read_sheet sheet) a.allowed.plan)
          long = page_is_printed.1 ∙ ap length page_is_printed.0

          most : length (page_bytes (read_sheet sheet) a.allowed.plan) ≤ page_length
          most = page_most (read_sheet sheet) a.allowed.plan (read_sound sheet a.sound) a.allowed.lawful

      -- No number is cut: each fits its columns, stands in them "right-aligned with spaces, no leading zeros", and is read back from them.
      pub no_number_cut : PageUncut (read_sheet sheet) a.allowed.plan
      no_number_cut = page_uncut (read_sheet sheet) a.allowed.plan (read_sound sheet a.sound) a.allowed.lawful

-- "Of two allowed plans for one sheet, the pages are equal exactly when the plans' bytes are."
module _ (sheet p q page₁ page₂ after₁ after₂ : List ℕ) (r₁ r₂ : Answer) (call₁ : Paged sheet p page₁ after₁ r₁) (call₂ : Paged sheet q page₂ after₂ r₂)
    (z₁ : r₁.number ≡ 0) (z₂ : r₂.number ≡ 0) (a : AllowedFor sheet p) (b : AllowedFor sheet q) where
  first_page : written r₁ after₁ ≡ page_bytes (read_sheet sheet) a.allowed.plan
  first_page = (page_is_printed sheet p page₁ after₁ r₁ call₁ z₁ a).0

  second_page : written r₂ after₂ ≡ page_bytes (read_sheet sheet) b.allowed.plan
  second_page = (page_is_printed sheet q page₂ after₂ r₂ call₂ z₂ b).0

  pub equal_pages_equal_plans : written r₁ after₁ ≡ written r₂ after₂ → p ≡ q
  equal_pages_equal_plans e = a.allowed.layout ∙ ap (plan_bytes (read_sheet sheet)) same ∙ sym b.allowed.layout
    where
      same : a.allowed.plan ≡ b.allowed.plan
      same =
          page_determines (read_sheet sheet) (read_sound sheet a.sound) a.allowed.plan b.allowed.plan a.allowed.lawful b.allowed.lawful
          (sym first_page ∙ e ∙ second_page)

  pub equal_plans_equal_pages : p ≡ q → written r₁ after₁ ≡ written r₂ after₂
  equal_plans_equal_pages e = first_page ∙ ap (page_bytes (read_sheet sheet)) same ∙ sym second_page
    where
      same : a.allowed.plan ≡ b.allowed.plan
      same =
          plan_determined (read_sheet sheet) (read_sound sheet a.sound) a.allowed.plan b.allowed.plan a.allowed.lawful b.allowed.lawful
          (sym a.allowed.layout ∙ e ∙ b.allowed.layout)

-- REQ 03. "Among best sorting plans take the one whose scanner list has the lower desk number at the first place where they part." What a scanner list is,
-- which of two comes before the other, and what is asked of the sorting that is taken is said in ScannerList.antt of crate rules. An accepted planning call:
module _ (sheet plan table plan_after table_end : List ℕ) (r : Answer) (call : Called sheet plan table plan_after table_end r) (z : r.number ≡ 0)
    (ours : AllowedFor sheet (written r plan_after)) where
  -- Our sorting is what is to be taken ..
  pub sorting_is_taken : SortingTaken (read_sheet sheet).sorting ours.allowed.plan.jobs
  sorting_is_taken = rw (ours_chosen sheet plan table plan_after table_end r call z ours) (plan_taken sheet ours.sound)

  -- .. so every allowed plan of the sheet whose sorting figure equals ours has our scanner list, or one that comes after it.
  pub scanner_list_first : (q : List ℕ) (a : AllowedFor sheet q)
      → figure_of_sorting (read_sheet sheet) a.allowed.plan ≡ figure_of_sorting (read_sheet sheet) ours.allowed.plan
      → SameOrAfter (scanner_list a.allowed.plan.jobs) (scanner_list ours.allowed.plan.jobs)
  unfolding figure_of_sorting
  scanner_list_first q a same = sorting_is_taken.comes_first a.allowed.plan.jobs a.allowed.lawful.sorting same

  -- "Scanner orders are then no longer left to the program.": whatever sorting is to be taken is ours, strip by strip and start by start ..
  pub sorting_determined : (js : List Job) → SortingTaken (read_sheet sheet).sorting js → js ≡ ours.allowed.plan.jobs
  sorting_determined js taken = taken_determined sheet ours.sound js ours.allowed.plan.jobs taken sorting_is_taken

  -- .. and so the papers determine the bytes of our plan's sorting, between those of its mosaic and its flight.
  pub sorting_bytes_determined : (js : List Job) → SortingTaken (read_sheet sheet).sorting js
      → written r plan_after
      ≡ mosaic_fields (read_sheet sheet).mosaic ours.allowed.plan.batches
      ++ sorting_fields (read_sheet sheet).sorting js
      ++ flight_fields (read_sheet sheet).flight ours.allowed.plan.order ours.allowed.plan.passes
  unfolding plan_bytes
  sorting_bytes_determined js taken = rw (taken_determined sheet ours.sound js ours.allowed.plan.jobs taken sorting_is_taken) ours.allowed.layout

-- "Same sheet, same scanner list": whoever plans, two allowed plans of one sheet whose sortings are each what is to be taken have the same bytes there.
pub same_sheet_same_list : (sheet p q : List ℕ) (a : AllowedFor sheet p) (b : AllowedFor sheet q) → SortingTaken (read_sheet sheet).sorting a.allowed.plan.jobs
    → SortingTaken (read_sheet sheet).sorting b.allowed.plan.jobs
    → sorting_fields (read_sheet sheet).sorting a.allowed.plan.jobs ≡ sorting_fields (read_sheet sheet).sorting b.allowed.plan.jobs
same_sheet_same_list sheet p q a b s t =
    ap (sorting_fields (read_sheet sheet).sorting) (taken_determined sheet a.sound a.allowed.plan.jobs b.allowed.plan.jobs s t)

-- REQ 04. "Keep 6 for station, desk and other counts. Within a field values are examined from left to right. New numbers: 15, a time above its upper end; 16, a
-- time of zero where at least 1 is due; both in the place of 6." FieldTable.antt of crate sheet says which values a field has, counts and times; Causes.antt
-- there when one is out of its range, and how; Table.antt, when a sheet is refused for a value (`RefusedForValue`). A planning call:
module _ (sheet plan table plan_after table_end : List ℕ) (r : Answer) (call : Called sheet plan table plan_after table_end r) where
  -- with buffers large enough the number is given where the sheet is refused for this (`Why`, by the place), with its place, and not otherwise
  pub record GivenFor (number : ℕ) (Why : ℕ → Type 0) : Type 0 where
    pub always : Large plan table → (place : ℕ) → Why place → r ≡ answer number place 0
    pub only : r.number ≡ number → Large plan table × Why r.place

  -- for a value: the first that is not within its range is out of it in this way
  abbrev pub GivenForValue : ℕ → (Value → Type 0) → Type 0
  GivenForValue number Out = GivenFor number (RefusedForValue sheet Out)

  given_for : (number : ℕ) (Why : ℕ → Type 0) → buffer_too_small < number → (number ≡ order_impossible → ⊥)
      → ((place : ℕ) → (Why place → RefusedFor sheet number place) × (RefusedFor sheet number place → Why place)) → GivenFor number Why
  given_for number Why more other exactly =
      record {
        always = λ large place f. turned_back_lem sheet plan table plan_after table_end r call number place (TurnedBack.in_sheet large ((exactly place).0 f));
        only =
            λ e. let p = sheet_only sheet plan table plan_after table_end r call number more other e in
            (p.0, (exactly r.place).1 p.1);
      }

  pub six_for_a_count : GivenForValue out_of_range CountOutOfRange
  six_for_a_count = given_for out_of_range (RefusedForValue sheet CountOutOfRange) (omega arith) (λ e. omega arith) (count_exactly sheet)

  pub fifteen_for_a_time_too_large : GivenForValue time_too_large TimeTooLarge
  fifteen_for_a_time_too_large = given_for time_too_large (RefusedForValue sheet TimeTooLarge) (omega arith) (λ e. omega arith) (too_large_exactly sheet)

  pub sixteen_for_a_time_of_zero : GivenForValue time_of_zero TimeOfZero
  sixteen_for_a_time_of_zero = given_for time_of_zero (RefusedForValue sheet TimeOfZero) (omega arith) (λ e. omega arith) (zero_exactly sheet)

-- A judging call gives the three for a bad sheet in the same way, whatever the plan.
module _ (sheet plan : List ℕ) (j : Judged) (call : j ≡ judged sheet plan) where
  pub record JudgedFor (number : ℕ) (Why : ℕ → Type 0) : Type 0 where
    pub always : (place : ℕ) → Why place → j ≡ turned_back number place
    pub only : j.number ≡ number → Why j.place

  abbrev pub JudgedForValue : ℕ → (Value → Type 0) → Type 0
  JudgedForValue number Out = JudgedFor number (RefusedForValue sheet Out)

  judged_for : (number : ℕ) (Why : ℕ → Type 0) → 0 < number → (layout_wrong ≤ number → number ≤ figure_untrue → ⊥)
      → ((place : ℕ) → (Why place → RefusedFor sheet number place) × (RefusedFor sheet number place → Why place)) → JudgedFor number Why
  judged_for number Why some other exactly =
      record {
        always = λ place f. turns_back_for_its_fault sheet plan j call number place (Fault.in_sheet ((exactly place).0 f));
        only = rw call (λ e. (exactly (judged sheet plan).place).1 (judged_sheet_only sheet plan number some other e));
      }

  pub judged_six : JudgedForValue out_of_range CountOutOfRange
  judged_six = judged_for out_of_range (RefusedForValue sheet CountOutOfRange) (omega arith) (λ l m. omega arith) (count_exactly sheet)

  pub judged_fifteen : JudgedForValue time_too_large TimeTooLarge
  judged_fifteen = judged_for time_too_large (RefusedForValue sheet TimeTooLarge) (omega arith) (λ l m. omega arith) (too_large_exactly sheet)

  pub judged_sixteen : JudgedForValue time_of_zero TimeOfZero
  judged_sixteen = judged_for time_of_zero (RefusedForValue sheet TimeOfZero) (omega arith) (λ l m. omega arith) (zero_exactly sheet)

-- A page call gives them as the judge does, where the page buffer is large enough.
module _ (sheet plan page page_after : List ℕ) (r : Answer) (call : Paged sheet plan page page_after r) where
  pub record PagedFor (number : ℕ) (Why : ℕ → Type 0) : Type 0 where
    pub always : page_length ≤ length page → (place : ℕ) → Why place → r ≡ answer number place 0
    pub only : r.number ≡ number → (page_length ≤ length page) × Why r.place

  abbrev pub PagedForValue : ℕ → (Value → Type 0) → Type 0
  PagedForValue number Out = PagedFor number (RefusedForValue sheet Out)

  page_says : (number : ℕ) (Why : ℕ → Type 0) → buffer_too_small < number → JudgedFor sheet plan (judged sheet plan) refl number Why
      → (page_length ≤ length page → (place : ℕ) → Why place → r ≡ answer number place 0) × (r.number ≡ number → (page_length ≤ length page) × Why r.place)
  unfolding turned_back
  page_says number Why more judging = (
    λ large place f. comes_back large place (judging.always place f),
    λ e. let p = page_judge_only sheet plan page page_after r call number more e in
        (p.0, rw p.2 (judging.only p.1)),
  )
    where
      comes_back : page_length ≤ length page → (place : ℕ) → judged sheet plan ≡ turned_back number place → r ≡ answer number place 0
      comes_back large place e =
          let n : (judged sheet plan).number ≡ number = ap (λ (j : Judged). j.number) e in
          let p : (judged sheet plan).place ≡ place = ap (λ (j : Judged). j.place) e in
          page_not_allowed sheet plan page page_after r call large (λ z. omega arith) ∙ ap₂ (λ m q. answer m q 0) n p

  paged_for : (number : ℕ) (Why : ℕ → Type 0) → buffer_too_small < number → JudgedFor sheet plan (judged sheet plan) refl number Why → PagedFor number Why
  paged_for number Why more judging = let w = page_says number Why more judging in record { always = w.0; only = w.1 }

  pub paged_six : PagedForValue out_of_range CountOutOfRange
  paged_six =
      let w = page_says out_of_range (RefusedForValue sheet CountOutOfRange) (omega arith) (judged_six sheet plan (judged sheet plan) refl) in
      record { always = w.0; only = w.1 }

  pub paged_fifteen : PagedForValue time_too_large TimeTooLarge
  paged_fifteen =
      let w = page_says time_too_large (RefusedForValue sheet TimeTooLarge) (omega arith) (judged_fifteen sheet plan (judged sheet plan) refl) in
      record { always = w.0; only = w.1 }

  pub paged_sixteen : PagedForValue time_of_zero TimeOfZero
  paged_sixteen =
      let j =
      judged_for sheet plan (judged sheet plan) refl time_of_zero (RefusedForValue sheet TimeOfZero) (omega arith) (λ l m. omega arith) (zero_exactly sheet)
      in
      let w = page_says time_of_zero (RefusedForValue sheet TimeOfZero) (omega arith) j in
      record { always = w.0; only = w.1 }

-- REQ 05. "However the length due is found now, make it one case for each tag and, for 11, each station count from 1 to 4." These are the cases of
-- `sheet_lengths::length_due`. The field table is `field_table` (sheet, FieldTable.antt), a list of rows; `length_of` a row's content is the sum of its widths.
-- A call of `length_due`: a tag, the number of stations in the head of the mosaic, and the answer; `GivesLength` is its contract (sheet_lengths, Lengths.antt).
module _ (tag stations : ℕ) (due : LengthDue) (call : GivesLength tag stations due) where
  -- "Show that the cases give the field table's length for each tag in it": the length of each row of the tag is among those that the answer means
  -- (`lengths_given`), and each of those is a row's. The flight head has two rows since Req 06 and each strip since Req 09; every other tag has one row at
  -- most, and its length. The tag 33 has a row since Req 07.
  pub length_by_list : (desks : ℕ) (r : TableRow) → Among r (field_table stations desks) → tag ≡ r.tag → Among (length_of r.content) (lengths_given due)
  length_by_list desks r a e = row_length tag stations due call desks r a (omega arith)

  pub no_other_length : (desks n : ℕ) → Among n (lengths_given due) → RowOfLength tag n (field_table stations desks)
  no_other_length desks n a = length_row tag stations due call desks n a

  pub length_of_one_row : (desks : ℕ) (r : TableRow) → Among r (field_table stations desks) → tag ≡ r.tag → (tag ≡ mosaic_strip_tag → ⊥)
      → (tag ≡ sorting_strip_tag → ⊥) → (tag ≡ flight_head_tag → ⊥) → due ≡ Bytes (length_of r.content)
  length_of_one_row desks r a e h₁ h₂ h₃ = sole_row_length tag stations due call desks r a e h₁ h₂ h₃

  pub lengths_of_a_flight_head : tag ≡ flight_head_tag → due ≡ Either 0 2
  lengths_of_a_flight_head e = head_lengths_due tag stations due call e

  -- for 11 these are, with 1 to 4 stations, two bytes for each of them and two for the bench, and one more for a weight; with any other number there is none
  pub lengths_of_a_strip : tag ≡ mosaic_strip_tag → 1 ≤ stations → stations ≤ most_stations → due ≡ Either (2 * stations + 2) (2 * stations + 3)
  lengths_of_a_strip e lo hi = strip_lengths_due tag stations due call e lo hi ∙ ap (Either (2 * stations + 2)) (omega arith)

  pub lengths_of_a_desk_strip : tag ≡ sorting_strip_tag → due ≡ Either 5 6
  lengths_of_a_desk_strip e = desk_strip_lengths_due tag stations due call e

  pub no_length_of_a_strip : tag ≡ mosaic_strip_tag → (1 ≤ stations → stations ≤ most_stations → ⊥) → due ≡ None
  no_length_of_a_strip = other_count_none tag stations due call

  -- "and none for any other": for a tag that is in no row, and so for every tag but 10, 11, 20, 21, 30, 31, 32 and 33
  pub no_length_outside_the_table : (desks : ℕ) → ((r : TableRow) → Among r (field_table stations desks) → tag ≡ r.tag → ⊥) → due ≡ None
  no_length_outside_the_table = no_length tag stations due call

  pub no_length_of_another_tag : (tag ≡ mosaic_head_tag → ⊥) → (tag ≡ mosaic_strip_tag → ⊥) → (tag ≡ sorting_head_tag → ⊥) → (tag ≡ sorting_strip_tag → ⊥)
      → (tag ≡ flight_head_tag → ⊥) → (tag ≡ flight_block_tag → ⊥) → (tag ≡ flight_window_block_tag → ⊥) → (tag ≡ flight_order_tag → ⊥) → due ≡ None
  no_length_of_another_tag = other_tag_none tag stations due call

-- REQ 06. "The flight head may carry two bytes, the turn g, 0 to 600 seconds; an empty head means 0." The rows of the field table (sheet, FieldTable.antt) have
-- both heads, and `turn_of` (sheet, Decode.antt) the turn of each. What the turn asks is said in Flight.antt of crate rules (`clear_at`, `AllApart`); all that is
-- said above of allowed plans, of least figures and of starts is said of these rules: "The leastness of figure and starts is read with g in the rules."
module _ (sheet : List ℕ) (sound : (read_sheet sheet).number ≡ 0) where
  -- The turn of a sound sheet with a flight is the one that its flight head gives, and at most 600.
  pub turn_of_the_head : 1 ≤ (read_sheet sheet).flight.blocks → HeadRead sheet (read_sheet sheet).flight × ((read_sheet sheet).flight.turn ≤ most_turn)
  turn_of_the_head some = (head_read sheet sound some, (read_sound sheet sound).flight.most_turn_holds)

  -- "Each pass starts at least g after the pass before it ends, whichever blocks they belong to": so it is in every timetable, for the passes in the order kept
  -- ..
  pub turn_before_each_pass : (w : ℕ) (ps : List Passes) → Proper (read_sheet sheet).flight.blocks w → FlightLawful (read_sheet sheet).flight ps
      → Keeps (read_sheet sheet).flight w ps → NextApart (read_sheet sheet).flight w ps
  turn_before_each_pass w ps proper law keeps = neighbours_apart (read_sheet sheet).flight w ps proper law keeps

  -- .. and where it is so, any two passes are apart as the rules ask, and the order is kept.
  pub turns_are_enough : (w : ℕ) (ps : List Passes) → Proper (read_sheet sheet).flight.blocks w → NextApart (read_sheet sheet).flight w ps
      → AllApart (read_sheet sheet).flight ps × Keeps (read_sheet sheet).flight w ps
  turns_are_enough w ps proper next = neighbours_enough (read_sheet sheet).flight w ps proper next (read_sound sheet sound).flight

-- A flight head of a length that the reading comes to, the section before it having members and the head permitted behind it:
pub record HeadReached (sheet : List ℕ) (len place : ℕ) : Type 0 where
  pub reading : Reading
  pub reached : Reached sheet reading
  pub head : field_at sheet reading.at ≡ Whole flight_head_tag len
  pub some_members : NoMembers flight_head_tag reading.section reading.members → ⊥
  pub tag_permitted : Permitted flight_head_tag reading.section reading.members
  pub place_is : place ≡ reading.at

-- no flight stands before it that could lack an order
before_the_flight : (section members : ℕ) → Permitted flight_head_tag section members → OrderMissing flight_head_tag section members → ⊥
before_the_flight section members (Permitted.mosaic_head_lem e h) m = omega arith
before_the_flight section members (Permitted.mosaic_strip_lem e h) m = omega arith
before_the_flight section members (Permitted.sorting_head_lem e h) m = omega arith
before_the_flight section members (Permitted.sorting_strip_holds e h) m = omega arith
before_the_flight section members (Permitted.flight_head_lem e h) m = omega (arith, m.blocks.flight)
before_the_flight section members (Permitted.flight_block_holds e h) m = omega arith
before_the_flight section members (Permitted.flight_window_block_holds e h) m = omega arith
before_the_flight section members (Permitted.flight_order_holds e h l) m = omega arith

-- "A g over 600 counts as a time too large": a head of two bytes with a turn above 600 is refused for that value, at its place, whatever its section lacks
turn_refused : (sheet : List ℕ) (place : ℕ) (f : HeadReached sheet 2 place) → most_turn < number_at sheet (f.reading.at + 3) 2
    → RefusedForValue sheet TimeTooLarge place
unfolding FirstOut TimeTooLarge turn_flight_head values_of Among
turn_refused sheet place f large =
    record {
      reading = f.reading;
      reached = f.reached;
      tag = flight_head_tag;
      len = 2;
      whole = f.head;
      some_members = f.some_members;
      order_given_lem = before_the_flight f.reading.section f.reading.members f.tag_permitted;
      tag_permitted = f.tag_permitted;
      length_due = due;
      fault = subst (FirstOut TimeTooLarge) (sym (flight_head_values_lem sheet (f.reading.at + 3) 2 _ _ due)) (inl large);
      place_is = f.place_is;
    }
  where
    due : Among 2 (lengths_due flight_head_tag (table_of f.reading))
    due = subst (Among 2) (sym (head_lengths f.reading.mosaic.stations f.reading.sorting.desks)) (inr (inl refl))

pub turn_too_large : (sheet : List ℕ) (place : ℕ) (f : HeadReached sheet 2 place) → most_turn < number_at sheet (f.reading.at + 3) 2
    → RefusedForValue sheet TimeTooLarge place
turn_too_large = turn_refused

-- and a head that is neither empty nor of two bytes is refused for its length
head_refused : (sheet : List ℕ) (len place : ℕ) → HeadReached sheet len place → (len ≡ 0 → ⊥) → (len ≡ 2 → ⊥) → RefusedFor sheet length_wrong place
unfolding rows_at field_rows row_at
head_refused sheet len place f h₀ h₂ =
    record {
      reading = f.reading;
      reached = f.reached;
      cause =
          at_field sheet f.reading (Whole flight_head_tag len) length_wrong place f.head
          (record {
            k = 4;
            number_is = refl;
            place_is = f.place_is;
            cause = λ due. ⊎_elim h₀ h₂ (head_length_lem len _ _ due);
            before = before;
          });
    }
  where
    before : (i : ℕ) → i < 4 → (row_at (field_rows sheet f.reading flight_head_tag len) i).cause → ⊥
    before zero l c = whole_at_not_cut sheet f.reading.at flight_head_tag len f.head c
    before (suc zero) l c = f.some_members c
    before (suc (suc zero)) l c = before_the_flight f.reading.section f.reading.members f.tag_permitted c
    before (suc (suc (suc zero))) l c = c f.tag_permitted
    before (suc (suc (suc (suc i)))) l c = absurd (omega arith)

pub head_length_wrong : (sheet : List ℕ) (len place : ℕ) → HeadReached sheet len place → (len ≡ 0 → ⊥) → (len ≡ 2 → ⊥) → RefusedFor sheet length_wrong place
head_length_wrong = head_refused

module _ (sheet plan table plan_after table_end : List ℕ) (r : Answer) (call : Called sheet plan table plan_after table_end r) where
  pub fifteen_for_a_turn : Large plan table → (place : ℕ) (f : HeadReached sheet 2 place) → most_turn < number_at sheet (f.reading.at + 3) 2
      → r ≡ answer time_too_large place 0
  fifteen_for_a_turn large place f l =
      let given =
      given_for sheet plan table plan_after table_end r call time_too_large (RefusedForValue sheet TimeTooLarge) (omega arith) (λ e. omega arith)
      (too_large_exactly sheet)
      in
      given.always large place (turn_refused sheet place f l)

  pub five_for_another_length : Large plan table → (len place : ℕ) → HeadReached sheet len place → (len ≡ 0 → ⊥) → (len ≡ 2 → ⊥)
      → r ≡ answer length_wrong place 0
  five_for_another_length large len place f h₀ h₂ =
      turned_back_lem sheet plan table plan_after table_end r call length_wrong place (TurnedBack.in_sheet large (head_refused sheet len place f h₀ h₂))

  -- "A flight without an order can now be impossible as well: 11 is then given at the flight head, with buffers large enough exactly when the sheet is
  -- otherwise sound and no proper order has a timetable." Where the sheet gives no order:
  pub record ElevenAtHead : Type 0 where
    pub large : Large plan table
    pub sound : (read_sheet sheet).number ≡ 0
    pub none : NoProperOrder (read_sheet sheet).flight
    pub length : ℕ
    pub head : FieldRead sheet flight_head_tag length r.place

  -- and where it gives one, as before: "no timetable keeps the given order", at the order field
  pub record ElevenAtOrder : Type 0 where
    pub large : Large plan table
    pub sound : (read_sheet sheet).number ≡ 0
    pub none : NoTimetable (read_sheet sheet).flight (read_sheet sheet).flight.order
    pub length : ℕ
    pub order : FieldRead sheet flight_order_tag length r.place

  at_place : (read_sheet sheet).number ≡ 0 → Large plan table → Impossible (read_sheet sheet) → r.place ≡ (read_sheet sheet).flight.place
  at_place sound large none = ap (λ (a : Answer). a.place) (eleven_always_then sheet plan table plan_after table_end r call large sound none)

  pub eleven_at_the_flight_head : (read_sheet sheet).flight.ordered ≡ false
      → (r.number ≡ order_impossible → ElevenAtHead)
      × (Large plan table → (read_sheet sheet).number ≡ 0 → NoProperOrder (read_sheet sheet).flight → r ≡ answer order_impossible (read_sheet sheet).flight.place 0)
  eleven_at_the_flight_head free = (
    λ e. let p = eleven_only_then sheet plan table plan_after table_end r call e in given p.0 p.1 p.2,
    λ large sound none. eleven_always_then sheet plan table plan_after table_end r call large sound (Impossible.no_order_given free none),
  )
    where
      given : Large plan table → (read_sheet sheet).number ≡ 0 → Impossible (read_sheet sheet) → ElevenAtHead
      given large sound (Impossible.order_given_lem o none) = absurd (true≢false (sym o ∙ free))
      given large sound (Impossible.no_order_given o none) =
          let short = (free_impossible_exactly sheet sound free).0 (Impossible.no_order_given o none) in
          let h = head_read sheet sound (omega (arith, short.known)) in
          record {
            large = large;
            sound = sound;
            none = none;
            length = h.len;
            head =
                subst (FieldRead sheet flight_head_tag h.len)
                (sym (at_place sound large (Impossible.no_order_given o none) ∙ h.place_is free)) h.head;
          }

  pub eleven_at_the_order_field : (read_sheet sheet).flight.ordered ≡ true
      → (r.number ≡ order_impossible → ElevenAtOrder)
      × (Large plan table → (read_sheet sheet).number ≡ 0 → NoTimetable (read_sheet sheet).flight (read_sheet sheet).flight.order
      → r ≡ answer order_impossible (read_sheet sheet).flight.place 0)
  eleven_at_the_order_field ordered = (
    λ e. let p = eleven_only_then sheet plan table plan_after table_end r call e in given p.0 p.1 p.2,
    λ large sound none. eleven_always_then sheet plan table plan_after table_end r call large sound (Impossible.order_given_lem ordered none),
  )
    where
      given : Large plan table → (read_sheet sheet).number ≡ 0 → Impossible (read_sheet sheet) → ElevenAtOrder
      given large sound (Impossible.order_given_lem o none) =
          let h = order_read sheet sound ordered in
          record {
            large = large;
            sound = sound;
            none = none;
            length = h.len;
            order = subst (FieldRead sheet flight_order_tag h.len) (sym (at_place sound large (Impossible.order_given_lem o none))) h.order;
          }
      given large sound (Impossible.no_order_given o none) = absurd (true≢false (sym ordered ∙ o))

  -- A flight without an order is impossible exactly where some block's delay, since Req 07 its longest one, is below g ..
  pub free_eleven_by_the_delays : (read_sheet sheet).flight.ordered ≡ false
      → (r.number ≡ order_impossible → LongestBelowTurn (read_sheet sheet).flight)
      × (Large plan table → (read_sheet sheet).number ≡ 0 → LongestBelowTurn (read_sheet sheet).flight
      → r ≡ answer order_impossible (read_sheet sheet).flight.place 0)
  free_eleven_by_the_delays free = (
    λ e. let p = eleven_only_then sheet plan table plan_after table_end r call e in (free_impossible_exactly sheet p.1 free).0 p.2,
    λ large sound short. eleven_always_then sheet plan table plan_after table_end r call large sound ((free_impossible_exactly sheet sound free).1 short),
  )

  -- .. and then no order is searched for: that of the blocks one after the other is the only one tried.
  pub no_search_below_the_turn : (read_sheet sheet).flight.ordered ≡ false → (read_sheet sheet).number ≡ 0 → LongestBelowTurn (read_sheet sheet).flight
      → chosen_order (read_sheet sheet).flight ≡ one_by_one (read_sheet sheet).flight.blocks
  no_search_below_the_turn free sound short = flight_unsearched (read_sheet sheet).flight (read_sound sheet sound).flight free short

-- A judging call gives 15 and 5 for such a head in the same way, and it never gives 11.
module _ (sheet plan : List ℕ) (j : Judged) (call : j ≡ judged sheet plan) where
  pub judged_fifteen_for_a_turn : (place : ℕ) (f : HeadReached sheet 2 place) → most_turn < number_at sheet (f.reading.at + 3) 2
      → j ≡ turned_back time_too_large place
  judged_fifteen_for_a_turn place f l = (judged_fifteen sheet plan j call).always place (turn_refused sheet place f l)

  pub judged_five_for_another_length : (len place : ℕ) → HeadReached sheet len place → (len ≡ 0 → ⊥) → (len ≡ 2 → ⊥) → j ≡ turned_back length_wrong place
  judged_five_for_another_length len place f h₀ h₂ =
      turns_back_for_its_fault sheet plan j call length_wrong place (Fault.in_sheet (head_refused sheet len place f h₀ h₂))

  pub judge_never_gives_eleven : j.number ≡ order_impossible → ⊥
  judge_never_gives_eleven = rw call (λ e. not_eleven sheet _ _ (judged_sheet_only sheet plan order_impossible (omega arith) (λ l m. omega arith) e) refl)

-- 13 at the first member of a section that does not follow: the sheet is sound, the plan laid out, no section before has a fault and every member before this
-- one follows.
member_is_thirteen : (sheet plan : List ℕ) (j : Judged) → j ≡ judged sheet plan → (read_sheet sheet).number ≡ 0 → LaidOut (read_sheet sheet) plan
    → (section : ℕ) → 1 ≤ section → section ≤ 3
    → ((i : ℕ) → 1 ≤ i → i < section → present (read_sheet sheet) i ≡ true → (n p : ℕ) → SectionFault (read_sheet sheet) plan i n p → ⊥)
    → present (read_sheet sheet) section ≡ true
    → (k : ℕ) (st : Progress) → Judging (read_sheet sheet) plan section k st → k < (part_at (read_sheet sheet) plan section).members
    → (MemberFollows (read_sheet sheet) plan section k (member_place section (part_at (read_sheet sheet) plan section).head k) st → ⊥)
    → j ≡ turned_back rule_broken (member_place section (part_at (read_sheet sheet) plan section).head k)
member_is_thirteen sheet plan j call sound laid section least most before there k st judging more not_followed =
    turns_back_for_its_fault sheet plan j call rule_broken _
    (Fault.in_section section sound laid least most before there (SectionFault.at_member k st judging more not_followed refl refl))

-- "a turn too short is 13 at the head": the sheet is sound, the plan laid out, no section before has a fault and every block follows, but some two passes of
-- the plan are less than g apart. Then the judge gives 13 at the plan's flight head, before 14.
pub short_turn_is_thirteen : (sheet plan : List ℕ) (j : Judged) → j ≡ judged sheet plan → (read_sheet sheet).number ≡ 0 → LaidOut (read_sheet sheet) plan
    → ((i : ℕ) → 1 ≤ i → i < 3 → present (read_sheet sheet) i ≡ true → (n p : ℕ) → SectionFault (read_sheet sheet) plan i n p → ⊥)
    → present (read_sheet sheet) 3 ≡ true
    → (st : Progress) → Judging (read_sheet sheet) plan 3 (part_at (read_sheet sheet) plan 3).members st
    → (AllApart (read_sheet sheet).flight
    (blocks_from plan ((part_at (read_sheet sheet) plan 3).head + size_of flight_head_form) (part_at (read_sheet sheet) plan 3).members) → ⊥)
    → j ≡ turned_back rule_broken (part_at (read_sheet sheet) plan 3).head
unfolding HeadFollows
short_turn_is_thirteen sheet plan j call sound laid before there st judging short =
    turns_back_for_its_fault sheet plan j call rule_broken _
    (Fault.in_section 3 sound laid (omega arith) (omega arith) before there
    (SectionFault.at_head st judging (λ h. short (all_apart (read_sheet sheet).flight _ _ h.allowed.proper h.in_order)) refl refl))

-- Two sheets that are the same but for places (`SameButPlaces`): two calls with the same buffers, and the judge.
planned_same : (sheet other plan table plan_after table_end other_after other_end : List ℕ) (r q : Answer) (d n : ℕ)
    → SameButPlaces d n (read_sheet sheet) (read_sheet other) → Called sheet plan table plan_after table_end r → Called other plan table other_after other_end q
    → (q ≡ moved_answer d n r) × (other_after ≡ plan_after) × (other_end ≡ table_end)
planned_same sheet other plan table plan_after table_end other_after other_end r q d n same call next = (
  same_answer sheet other plan table plan_after table_end other_after other_end r q d n same call next,
  same_buffer sheet other plan table plan_after table_end other_after other_end r q d n same call next,
  same_table sheet other plan table plan_after table_end other_after other_end r q d n same call next,
)

judged_same : (sheet other : List ℕ) (d n : ℕ) → SameButPlaces d n (read_sheet sheet) (read_sheet other) → (plan : List ℕ) (j k : Judged) → j ≡ judged sheet plan
    → k ≡ judged other plan
    → ((read_sheet sheet).number ≡ 0 → k ≡ j) × (((read_sheet sheet).number ≡ 0 → ⊥) → k ≡ turned_back j.number (moved_place d n j.place))
judged_same sheet other d n same plan j k judging also = rw (judging, also) (same_judged _ _ _ _ same plan, same_refused _ _ _ _ same plan)

-- "an empty head means 0": with an empty flight head behind some bytes, and with a written turn of 0 in its place, wherever the reading comes to that head, two
-- calls with the same buffers give the same number, plan bytes and length, and places behind the head are two higher (`moved_place`). A sheet that is refused at
-- a field before it never comes to the head.
module _ (before rest : List ℕ) (st : Reading) (reached : Reached (with_empty_head before rest) st) (here : st.at ≡ length before) where
  module _ (plan table plan_after table_end other_after other_end : List ℕ) (r q : Answer)
      (call : Called (with_empty_head before rest) plan table plan_after table_end r) (other : Called (with_written_zero before rest) plan table other_after other_end q) where
    pub written_zero_planned : (q ≡ moved_answer 2 (length before) r) × (other_after ≡ plan_after) × (other_end ≡ table_end)
    written_zero_planned = planned_same _ _ plan table plan_after table_end other_after other_end r q _ _ (written_zero before rest st reached here) call other

  -- and the judge gives every plan the same number, place and figures where the sheet is sound, and else turns both back with the same number
  pub written_zero_judged : (plan : List ℕ) (j k : Judged) → j ≡ judged (with_empty_head before rest) plan → k ≡ judged (with_written_zero before rest) plan
      → ((read_sheet (with_empty_head before rest)).number ≡ 0 → k ≡ j)
      × (((read_sheet (with_empty_head before rest)).number ≡ 0 → ⊥) → k ≡ turned_back j.number (moved_place 2 (length before) j.place))
  written_zero_judged plan j k judging also = judged_same _ _ _ _ (written_zero before rest st reached here) plan j k judging also

-- REQ 07. "For slow divers the biologists accept any interval between two bounds." When a delay lies in the window of its block is said in Flight.antt of crate
-- rules (`DelayKept`); all that is said above of allowed plans, of least figures, of starts and of 11 is said of these rules.
-- "A block of tag 33 carries a, shortest delay, longest delay, b, each as in 31": block i of a sound sheet was read from a field of tag 33 (`window_block` of
-- sheet, Decode.antt) or of tag 31 (`exact_block`, whose window has one value), the block behind i others; its times are within the ranges of 31, and its window
-- is not empty.
pub block_of_a_field : (sheet : List ℕ) → (read_sheet sheet).number ≡ 0 → (i : ℕ) → i < (read_sheet sheet).flight.blocks
    → BlockRead sheet i (block_at (read_sheet sheet).flight i) × BlockSound (block_at (read_sheet sheet).flight i)
block_of_a_field sheet sound i l =
    let f = (read_sound sheet sound).flight in (
      block_read sheet sound i l,
      record {
        first = record { at_least = f.least_first i l; at_most = f.most_first i };
        most_delay = f.most_delay i;
        window = f.window i;
        second = record { at_least = f.least_second i l; at_most = f.most_second i };
      },
    )

-- "an exact delay being a window of one value": of a block that was read from a field of tag 31 the rule is 01's, "A second pass starts exactly l after its
-- first ends", with the delay l of that field
pub exact_delay_of_31 : (sheet : List ℕ) (f : FlightSection) (i at : ℕ) (p : Passes) → block_at f i ≡ exact_block sheet (at + 3)
    → (DelayKept f i p → p.second ≡ second_due f i p (number_at sheet (at + 3 + 2) 2))
    × (p.second ≡ second_due f i p (number_at sheet (at + 3 + 2) 2) → DelayKept f i p)
unfolding exact_block
exact_delay_of_31 sheet f i at p e = exact_delay f i _ p (ap (λ (b : Block). b.shortest) e) (ap (λ (b : Block). b.longest) e)

-- "31 and 33 may be mixed": wherever the one is permitted the other is, and they are counted together, for 7 too. The order field and 10 ask the count alone
-- (`Permitted.flight_order_holds`, `ManyBlocks`).
pub both_blocks_permitted : (section members : ℕ)
    → (Permitted flight_block_tag section members → Permitted flight_window_block_tag section members)
    × (Permitted flight_window_block_tag section members → Permitted flight_block_tag section members)
both_blocks_permitted section members = (
  λ p. Permitted.flight_window_block_holds refl (in_the_flight flight_block_tag p (omega arith) (omega arith)),
  λ p. Permitted.flight_block_holds refl (in_the_flight flight_window_block_tag p (omega arith) (omega arith)),
)
  where
    in_the_flight : (tag : ℕ) → Permitted tag section members → flight_head_tag < tag → (tag ≡ flight_order_tag → ⊥) → section ≡ in_flight
    in_the_flight tag (Permitted.mosaic_head_lem e h) l n = absurd (omega arith)
    in_the_flight tag (Permitted.mosaic_strip_lem e h) l n = absurd (omega arith)
    in_the_flight tag (Permitted.sorting_head_lem e h) l n = absurd (omega arith)
    in_the_flight tag (Permitted.sorting_strip_holds e h) l n = absurd (omega arith)
    in_the_flight tag (Permitted.flight_head_lem e h) l n = absurd (omega arith)
    in_the_flight tag (Permitted.flight_block_holds e h) l n = h
    in_the_flight tag (Permitted.flight_window_block_holds e h) l n = h
    in_the_flight tag (Permitted.flight_order_holds e h m) l n = absurd (n e)

pub both_blocks_counted : (members of_desk : ℕ) → (next_members flight_block_tag members ≡ next_members flight_window_block_tag members)
    × (TooMany flight_block_tag members of_desk → TooMany flight_window_block_tag members of_desk)
    × (TooMany flight_window_block_tag members of_desk → TooMany flight_block_tag members of_desk)
unfolding next_members ends_section
both_blocks_counted members of_desk = (
  refl,
  λ t. TooMany.window_block_holds refl (many flight_block_tag t (omega arith)),
  λ t. TooMany.block refl (many flight_window_block_tag t (omega arith)),
)
  where
    many : (tag : ℕ) → TooMany tag members of_desk → flight_head_tag < tag → most_blocks ≤ members
    many tag (TooMany.strip e h) l = absurd (omega arith)
    many tag (TooMany.strip_of_desk_lem e h) l = absurd (omega arith)
    many tag (TooMany.block e h) l = h
    many tag (TooMany.window_block_holds e h) l = h

-- "With a given order, each first and each second pass starts no later than in any allowed plan": `each_pass_earliest` (demand 3); without one, for the order
-- that is taken, `passes_early`. "and 11 means that no choice of delays works". A choice of delays has one in the window of each block (`DelaysChosen`); it
-- works with an order where the flight with these exact delays (`with_delays`; rules_laws, Delays.antt) has a timetable that keeps the order.
abbrev pub NoChoiceWorks : FlightSection → ℕ → Type 0
NoChoiceWorks f w = (delays : List ℕ) → DelaysChosen f delays → NoTimetable (with_delays delays f) w

-- no timetable keeps an order exactly where no choice of delays works with it
pub no_choice_exactly : (f : FlightSection) (w : ℕ) → (NoTimetable f w → NoChoiceWorks f w) × (NoChoiceWorks f w → NoTimetable f w)
no_choice_exactly f w = (
  λ none delays chosen ps law keeps. none ps (kept_choice f ps delays chosen law) ((same_order f ps delays w).1 keeps),
  λ none ps law keeps. let k = choice_kept f ps law in none k.delays k.chosen ps k.under ((same_order f ps k.delays w).0 keeps),
)

module _ (sheet plan table plan_after table_end : List ℕ) (r : Answer) (call : Called sheet plan table plan_after table_end r) where
  pub eleven_where_no_choice_works : (read_sheet sheet).flight.ordered ≡ true
      → (r.number ≡ order_impossible → NoChoiceWorks (read_sheet sheet).flight (read_sheet sheet).flight.order)
      × (Large plan table → (read_sheet sheet).number ≡ 0 → NoChoiceWorks (read_sheet sheet).flight (read_sheet sheet).flight.order
      → r ≡ answer order_impossible (read_sheet sheet).flight.place 0)
  eleven_where_no_choice_works ordered =
      let at_order = eleven_at_the_order_field sheet plan table plan_after table_end r call ordered in
      let exactly = no_choice_exactly (read_sheet sheet).flight (read_sheet sheet).flight.order in (
        λ e. exactly.0 (at_order.0 e).none,
        λ large sound none. at_order.1 large sound (exactly.1 none),
      )

  -- and of a flight without an order, that with no proper order any does
  pub free_eleven_where_no_choice_works : (read_sheet sheet).flight.ordered ≡ false
      → (r.number ≡ order_impossible → (w : ℕ) → Proper (read_sheet sheet).flight.blocks w → NoChoiceWorks (read_sheet sheet).flight w)
      × (Large plan table → (read_sheet sheet).number ≡ 0
      → ((w : ℕ) → Proper (read_sheet sheet).flight.blocks w → NoChoiceWorks (read_sheet sheet).flight w)
      → r ≡ answer order_impossible (read_sheet sheet).flight.place 0)
  free_eleven_where_no_choice_works free = (
    λ e w proper. (no_choice_exactly (read_sheet sheet).flight w).0 (none (eleven_only_then sheet plan table plan_after table_end r call e).2 w proper),
    λ large sound works.
        eleven_always_then sheet plan table plan_after table_end r call large sound
        (Impossible.no_order_given free (λ w proper. (no_choice_exactly (read_sheet sheet).flight w).1 (works w proper))),
  )
    where
      none : Impossible (read_sheet sheet) → NoProperOrder (read_sheet sheet).flight
      none (Impossible.order_given_lem o n) = absurd (true≢false (sym o ∙ free))
      none (Impossible.no_order_given o n) = n

  -- The figure of our flight is the least over all orders that the sheet allows, all choices of delays and all idle times.
  pub least_over_all_delays : r.number ≡ 0 → (ours : AllowedFor sheet (written r plan_after)) (c w : ℕ) (delays : List ℕ) (ps : List Passes)
      → OrderAllowed (read_sheet sheet).flight w → DelaysChosen (read_sheet sheet).flight delays
      → FlightUnder c (with_delays delays (read_sheet sheet).flight) ps → Keeps (with_delays delays (read_sheet sheet).flight) w ps
      → figure_of_flight (read_sheet sheet) ours.allowed.plan ≤ flight_figure (with_delays delays (read_sheet sheet).flight) ps
  unfolding figure_of_flight chosen_plan
  least_over_all_delays z ours c w delays ps allowed chosen law keeps =
      let f = (read_sheet sheet).flight in
      let a = call_accepted sheet plan table plan_after table_end r call z in
      let whole = (read_sound sheet a.sound).flight in
      let law' = kept_choice f ps delays chosen law in
      rw (ours_chosen sheet plan table plan_after table_end r call z ours, same_figure f ps delays)
      (omega (
        arith,
        flight_figure_lem f whole a.possible,
        flight_least f whole w ps law' ((same_order f ps delays w).1 keeps) allowed,
      ))

  -- "17, longest below shortest, right after the ranges of the same field and before 7": where every value of the field is within its range, and it is a window
  -- whose longest delay is below the shortest (`RefusedForLongestBelowShortest` of sheet, Table.antt), whatever the row of 7 says, and not otherwise
  pub seventeen_for_longest_below_shortest : GivenFor sheet plan table plan_after table_end r call longest_below_shortest (RefusedForLongestBelowShortest sheet)
  seventeen_for_longest_below_shortest =
      given_for sheet plan table plan_after table_end r call longest_below_shortest (RefusedForLongestBelowShortest sheet) (omega arith) (λ e. omega arith) (window_exactly sheet)

-- A judging call and a page call give it in the same way.
pub judged_seventeen : (sheet plan : List ℕ) (j : Judged) (call : j ≡ judged sheet plan) → JudgedFor sheet plan j call longest_below_shortest (RefusedForLongestBelowShortest sheet)
judged_seventeen sheet plan j call =
    judged_for sheet plan j call longest_below_shortest (RefusedForLongestBelowShortest sheet) (omega arith) (λ l m. omega arith) (window_exactly sheet)

pub paged_seventeen : (sheet plan page page_after : List ℕ) (r : Answer) (call : Paged sheet plan page page_after r)
    → PagedFor sheet plan page page_after r call longest_below_shortest (RefusedForLongestBelowShortest sheet)
paged_seventeen sheet plan page page_after r call =
    let w =
    page_says sheet plan page page_after r call longest_below_shortest (RefusedForLongestBelowShortest sheet) (omega arith)
    (judged_seventeen sheet plan (judged sheet plan) refl)
    in
    record { always = w.0; only = w.1 }

-- "The judge accepts any delay in the window": whatever delays are chosen in the windows, a timetable with them obeys the rules, and every plan that does is
-- allowed (`allows_what_obeys`, demand 2)
pub any_delay_in_the_window : (f : FlightSection) (delays : List ℕ) (ps : List Passes) → DelaysChosen f delays → FlightLawful (with_delays delays f) ps
    → FlightLawful f ps
any_delay_in_the_window f delays ps chosen law = kept_choice f ps delays chosen law

-- "and no other": in what it allows every delay lies in its window ..
pub no_other_delay : (sheet plan : List ℕ) (j : Judged) (call : j ≡ judged sheet plan) (bytes : AreBytes plan) (z : j.number ≡ 0) (i : ℕ)
    → i < (read_sheet sheet).flight.blocks
    → DelayKept (read_sheet sheet).flight i (passes_at (allows_nothing_else sheet plan j call bytes z).allowed.plan.passes i)
no_other_delay sheet plan j call bytes z i l = (allows_nothing_else sheet plan j call bytes z).allowed.lawful.flight.delay_kept i l

-- .. and a plan is turned back with 13 at the first block whose delay does not: the sheet is sound, the plan laid out, no section before has a fault and every
-- block before this one follows.
pub delay_outside_is_thirteen : (sheet plan : List ℕ) (j : Judged) → j ≡ judged sheet plan → (read_sheet sheet).number ≡ 0 → LaidOut (read_sheet sheet) plan
    → ((i : ℕ) → 1 ≤ i → i < 3 → present (read_sheet sheet) i ≡ true → (n p : ℕ) → SectionFault (read_sheet sheet) plan i n p → ⊥)
    → present (read_sheet sheet) 3 ≡ true
    → (k : ℕ) (st : Progress) → Judging (read_sheet sheet) plan 3 k st → k < (part_at (read_sheet sheet) plan 3).members
    → (DelayKept (read_sheet sheet).flight k (passes_from plan (member_place 3 (part_at (read_sheet sheet) plan 3).head k)) → ⊥)
    → j ≡ turned_back rule_broken (member_place 3 (part_at (read_sheet sheet) plan 3).head k)
unfolding MemberFollows
delay_outside_is_thirteen sheet plan j call sound laid before there k st judging more outside =
    member_is_thirteen sheet plan j call sound laid 3 (omega arith) (omega arith) before there k st judging more (λ h. outside h.delay_kept)

-- "an exact delay being a window of one value": with a block of tag 31 behind some bytes, and with one of tag 33 in its place whose bounds are both its delay,
-- wherever the reading comes to that block, two calls with the same buffers give the same number, plan bytes and length, and places behind the block are two
-- higher; and the judge gives every plan the same number, place and figures where the sheet is sound, and else turns both back with the same number.
module _ (before : List ℕ) (a l b : ℕ) (rest : List ℕ) (st : Reading) (reached : Reached (with_exact_delay before a l b rest) st) (here : st.at ≡ length before) where
  module _ (plan table plan_after table_end other_after other_end : List ℕ) (r q : Answer)
      (call : Called (with_exact_delay before a l b rest) plan table plan_after table_end r)
      (other : Called (with_one_value before a l b rest) plan table other_after other_end q) where
    pub one_value_planned : (q ≡ moved_answer 2 (length before) r) × (other_after ≡ plan_after) × (other_end ≡ table_end)
    one_value_planned = planned_same _ _ plan table plan_after table_end other_after other_end r q _ _ (one_value before a l b rest st reached here) call other

  pub one_value_judged : (plan : List ℕ) (j k : Judged) → j ≡ judged (with_exact_delay before a l b rest) plan → k ≡ judged (with_one_value before a l b rest) plan
      → ((read_sheet (with_exact_delay before a l b rest)).number ≡ 0 → k ≡ j)
      × (((read_sheet (with_exact_delay before a l b rest)).number ≡ 0 → ⊥) → k ≡ turned_back j.number (moved_place 2 (length before) j.place))
  one_value_judged plan j k judging also = judged_same _ _ _ _ (one_value before a l b rest st reached here) plan j k judging also

-- REQ 08. "The bench has a second frame, so mounting can begin before the strips are there." When a mount may start, when the bench work of its batch does and
-- when the batch finishes is said in Mosaic.antt of crate rules (`BatchUnder`, `bench_work_start`, `finish_due`). "mosaic figures are judged, and compared as
-- best, under this rule alone": all that is said above of allowed plans and their figures (`allows_what_obeys`, `allows_nothing_else`), of least figures over
-- all batchings and all idle times (`no_smaller_figure`, `best_exactly_mosaic`) and of starts (`mounts_early`) is said of these rules.
-- "From now on a mount starts no earlier than the batch before finishes, or 0", and 01: "The planner starts every mount .. as early as its batches .. allow":
-- each mount of our plan starts just when the batch before finishes, the first at 0 (the finish of `no_batch`).
pub mounts_at_the_finish_before : (sheet plan table plan_after table_end : List ℕ) (r : Answer) → Called sheet plan table plan_after table_end r → r.number ≡ 0
    → (ours : AllowedFor sheet (written r plan_after)) (i : ℕ) → i < length ours.allowed.plan.batches
    → (batch_at ours.allowed.plan.batches i).start ≡ (batch_before ours.allowed.plan.batches i).finish
unfolding chosen_plan
mounts_at_the_finish_before sheet plan table plan_after table_end r call z ours =
    rw (ours_chosen sheet plan table plan_after table_end r call z ours) (mosaic_mounts (read_sheet sheet).mosaic (read_sound sheet ours.sound).mosaic)

-- "Bench work starts when the mount is done and the batch's last strip is ready". So a mount before the ready time is no fault, and several starts may have one
-- finish: where the mounts of an allowed plan are moved, none before the batch before finishes, and the bench work of each batch starts when it did
-- (`MountsMoved` of rules_laws, Mounts.antt), the judge allows the plan so changed, with the figures of before.
abbrev pub with_batches : List Batch → Plan → Plan
with_batches bs p = record { batches = bs; jobs = p.jobs; order = p.order; passes = p.passes }

module _ (sheet q : List ℕ) (a : AllowedFor sheet q) (bs : List Batch) where
  -- an allowed plan with the batches of another timetable is allowed
  other_batches_allowed : MosaicLawful (read_sheet sheet).mosaic bs → AllowedFor sheet (plan_bytes (read_sheet sheet) (with_batches bs a.allowed.plan))
  other_batches_allowed law = record {
    sound = a.sound;
    allowed = record {
      plan = with_batches bs a.allowed.plan;
      lawful = record {
        mosaic = law;
        sorting = a.allowed.lawful.sorting;
        flight = a.allowed.lawful.flight;
        kept = a.allowed.lawful.kept;
        order = a.allowed.lawful.order;
      };
      layout = refl;
    };
  }

  pub moved_mounts_judged : MountsMoved (read_sheet sheet).mosaic a.allowed.plan.batches bs
      → (j : Judged) → j ≡ judged sheet (plan_bytes (read_sheet sheet) (with_batches bs a.allowed.plan))
      → (j.number ≡ 0) × FiguresTrue (read_sheet sheet) a.allowed.plan j
  unfolding other_batches_allowed
  moved_mounts_judged moved j call =
      let changed = other_batches_allowed (moved_obeys (read_sheet sheet).mosaic moved a.allowed.lawful.mosaic) in
      let allows = allows_what_obeys sheet _ j call changed in (
        allows.0,
        record {
          place = allows.1.place;
          mosaic = allows.1.mosaic ∙ moved_figure (read_sheet sheet).mosaic moved;
          sorting = allows.1.sorting;
          flight = allows.1.flight;
        },
      )

  -- A timetable whose mounts wait for the strips, by 01's own rule (`MountsWait`), is one by this rule too, with the same starts and finishes: a plan with it
  -- stays allowed. It has no smaller figure than ours (`no_smaller_figure`).
  pub waiting_mounts_allowed : MountsWait ceiling (read_sheet sheet).mosaic bs
      → AllowedFor sheet (plan_bytes (read_sheet sheet) (with_batches bs a.allowed.plan))
  waiting_mounts_allowed waits = other_batches_allowed (waiting_obeys (read_sheet sheet).mosaic bs waits)

-- A plan is turned back with 13 at the first batch that breaks the rule: its finish is another than is due, one early or one late, whenever its mount starts ..
module _ (sheet plan : List ℕ) (j : Judged) (call : j ≡ judged sheet plan) (sound : (read_sheet sheet).number ≡ 0) (laid : LaidOut (read_sheet sheet) plan)
    (there : present (read_sheet sheet) 1 ≡ true) (k : ℕ) (st : Progress) (judging : Judging (read_sheet sheet) plan 1 k st)
    (more : k < (part_at (read_sheet sheet) plan 1).members) where
  -- the batch at its place in the plan, and 13 at that place
  abbrev batch_there : Batch
  batch_there = batch_from plan (member_place 1 (part_at (read_sheet sheet) plan 1).head k)

  abbrev thirteen_there : Judged
  thirteen_there = turned_back rule_broken (member_place 1 (part_at (read_sheet sheet) plan 1).head k)

  pub other_finish_is_thirteen : (batch_there.finish ≡ finish_due (read_sheet sheet).mosaic st.before batch_there → ⊥) → j ≡ thirteen_there
  unfolding MemberFollows
  other_finish_is_thirteen other =
      member_is_thirteen sheet plan j call sound laid 1 (omega arith) (omega arith) (λ i l m. absurd (omega arith)) there k st judging more
      (λ h. other h.lawful.finishes)

  -- .. or its mount starts before the batch before finishes.
  pub mount_too_early_is_thirteen : batch_there.start < st.before.finish → j ≡ thirteen_there
  unfolding MemberFollows
  mount_too_early_is_thirteen early =
      member_is_thirteen sheet plan j call sound laid 1 (omega arith) (omega arith) (λ i l m. absurd (omega arith)) there k st judging more
      (λ h. omega (arith, h.lawful.waits_batch))

-- REQ 09. "Strips with a stranding or a tagged animal should not wait." The field table (sheet, FieldTable.antt) has a row for a strip without a weight and
-- one for a strip with one (`with_weight`); `weight_of` (sheet, Decode.antt) is the weight that a field gives. "The figure becomes the sum of weight ×
-- completion": so it stands in Mosaic.antt and Sorting.antt of crate rules (`mosaic_figure`, `sorting_figure`). "best means least weighted figure throughout":
-- all that is said above of figures, whether stated, judged or least, is said of these: that the judge gives the true ones (`allows_nothing_else`,
-- `allows_what_obeys`), that no allowed plan has a smaller one (`no_smaller_figure`, `best_exactly_mosaic`, `best_exactly_sorting`), that the ceiling is
-- enough (Req 01), and which of several best sortings is taken (Req 03).
module _ (sheet : List ℕ) (sound : (read_sheet sheet).number ≡ 0) where
  whole_sheet : SheetSound (read_sheet sheet)
  whole_sheet = read_sound sheet sound

  -- "A mosaic or sorting strip may carry one last byte, its weight, 1 to 100; absent means 1": the weight of strip j of the mosaic, and of strip k of desk d,
  -- all from 0, is the one that its own field gives, and from 1 to 100. So strips with and without a weight may be mixed.
  pub weight_of_a_mosaic_strip : (j : ℕ) → j < (read_sheet sheet).mosaic.strips
      → MosaicWeightRead sheet j (get_or (read_sheet sheet).mosaic.weight j 0) × Between 1 (get_or (read_sheet sheet).mosaic.weight j 0) most_weight
  weight_of_a_mosaic_strip j l = (
    mosaic_weight_read sheet sound j l,
    record { at_least = whole_sheet.mosaic.least_weight j l; at_most = whole_sheet.mosaic.most_weight_holds j },
  )

  pub weight_of_a_desk_strip : (d k : ℕ) → k < get_or (read_sheet sheet).sorting.counts d 0
      → SortingWeightRead sheet d k (get_or (read_sheet sheet).sorting.weight (6 * d + k) 0)
      × Between 1 (get_or (read_sheet sheet).sorting.weight (6 * d + k) 0) most_weight
  weight_of_a_desk_strip d k l = (
    sorting_weight_read sheet sound d k l,
    record { at_least = whole_sheet.sorting.least_weight d k l; at_most = whole_sheet.sorting.most_weight_holds (6 * d + k) },
  )

  -- "A sheet of unweighted strips has the figures it had": where no strip of the mosaic carries a weight, the figure of every allowed plan, ours among them, is
  -- the sum of completions as 01 has it, and where none of the sorting does, the sum of desk finishing times.
  module _ (plan : List ℕ) (a : AllowedFor sheet plan) where
    pub unweighted_mosaic_figure : Unweighted mosaic_strip_tag sheet
        → figure_of_mosaic (read_sheet sheet) a.allowed.plan ≡ completion_sum (read_sheet sheet).mosaic a.allowed.plan.batches
    unfolding figure_of_mosaic
    unweighted_mosaic_figure u = mosaic_unweighted (read_sheet sheet).mosaic a.allowed.plan.batches (unweighted_mosaic sheet sound u)

    pub unweighted_sorting_figure : Unweighted sorting_strip_tag sheet
        → figure_of_sorting (read_sheet sheet) a.allowed.plan ≡ finish_sum (read_sheet sheet).sorting a.allowed.plan.jobs
    unfolding figure_of_sorting
    unweighted_sorting_figure u =
        sorting_unweighted (read_sheet sheet).sorting a.allowed.plan.jobs a.allowed.lawful.sorting (unweighted_sorting sheet sound u)

-- "any other value is 6": 0 is 6 as well, and not 16. A weight that is not from 1 to 100, of a strip whose values before it are within their ranges (else the
-- first of those that is not decides), is refused at the strip's field, also where the strip is one too many, and whatever stands behind it: with buffers large
-- enough by the planner, for every plan by the judge, and with a page buffer large enough by the page.
pub another_weight_is_six : (sheet plan table plan_after table_end : List ℕ) (r : Answer) → Called sheet plan table plan_after table_end r → Large plan table
    → (place : ℕ) → RefusedForContent sheet (WeightOut sheet) place → r ≡ answer out_of_range place 0
another_weight_is_six sheet plan table plan_after table_end r call large place f =
    (six_for_a_count sheet plan table plan_after table_end r call).always large place (weight_refused sheet place f)

pub another_weight_judged_six : (sheet plan : List ℕ) (j : Judged) → j ≡ judged sheet plan → (place : ℕ) → RefusedForContent sheet (WeightOut sheet) place
    → j ≡ turned_back out_of_range place
another_weight_judged_six sheet plan j call place f = (judged_six sheet plan j call).always place (weight_refused sheet place f)

pub another_weight_paged_six : (sheet plan page page_after : List ℕ) (r : Answer) → Paged sheet plan page page_after r → page_length ≤ length page → (place : ℕ)
    → RefusedForContent sheet (WeightOut sheet) place → r ≡ answer out_of_range place 0
another_weight_paged_six sheet plan page page_after r call large place f =
    let judging = judged_six sheet plan (judged sheet plan) refl in
    (page_says sheet plan page page_after r call out_of_range (RefusedForValue sheet CountOutOfRange) (omega arith) judging).0 large place
    (weight_refused sheet place f)

-- "Mosaic and sorting figures take eight bytes in the plan": in every allowed plan of a sheet with a mosaic, and with a sorting, the head is its tag, the
-- length 8 and the figure in eight bytes. All other fields of a plan are as they were (plan_format, Format.antt).
module _ (sheet plan : List ℕ) (a : AllowedFor sheet plan) where
  pub mosaic_figure_in_eight_bytes : 0 < (read_sheet sheet).mosaic.strips
      → plan
      ≡ (plan_mosaic_tag ∷ 8 ∷ 0 ∷ bytes_of 8 (figure_of_mosaic (read_sheet sheet) a.allowed.plan) ++ members_bytes batch_bytes a.allowed.plan.batches)
      ++ sorting_fields (read_sheet sheet).sorting a.allowed.plan.jobs
      ++ flight_fields (read_sheet sheet).flight a.allowed.plan.order a.allowed.plan.passes
  unfolding plan_bytes figure_of_mosaic mosaic_bytes form_bytes numbers_bytes field_bytes bytes_of
  mosaic_figure_in_eight_bytes some =
      a.allowed.layout
      ∙ ap (λ (bytes : List ℕ). bytes ++ sorting_fields (read_sheet sheet).sorting a.allowed.plan.jobs ++ flight_fields (read_sheet sheet).flight a.allowed.plan.order a.allowed.plan.passes)
      (present_some (read_sheet sheet).mosaic.strips _ some)

  pub sorting_figure_in_eight_bytes : 0 < strips_in_all (read_sheet sheet).sorting
      → plan
      ≡ mosaic_fields (read_sheet sheet).mosaic a.allowed.plan.batches
      ++ (plan_sorting_tag ∷ 8 ∷ 0 ∷ bytes_of 8 (figure_of_sorting (read_sheet sheet) a.allowed.plan) ++ members_bytes job_bytes a.allowed.plan.jobs)
      ++ flight_fields (read_sheet sheet).flight a.allowed.plan.order a.allowed.plan.passes
  unfolding plan_bytes figure_of_sorting sorting_bytes form_bytes numbers_bytes field_bytes bytes_of
  sorting_figure_in_eight_bytes some =
      a.allowed.layout
      ∙ ap (λ (bytes : List ℕ). mosaic_fields (read_sheet sheet).mosaic a.allowed.plan.batches ++ bytes ++ flight_fields (read_sheet sheet).flight a.allowed.plan.order a.allowed.plan.passes)
      (present_some (strips_in_all (read_sheet sheet).sorting) _ some)

  -- The figure has room there: it is at most that of 40 strips, in the sorting 18, of weight 100 that are all complete at 10,000,000.
  pub figures_of_an_allowed_plan : (figure_of_mosaic (read_sheet sheet) a.allowed.plan ≤ most_strips * (most_weight * ceiling))
      × (figure_of_sorting (read_sheet sheet) a.allowed.plan ≤ most_desks * most_strips_of_desk * (most_weight * ceiling))
  unfolding figure_of_mosaic figure_of_sorting
  figures_of_an_allowed_plan = (
    mosaic_figure_most (read_sheet sheet).mosaic a.allowed.plan.batches (read_sound sheet a.sound).mosaic a.allowed.lawful.mosaic,
    sorting_figure_most (read_sheet sheet).sorting a.allowed.plan.jobs (read_sound sheet a.sound).sorting a.allowed.lawful.sorting,
  )

-- A head of tag 90 or A0 with any other length, as one of four bytes, is 12 at it, where every field before it is one that is due.
pub another_head_length_is_twelve : (sheet plan : List ℕ) (j : Judged) → j ≡ judged sheet plan → (read_sheet sheet).number ≡ 0 → (n at k tag len : ℕ)
    → DueUpTo (read_sheet sheet) plan n at k → field_at plan at ≡ Whole tag len → EightByteHead tag → (len ≡ 8 → ⊥) → j ≡ turned_back layout_wrong at
another_head_length_is_twelve sheet plan j call sound n at k tag len due e wide other =
    turns_back_for_its_fault sheet plan j call layout_wrong at
    (Fault.in_layout sound
    (LayoutFault.wrong_field n k due (omega (arith, (whole_at plan at tag len e).within)) (another_length_not_due (read_sheet sheet) plan at k tag len e wide other)) refl)

-- "and the plan buffer must have 1,103": with fewer bytes the call gives 2, and of a buffer with as many or more the length has no part in the answer.
module _ (sheet plan table plan_after table_end : List ℕ) (r : Answer) (call : Called sheet plan table plan_after table_end r) (working : table_length ≤ length table) where
  pub below_1103_is_two : length plan < 1_103 → r ≡ answer buffer_too_small 0 0
  below_1103_is_two l = turned_back_lem sheet plan table plan_after table_end r call buffer_too_small 0 (TurnedBack.buffer_small working l refl refl)

  pub buffer_of_1103_is_enough : 1_103 ≤ length plan → r ≡ sheet_answer (read_sheet sheet)
  unfolding answer_of
  buffer_of_1103_is_enough l = call.answer ∙ rw (le-ltb (length table) table_length working, le-ltb (length plan) plan_length l)

-- Absent and 1 (02: "absent means 1"): with a strip that carries no weight behind some bytes, and with a last byte of 1 in it, wherever the reading comes to
-- that strip, two calls with the same buffers give the same number, plan bytes and length, and places behind the strip are one higher; and the judge gives
-- every plan the same number, place and figures where the sheet is sound, and else turns both back with the same number.
module _ (before : List ℕ) (tag : ℕ) (content rest : List ℕ) (st : Reading) (reached : Reached (without_weight before tag content rest) st)
    (here : st.at ≡ length before) (strip : StripAt st tag (length content)) where
  module _ (plan table plan_after table_end other_after other_end : List ℕ) (r q : Answer)
      (call : Called (without_weight before tag content rest) plan table plan_after table_end r)
      (other : Called (with_weight_one before tag content rest) plan table other_after other_end q) where
    pub absent_weight_planned : (q ≡ moved_answer 1 (length before) r) × (other_after ≡ plan_after) × (other_end ≡ table_end)
    absent_weight_planned =
        planned_same _ _ plan table plan_after table_end other_after other_end r q _ _ (absent_weight before content rest st here tag reached strip) call other

  pub absent_weight_judged : (plan : List ℕ) (j k : Judged) → j ≡ judged (without_weight before tag content rest) plan
      → k ≡ judged (with_weight_one before tag content rest) plan
      → ((read_sheet (without_weight before tag content rest)).number ≡ 0 → k ≡ j)
      × (((read_sheet (without_weight before tag content rest)).number ≡ 0 → ⊥) → k ≡ turned_back j.number (moved_place 1 (length before) j.place))
  absent_weight_judged plan j k judging also = judged_same _ _ _ _ (absent_weight before content rest st here tag reached strip) plan j k judging also

-- Sheets that differ only so, in however many strips: one strip after another gets a last byte of 1.
pub data OnesWritten (sheet : List ℕ) : List ℕ → Type 0 where
  none : OnesWritten sheet sheet
  one_more : (before : List ℕ) (tag : ℕ) (content rest : List ℕ) (st : Reading) → OnesWritten sheet (without_weight before tag content rest)
      → Reached (without_weight before tag content rest) st → st.at ≡ length before → StripAt st tag (length content)
      → OnesWritten sheet (with_weight_one before tag content rest)

-- "Absent and 1 give the same plan bytes" (reading 30): two calls with the same buffers give the same number and length, and leave the same in both buffers.
ones_planned : (sheet other plan table plan_after table_end other_after other_end : List ℕ) (r q : Answer) → OnesWritten sheet other
    → Called sheet plan table plan_after table_end r → Called other plan table other_after other_end q
    → (q.number ≡ r.number) × (q.length ≡ r.length) × (other_after ≡ plan_after) × (other_end ≡ table_end)
ones_planned sheet other plan table plan_after table_end other_after other_end r q none call next = (
  ap (λ (x : Answer). x.number) (next.answer ∙ sym call.answer),
  ap (λ (x : Answer). x.length) (next.answer ∙ sym call.answer),
  next.buffer ∙ sym call.buffer,
  next.table ∙ sym call.table,
)
ones_planned sheet other plan table plan_after table_end other_after other_end r q (one_more before tag content rest st w reached here strip) call next =
    let middle : Called (without_weight before tag content rest) plan table _ _ _ = record { answer = refl; buffer = refl; table = refl } in
    let first = ones_planned sheet (without_weight before tag content rest) plan table plan_after table_end _ _ r _ w call middle in
    let second = planned_same _ _ plan table _ _ other_after other_end _ q _ _ (absent_weight before content rest st here tag reached strip) middle next in (
      ap (λ (x : Answer). x.number) second.0 ∙ first.0,
      ap (λ (x : Answer). x.length) second.0 ∙ first.1,
      second.1 ∙ first.2,
      second.2 ∙ first.3,
    )

-- So it is for any two sheets that differ only so: each has last bytes of 1 in some strips where a third sheet has none.
pub ones_written_planned : (base sheet other plan table plan_after table_end other_after other_end : List ℕ) (r q : Answer) → OnesWritten base sheet
    → OnesWritten base other → Called sheet plan table plan_after table_end r → Called other plan table other_after other_end q
    → (q.number ≡ r.number) × (q.length ≡ r.length) × (other_after ≡ plan_after) × (other_end ≡ table_end)
ones_written_planned base sheet other plan table plan_after table_end other_after other_end r q v w call next =
    let third : Called base plan table _ _ _ = record { answer = refl; buffer = refl; table = refl } in
    let here = ones_planned base sheet plan table _ _ plan_after table_end _ r v third call in
    let there = ones_planned base other plan table _ _ other_after other_end _ q w third next in
    (there.0 ∙ sym here.0, there.1 ∙ sym here.1, there.2 ∙ sym here.2, there.3 ∙ sym here.3)

-- Where the one call is accepted, the other gives the same answer.
pub ones_written_accepted : (base sheet other plan table plan_after table_end other_after other_end : List ℕ) (r q : Answer) → OnesWritten base sheet
    → OnesWritten base other → Called sheet plan table plan_after table_end r → Called other plan table other_after other_end q → r.number ≡ 0 → q ≡ r
ones_written_accepted base sheet other plan table plan_after table_end other_after other_end r q v w call next z =
    let same = ones_written_planned base sheet other plan table plan_after table_end other_after other_end r q v w call next in
    let place : q.place ≡ r.place =
    (accepted_writes_the_plan other plan table other_after other_end q next (same.0 ∙ z)).place ∙ sym (accepted_writes_the_plan sheet plan table plan_after table_end r call z).place in
    λ i. record { number = same.0 i; place = place i; length = same.1 i }

ones_number : (sheet other : List ℕ) → OnesWritten sheet other → (read_sheet other).number ≡ (read_sheet sheet).number
ones_number sheet other none = refl
ones_number sheet other (one_more before tag content rest st w reached here strip) =
    (absent_weight before content rest st here tag reached strip).number ∙ ones_number sheet (without_weight before tag content rest) w

ones_judged : (sheet other plan : List ℕ) → OnesWritten sheet other → (read_sheet sheet).number ≡ 0 → judged other plan ≡ judged sheet plan
ones_judged sheet other plan none z = refl
ones_judged sheet other plan (one_more before tag content rest st w reached here strip) z =
    same_judged _ _ _ _ (absent_weight before content rest st here tag reached strip) plan (ones_number sheet (without_weight before tag content rest) w ∙ z)
    ∙ ones_judged sheet (without_weight before tag content rest) plan w z

-- The judge gives every plan the same number, place and figures with the one as with the other, where the sheet is sound.
pub ones_written_judged : (base sheet other plan : List ℕ) (j k : Judged) → OnesWritten base sheet → OnesWritten base other → j ≡ judged sheet plan
    → k ≡ judged other plan → (read_sheet sheet).number ≡ 0 → k ≡ j
ones_written_judged base sheet other plan j k v w judging also z =
    let sound = sym (ones_number base sheet v) ∙ z in
    also ∙ ones_judged base other plan w sound ∙ sym (judging ∙ ones_judged base sheet plan v sound)
