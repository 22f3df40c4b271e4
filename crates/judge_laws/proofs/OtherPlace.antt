-- The places that reading a sheet keeps have no part in the judging of a plan: of two sheets that are the same but for places, each plan gets the same verdict.
use Rattle.std.specs.Prelude.{◌≡◌, ◌&&◌, List, eqb}
use Rattle.std.proofs.Math.Path.{refl, ap, ap₂}
use Rattle.std.proofs.Common.{sym, ◌∙◌}
use Rattle.std.proofs.Math.Bool.{true, false, cond}
use Prim.Native.Nat.{ℕ, zero, suc, ◌+◌}
use Rattle.std.proofs.Math.Dec.{leb}
use borrow.Author.Tests.{eq-eqb, ne_eqb}
use Rattle.order.specs.Passes.{pass_at}
use Rattle.sheet.specs.Refusals.{rule_broken}
use Rattle.sheet.specs.Read.{read_sheet}
use Rattle.sheet.specs.SameContent.{with_place}
use Rattle.sheet.specs.MovedPlaces.{moved_place, SameButPlaces}
use Rattle.sheet.specs.declared.Sheet.{Sheet}
use Rattle.rules.specs.Flight.{pass_start, pass_time, pass_end, second_due, clear_at, flight_figure}
use Rattle.rules.specs.declared.Passes.{Passes}
use Rattle.judge_rules.specs.Follows.{block_follows, passes_in_order, flight_head}
use Rattle.judge_layout.specs.Layout.{mosaic_part, sorting_part, flight_part, verdict, layout_verdict, Verdict}
use Rattle.judge_layout.specs.declared.Part.{Part}
use Rattle.judge_members.specs.Members.{present, begun, member_follows, after_batch, after_strip, after_member, head_follows, figure_of, head_number, member_place}
use Rattle.judge_members.specs.declared.Progress.{Progress}
use Rattle.judge.specs.Judged.{part_at, section_from, section_verdict, sections_from, stated_figure, turned_back, found, concluded, judged_plan, judged}

-- a sheet with other places
abbrev relocated : ℕ → ℕ → Sheet → Sheet
relocated place eleven s =
    record { number = s.number; place = place; mosaic = s.mosaic; sorting = s.sorting; flight = with_place eleven s.flight }

module _ (place eleven : ℕ) (s : Sheet) where
  in_order_placed : (order : ℕ) (ps : List Passes) (k : ℕ) → passes_in_order (with_place eleven s.flight) order ps k ≡ passes_in_order s.flight order ps k
  unfolding passes_in_order clear_at pass_end pass_start pass_time
  in_order_placed order ps zero = refl
  in_order_placed order ps (suc k) =
      ap
      (λ b. b && leb (clear_at s.flight ps (pass_at s.flight.blocks order k)) (pass_start s.flight ps (pass_at s.flight.blocks order (k + 1))))
      (in_order_placed order ps k)

  head_placed : (members order : ℕ) (ps : List Passes) → flight_head (with_place eleven s.flight) members order ps ≡ flight_head s.flight members order ps
  unfolding flight_head
  head_placed members order ps = rw (in_order_placed order ps _)

  section_placed : (left : ℕ) (plan : List ℕ) (section : ℕ) (part : Part) (k : ℕ) (st : Progress)
      → section_from left (relocated place eleven s) plan section part k st ≡ section_from left s plan section part k st
  unfolding section_from head_number head_follows figure_of flight_figure pass_end pass_start pass_time member_follows block_follows second_due after_member after_batch after_strip
  section_placed zero plan section part k st = rw (head_placed part.members _ _)
  section_placed (suc left) plan section part k st =
      ap
      (λ (v : Verdict).
      elim (member_follows s plan section k (member_place section part.head k) st)
      [ true ↦ v | false ↦ verdict rule_broken (member_place section part.head k) ])
      (section_placed left plan section part (k + 1) (after_member s plan section (member_place section part.head k) st))

  verdict_placed : (plan : List ℕ) (section : ℕ) → section_verdict (relocated place eleven s) plan section ≡ section_verdict s plan section
  unfolding section_verdict part_at mosaic_part sorting_part flight_part present
  verdict_placed plan section =
      ap (λ (v : Verdict). cond (present s section) v (verdict 0 0))
      (section_placed (part_at s plan section).members plan section (part_at s plan section) 0 begun)

  sections_placed : (left : ℕ) (plan : List ℕ) (section : ℕ) → sections_from left (relocated place eleven s) plan section ≡ sections_from left s plan section
  unfolding sections_from
  sections_placed zero plan section = refl
  sections_placed (suc left) plan section =
      ap₂ (λ (v w : Verdict). elim (eqb v.number 0) [ true ↦ w | false ↦ v ]) (verdict_placed plan section) (sections_placed left plan (section + 1))

  plan_placed : (plan : List ℕ) → judged_plan (relocated place eleven s) plan ≡ judged_plan s plan
  unfolding judged_plan layout_verdict concluded found stated_figure part_at mosaic_part sorting_part flight_part present
  plan_placed plan =
      ap (λ (v : Verdict). cond (eqb (layout_verdict s plan).number 0) (concluded s plan v) (turned_back (layout_verdict s plan).number (layout_verdict s plan).place))
      (sections_placed 3 plan 1)

-- Two sheets that are the same but for places: a plan is judged the same by both where they are sound, and else each is turned back with its own place.
module _ (sheet other : List ℕ) (d n : ℕ) (same : SameButPlaces d n (read_sheet sheet) (read_sheet other)) (plan : List ℕ) where
  relocation : read_sheet other ≡ relocated (read_sheet other).place (moved_place d n (read_sheet sheet).flight.place) (read_sheet sheet)
  relocation = λ i. record {
    number = same.number i;
    place = (read_sheet other).place;
    mosaic = same.mosaic i;
    sorting = same.sorting i;
    flight = same.flight i;
  }

  pub same_judged : (read_sheet sheet).number ≡ 0 → judged other plan ≡ judged sheet plan
  unfolding judged
  same_judged z =
      rw (eq-eqb (read_sheet other).number 0 (same.number ∙ z), eq-eqb (read_sheet sheet).number 0 z)
      (ap (λ (x : Sheet). judged_plan x plan) relocation ∙ plan_placed (read_sheet other).place _ (read_sheet sheet) plan)

  pub same_refused : ((read_sheet sheet).number ≡ 0 → ⊥)
      → judged other plan ≡ turned_back (judged sheet plan).number (moved_place d n (judged sheet plan).place)
  unfolding judged turned_back
  same_refused z =
      rw (ne_eqb (read_sheet other).number 0 (λ e. z (sym same.number ∙ e)), ne_eqb (read_sheet sheet).number 0 z, same.number, same.place)
