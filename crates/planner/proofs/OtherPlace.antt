-- Two sheets that are the same but for places: what a call answers and writes for the one and for the other is the same but for the place.
use Rattle.std.specs.Prelude.{ℕ, ◌≡◌, refl, Bool, ltb, eqb, length}
use Rattle.std.proofs.Math.Path.{sym, ap}
use Rattle.std.proofs.Common.{◌∙◌, arith}
use Rattle.std.proofs.Math.Bool.{true, false, cond}
use mathlib.Core.List.{List, []}
use Rattle.base.specs.Answer.{answer}
use Rattle.base.specs.declared.Answer.{Answer}
use Rattle.field.specs.Put.{holding}
use Rattle.sheet.specs.Limits.{table_length, plan_length}
use Rattle.sheet.specs.Refusals.{table_too_small, buffer_too_small, order_impossible}
use Rattle.sheet.specs.Read.{read_sheet}
use Rattle.sheet.specs.MovedPlaces.{moved_place, SameButPlaces}
use Rattle.sheet.proofs.MovedPlaces.{stays}
use Rattle.sheet.specs.declared.Sheet.{Sheet}
use Rattle.rules.specs.Plan.{plan_bytes}
use Rattle.flight.specs.Choice.{is_possible}
use Rattle.flight.specs.OtherPlace.{order_placed, possible_placed, passes_placed, figure_placed}
use Rattle.planner.specs.Call.{chosen_plan, sheet_answer, sheet_plan, answer_of, planned_bytes, Called}
use Rattle.planner.specs.OtherPlace.{moved_answer}

module _ (d n : ℕ) (x y : Sheet) (same : SameButPlaces d n x y) where
  possible_same : is_possible y.flight ≡ is_possible x.flight
  possible_same = ap is_possible same.flight ∙ possible_placed _ x.flight

  place_same : y.flight.place ≡ moved_place d n x.flight.place
  place_same = ap (λ f. f.place) same.flight

  bytes_same : plan_bytes y (chosen_plan y) ≡ plan_bytes x (chosen_plan x)
  unfolding plan_bytes chosen_plan
  bytes_same =
      rw (same.mosaic, same.sorting, same.flight, order_placed _ x.flight, passes_placed _ x.flight, figure_placed _ x.flight _)

  plan_same : sheet_plan y ≡ sheet_plan x
  unfolding sheet_plan
  plan_same = λ i. cond (eqb (same.number i) 0) (cond (possible_same i) (bytes_same i) []) []

  answer_same : sheet_answer y ≡ moved_answer d n (sheet_answer x)
  unfolding sheet_answer
  answer_same = parts ∙ go (eqb x.number 0) (is_possible x.flight)
    where
      parts : sheet_answer y
          ≡ cond (eqb x.number 0)
          (cond (is_possible x.flight) (answer 0 0 (length (plan_bytes x (chosen_plan x)))) (answer order_impossible (moved_place d n x.flight.place) 0))
          (answer x.number (moved_place d n x.place) 0)
      parts = λ i.
          cond (eqb (same.number i) 0)
          (cond (possible_same i) (answer 0 0 (length (bytes_same i))) (answer order_impossible (place_same i) 0))
          (answer (same.number i) (same.place i) 0)

      go : (a b : Bool)
          → cond a
          (cond b (answer 0 0 (length (plan_bytes x (chosen_plan x)))) (answer order_impossible (moved_place d n x.flight.place) 0))
          (answer x.number (moved_place d n x.place) 0)
          ≡ moved_answer d n
          (cond a (cond b (answer 0 0 (length (plan_bytes x (chosen_plan x)))) (answer order_impossible x.flight.place 0)) (answer x.number x.place 0))
      go true true = ap (λ p. answer 0 p (length (plan_bytes x (chosen_plan x)))) (sym (stays d n 0 (omega arith)))
      go true false = refl
      go false b = refl

-- Two calls with the same buffers.
module _ (sheet other plan table plan_after table_end other_after other_end : List ℕ) (r q : Answer) (d n : ℕ)
    (same : SameButPlaces d n (read_sheet sheet) (read_sheet other)) (call : Called sheet plan table plan_after table_end r) (next : Called other plan table other_after other_end q) where
  pub same_answer : q ≡ moved_answer d n r
  unfolding answer_of
  same_answer = next.answer ∙ go (ltb (length table) table_length) (ltb (length plan) plan_length) ∙ ap (moved_answer d n) (sym call.answer)
    where
      go : (a b : Bool)
          → cond a (answer table_too_small 0 0) (cond b (answer buffer_too_small 0 0) (sheet_answer (read_sheet other)))
          ≡ moved_answer d n (cond a (answer table_too_small 0 0) (cond b (answer buffer_too_small 0 0) (sheet_answer (read_sheet sheet))))
      go true b = ap (λ p. answer table_too_small p 0) (sym (stays d n 0 (omega arith)))
      go false true = ap (λ p. answer buffer_too_small p 0) (sym (stays d n 0 (omega arith)))
      go false false = answer_same d n (read_sheet sheet) (read_sheet other) same

  pub same_buffer : other_after ≡ plan_after
  unfolding planned_bytes
  same_buffer =
      next.buffer
      ∙ ap (λ bytes. holding (cond (ltb (length table) table_length) [] (cond (ltb (length plan) plan_length) [] bytes)) plan)
      (plan_same d n (read_sheet sheet) (read_sheet other) same)
      ∙ sym call.buffer

  pub same_table : other_end ≡ table_end
  same_table = next.table ∙ sym call.table
