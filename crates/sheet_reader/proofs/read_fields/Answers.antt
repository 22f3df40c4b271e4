-- `read_fields` meets its contract: each goal is a law of the loop.
use denote.Ref.{Bor}
use Rattle.std.specs.Prelude.{ℕ, List}
use Rattle.std.proofs.Common.{ap, arith}
use Rattle.sheet_reader.proofs.Loop.{reading_first, cut_refused, field_pre, field_refused, reading_pre, reading_next, reading_less, end_refused, end_accepted}
use Rattle.sheet_reader.proofs.read_fields.Goals as goal

pub loop-reading-init : goal.loop-reading-init
loop-reading-init c = reading_first _ _ _ _ (ap (λ (s : Bor (List ℕ)). s.now) c.set_on-reader.ensures.0) c.set_on-reader.ensures.1 c.start-reading.ensures

pub returns-in_default : goal.returns-in_default
returns-in_default c =
    let place = c.loop-reading.invariant.same_place in
    cut_refused _ _ _ _ c.loop-reading.invariant _ c.next_field.ensures (omega (arith, c.loop-reading-test.true)) c.in_default.not-Whole _ c.new.ensures

pub check_field-requires : goal.check_field-requires
check_field-requires c = field_pre _ _ _ _ c.loop-reading.invariant _ c.next_field.ensures _ _ c.in-Whole.is

pub returns-in_err-check_field : goal.returns-in_err-check_field
returns-in_err-check_field c =
    field_refused _ _ _ _ c.loop-reading.invariant _ c.next_field.ensures _ _ c.in-Whole.is _ _ c.from_residual.ensures.1 c.in_err-check_field.ensures.number
    c.in_err-check_field.ensures.place

pub next_reading-reading-requires : goal.next_reading-reading-requires
next_reading-reading-requires c = search (reading_pre, c.in_ok-check_field.ensures)

pub loop-reading-smaller : goal.loop-reading-smaller
loop-reading-smaller c =
    reading_less _ _ _ _ c.loop-reading.invariant _ c.next_field.ensures _ _ c.in-Whole.is c.in_ok-check_field.ensures.number _ c.next_reading-reading.ensures _
    c.past-reader.ensures.1

pub loop-reading-preserved : goal.loop-reading-preserved
loop-reading-preserved c =
    reading_next _ _ _ _ c.loop-reading.invariant _ c.next_field.ensures _ _ c.in-Whole.is c.in_ok-check_field.ensures.number _ c.next_reading-reading.ensures _
    c.past-reader.ensures.1 _ (ap (λ (s : Bor (List ℕ)). s.now) c.past-reader.ensures.0)

pub returns-in_err-check_end : goal.returns-in_err-check_end
returns-in_err-check_end c =
    let place = c.loop-reading.invariant.same_place in
    end_refused _ _ _ _ c.loop-reading.invariant (omega (arith, c.loop-reading-test.false)) _ _ c.from_residual-in_err-check_end.ensures.1 c.in_err-check_end.ensures.number
    c.in_err-check_end.ensures.place

pub returns : goal.returns
returns c =
    let place = c.loop-reading.invariant.same_place in
    end_accepted _ _ _ _ c.loop-reading.invariant (omega (arith, c.loop-reading-test.false)) c.in_ok-check_end.ensures.number
