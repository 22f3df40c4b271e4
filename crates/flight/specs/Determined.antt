-- The contract of `plan_flight` determines the plan: the passes of the blocks stand in the first entries of its array, and zeros after them.
use Rattle.std.specs.Prelude.{◌≡◌, List, ℕ, ◌<◌, length, get_or}
use Rattle.std.proofs.Common.{ap, ◌∙◌, sym, arith}
use Rattle.std.proofs.lemmas.List.{ext_get_or}
use Rattle.std.proofs.Math.Decide.{dec_lt}
use Rattle.base.specs.Listed.{listed_at}
use Rattle.sheet.specs.declared.FlightSection.{FlightSection}
use Rattle.rules.specs.Flight.{no_passes}
use Rattle.rules.specs.declared.Passes.{Passes}
use Rattle.flight.specs.Choice.{passes_of_plan, Planned}
use Rattle.flight.specs.declared.FlightPlan.{FlightPlan}

module _ {f : FlightSection} {p r : FlightPlan} (P : Planned f p) (R : Planned f r) where
  same_passes : (i : ℕ) → i < f.blocks → get_or p.blocks i no_passes ≡ get_or r.blocks i no_passes
  unfolding passes_of_plan
  same_passes i l =
      sym (listed_at f.blocks (λ k. get_or p.blocks k no_passes) i no_passes l)
      ∙ ap (λ (ps : List Passes). get_or ps i no_passes) (P.passes ∙ sym R.passes)
      ∙ listed_at f.blocks (λ k. get_or r.blocks k no_passes) i no_passes l

  same_blocks : length p.blocks ≡ length r.blocks → p.blocks ≡ r.blocks
  same_blocks len = ext_get_or no_passes p.blocks r.blocks len (λ i h. elim (dec_lt i f.blocks) [
    | yes l ↦ same_passes i l
    | no l ↦ P.no_more i (omega arith) ∙ sym (R.no_more i (omega arith))
  ])

  pub planned_determined : length p.blocks ≡ length r.blocks → p ≡ r
  planned_determined len = λ i. record {
    possible = (P.possible ∙ sym R.possible) i;
    figure = (P.figure ∙ sym R.figure) i;
    order = (P.order ∙ sym R.order) i;
    blocks = same_blocks len i;
  }
