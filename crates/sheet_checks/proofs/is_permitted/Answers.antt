-- `is_permitted` meets its contract: each way through its tests is one through the definition.
use mathlib.Core.Path.{◌≡◌}
use mathlib.Core.Bool.{Bool, false}
use Prim.Native.Nat.{ℕ}
use lib.Dec.{eqb, ltb}
use borrow.Author.Tests.{ne_eqb}
use Rattle.base.specs.Branch.{branches}
use Rattle.sheet.specs.Tags.{mosaic_head_tag, mosaic_strip_tag, sorting_head_tag, sorting_strip_tag, flight_head_tag, flight_block_tag, flight_order_tag}
use Rattle.sheet.specs.Tags.{flight_window_block_tag}
use Rattle.sheet.specs.Sections.{in_sorting, in_flight}
use Rattle.sheet.specs.Checks.{order_permitted, permitted}
use Rattle.sheet_checks.proofs.is_permitted.Goals as goal

sorting_head_case : (tag section members : ℕ) → tag ≡ sorting_head_tag → ltb section in_sorting ≡ permitted tag section members
unfolding permitted
sorting_head_case tag section members e = rw e

window_block_case : (tag section members : ℕ) → tag ≡ flight_window_block_tag → eqb section in_flight ≡ permitted tag section members
unfolding permitted
window_block_case tag section members e = rw e

order_case : (tag section members : ℕ) (r : Bool) → tag ≡ flight_order_tag → r ≡ order_permitted section members → r ≡ permitted tag section members
unfolding permitted
order_case tag section members r e h = rw e h

other_tag : (tag section members : ℕ) → (tag ≡ mosaic_head_tag → ⊥) → (tag ≡ mosaic_strip_tag → ⊥) → (tag ≡ sorting_head_tag → ⊥) → (tag ≡ sorting_strip_tag → ⊥)
    → (tag ≡ flight_head_tag → ⊥) → (tag ≡ flight_block_tag → ⊥) → (tag ≡ flight_window_block_tag → ⊥) → (tag ≡ flight_order_tag → ⊥)
    → false ≡ permitted tag section members
unfolding permitted
other_tag tag section members h₁ h₂ h₃ h₄ h₅ h₆ h₇ h₈ =
    rw (ne_eqb _ _ h₁, ne_eqb _ _ h₂, ne_eqb _ _ h₃, ne_eqb _ _ h₄, ne_eqb _ _ h₅, ne_eqb _ _ h₆, ne_eqb _ _ h₇, ne_eqb _ _ h₈)

pub returns-in-16 : goal.returns-in-16
unfolding permitted
returns-in-16 c = search branches depth 14

pub returns-in-17 : goal.returns-in-17
unfolding permitted
returns-in-17 c = search branches depth 14

pub returns-in-32 : goal.returns-in-32
returns-in-32 c = search sorting_head_case

pub returns-in-33 : goal.returns-in-33
unfolding permitted
returns-in-33 c = search branches depth 14

pub returns-in-48 : goal.returns-in-48
unfolding permitted
returns-in-48 c = search branches depth 14

pub returns-in-49 : goal.returns-in-49
unfolding permitted
returns-in-49 c = search branches depth 14

pub returns-in-51 : goal.returns-in-51
returns-in-51 c = search window_block_case

pub returns-in-50 : goal.returns-in-50
returns-in-50 c = search order_case

pub returns-in_default : goal.returns-in_default
returns-in_default c = search other_tag
