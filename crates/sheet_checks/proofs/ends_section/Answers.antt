-- `ends_section` meets its contract: each tag that its pattern names is one of the definition's.
use Rattle.std.specs.Prelude.{◌≡◌, ℕ, true, ◌⊎◌}
use Rattle.std.proofs.Common.{inl, inr}
use Rattle.base.specs.Branch.{branches}
use Rattle.sheet.specs.Tags.{mosaic_head_tag, sorting_head_tag, flight_head_tag}
use Rattle.sheet.specs.Checks.{ends_section}
use Rattle.sheet_checks.proofs.ends_section.Goals as goal

head : (tag : ℕ) → tag ≡ mosaic_head_tag ⊎ (tag ≡ sorting_head_tag ⊎ tag ≡ flight_head_tag) → true ≡ ends_section tag
unfolding ends_section
head tag (inl e) = rw e
head tag (inr (inl e)) = rw e
head tag (inr (inr e)) = rw e

pub returns-in-16 : goal.returns-in-16
returns-in-16 c = head _ c.in-16.is

pub returns-in_default : goal.returns-in_default
unfolding ends_section
returns-in_default c = search branches depth 14
