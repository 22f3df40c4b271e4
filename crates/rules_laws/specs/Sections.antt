-- A section of a plan, its head and then its members: how long it is, that its members and its numbers are read back where it was written,
-- and that a section which is found stands as it is read. One law over the kind of member, and the three sections.
use Rattle.std.specs.Prelude.{◌≡◌, ℕ, ◌+◌, ◌*◌, ◌^◌, ◌<◌}
use Rattle.std.proofs.Common.{◌∙◌}
use mathlib.Core.List.{List, [], ◌∷◌, ◌++◌}
use Rattle.field.specs.Field.{field_at}
use Rattle.field.specs.declared.Field.TheVariants.{Whole}
use Rattle.plan_format.specs.Format.{Form, content_length, size_of}

-- a head of a form stands at an offset, and n members of a form behind it
pub record SectionFound (head member : Form) (plan : List ℕ) (at n : ℕ) : Type 0 where
  pub head_there : field_at plan at ≡ Whole head.tag (content_length head)
  pub each : (i : ℕ) → i < n → field_at plan (at + size_of head + size_of member * i) ≡ Whole member.tag (content_length member)
