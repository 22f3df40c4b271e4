-- A head of a mosaic or of a sorting is due with eight bytes alone (02, Req 09): with any other length it is no field that is due, wherever it stands.
use Rattle.std.specs.Prelude.{ℕ, ◌≡◌}
use Rattle.sheet.specs.Tags.{plan_mosaic_tag, plan_sorting_tag}

-- the tag of a head whose figure has eight bytes: 90 and A0
pub data EightByteHead (tag : ℕ) : Type 0 where
  of_mosaic_holds : tag ≡ plan_mosaic_tag → EightByteHead tag
  of_sorting_holds : tag ≡ plan_sorting_tag → EightByteHead tag
