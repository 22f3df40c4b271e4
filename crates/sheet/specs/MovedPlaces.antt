-- Two sheets that part in one field, which is d bytes longer in the one than in the other: where these fields are checked and decoded alike, both sheets are
-- read with the same number and the same sections, and the places of later fields are d higher.
-- The idea: up to the field the two sheets are the same; behind it their readings stand at the same fields, d bytes apart, and stay alike.
use Prim.Native.Nat.{ℕ, ◌+◌, ◌-◌, ◌≤◌, ◌<◌}
use Rattle.std.specs.Prelude.{◌≡◌, List, ◌++◌}
use Rattle.std.proofs.Common.{◌∙◌}
use Rattle.std.proofs.Math.Bool.{cond}
use Rattle.std.proofs.Math.Dec.{leb}
use Rattle.field.specs.Field.{field_bytes}
use Rattle.sheet.specs.SameContent.{with_place}
use Rattle.sheet.specs.declared.Sheet.{Sheet}

-- a place of the one sheet in the other: d higher behind the field in which they part, which stands at n
unfoldable pub moved_place : ℕ → ℕ → ℕ → ℕ
moved_place d n place = cond (leb place n) place (place + d)

-- what is read of the two sheets: the same but for places behind n
pub record SameButPlaces (d n : ℕ) (x y : Sheet) : Type 0 where
  pub number : y.number ≡ x.number
  pub place : y.place ≡ moved_place d n x.place
  pub mosaic : y.mosaic ≡ x.mosaic
  pub sorting : y.sorting ≡ x.sorting
  pub flight : y.flight ≡ with_place (moved_place d n x.flight.place) x.flight

-- a field behind some bytes of a sheet and before others
abbrev pub with_field : List ℕ → ℕ → List ℕ → List ℕ → List ℕ
with_field before tag content rest = before ++ (field_bytes tag content ++ rest)
