-- The field. 01: "A field is a one-byte tag, a two-byte content length and the content."
use Rattle.std.specs.Prelude.{ℕ, ◌+◌, ◌-◌, cond, List, ◌∷◌, ◌++◌, length, get_or, ltb, leb}
use Rattle.field.specs.Bytes.{number_at, bytes_of}
use Rattle.field.specs.declared.Field.{Field}
use Rattle.field.specs.declared.Field.TheVariants.{End, Cut, Whole}

-- the field at an offset: none at the end; cut where under three bytes are left or the content runs past the end; else its tag and content length
unfoldable pub field_at : List ℕ → ℕ → Field
field_at s at =
    cond (leb (length s) at) End
    (cond (ltb (length s - at) 3) Cut
    (cond (leb (number_at s (at + 1) 2) (length s - at - 3)) (Whole (get_or s at 0) (number_at s (at + 1) 2)) Cut))

-- the offset behind a field that stands at an offset
unfoldable pub end_of : ℕ → Field → ℕ
end_of at End = at
end_of at Cut = at
end_of at (Whole tag len) = at + 3 + len

-- the bytes of a field: tag, content length, content
unfoldable pub field_bytes : ℕ → List ℕ → List ℕ
field_bytes tag content = tag ∷ bytes_of 2 (length content) ++ content
