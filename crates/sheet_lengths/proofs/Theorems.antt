-- What `length_due` answers by its contract (02, Req 05): for a tag of the field table the lengths of its contents, for any other none.
-- The idea: the lengths that the answer means are those of the tag's rows, and they determine the answer.
use Rattle.std.specs.Prelude.{ℕ, ◌+◌, ◌*◌, ◌≤◌, ◌≡◌, List, [], ◌∷◌, length, get_or}
use Rattle.std.proofs.Math.Path.{refl, sym, ap}
use Rattle.std.proofs.Common.{ap₂, subst, ◌∙◌, inl, inr, arith}
use Rattle.std.proofs.Math.Decide.{ℕ_discrete}
use Rattle.sheet.specs.Limits.{most_stations}
use Rattle.sheet.specs.Tags.{mosaic_head_tag, mosaic_strip_tag, sorting_head_tag, sorting_strip_tag, flight_head_tag, flight_block_tag, flight_order_tag}
use Rattle.sheet.specs.Tags.{flight_window_block_tag}
use Rattle.sheet.specs.Among.{Among}
use Rattle.sheet.specs.FieldTable.{Item, TableRow, field_table, length_of, contents_of, lengths_of, lengths_due}
use Rattle.sheet.specs.Contents.{RowOfLength}
use Rattle.sheet.proofs.Contents.{row_due, due_row, no_row_due, none_due, no_content, mosaic_head_content}
use Rattle.sheet.proofs.Contents.{sorting_head_content, flight_block_content, flight_window_block_content, flight_order_content}
use Rattle.sheet_lengths.specs.Lengths.{lengths_given, GivesLength}
use Rattle.sheet_lengths.proofs.Lengths.{mosaic_strip_case, sorting_strip_case, flight_head_case, other_count_case, other_tag_case}
use Rattle.sheet_lengths.specs.declared.LengthDue.{LengthDue}
use Rattle.sheet_lengths.specs.declared.LengthDue.TheVariants.{Bytes, Either, None}

-- an answer is known by the lengths that it means
first_of : {l m : List ℕ} → l ≡ m → get_or l 0 0 ≡ get_or m 0 0
first_of e = ap (λ (x : List ℕ). get_or x 0 0) e

second_of : {l m : List ℕ} → l ≡ m → get_or l 1 0 ≡ get_or m 1 0
second_of e = ap (λ (x : List ℕ). get_or x 1 0) e

as_many : {l m : List ℕ} → l ≡ m → length l ≡ length m
as_many e = ap length e

given_bytes : (due : LengthDue) (n : ℕ) → lengths_given due ≡ n ∷ [] → due ≡ Bytes n
unfolding lengths_given
given_bytes (Bytes m) n e = ap Bytes (first_of e)
given_bytes (Either m k) n e = absurd (omega (arith, as_many e))
given_bytes None n e = absurd (omega (arith, as_many e))

given_either : (due : LengthDue) (m n : ℕ) → lengths_given due ≡ m ∷ n ∷ [] → due ≡ Either m n
unfolding lengths_given
given_either (Bytes k) m n e = absurd (omega (arith, as_many e))
given_either (Either j k) m n e = ap₂ Either (first_of e) (second_of e)
given_either None m n e = absurd (omega (arith, as_many e))

given_none : (due : LengthDue) → lengths_given due ≡ [] → due ≡ None
unfolding lengths_given
given_none (Bytes n) e = absurd (omega (arith, as_many e))
given_none (Either m n) e = absurd (omega (arith, as_many e))
given_none None e = refl

module _ (tag stations : ℕ) (due : LengthDue) (call : GivesLength tag stations due) where
  -- the lengths that the answer means are those of the tag's rows: each row's length is among them, and each of them is a row's
  pub row_length : (desks : ℕ) (r : TableRow) → Among r (field_table stations desks) → tag ≡ r.tag → Among (length_of r.content) (lengths_given due)
  row_length desks r a e = subst (Among _) (sym (call desks)) (row_due tag (field_table stations desks) r a e)

  pub length_row : (desks n : ℕ) → Among n (lengths_given due) → RowOfLength tag n (field_table stations desks)
  length_row desks n a = due_row tag n (field_table stations desks) (subst (Among n) (call desks) a)

  -- a tag of one row has its length ..
  module _ (desks : ℕ) (r : TableRow) (a : Among r (field_table stations desks)) (e : tag ≡ r.tag) where
    of_one_content : (content : List Item) → contents_of tag (field_table stations desks) ≡ content ∷ [] → due ≡ Bytes (length_of r.content)
    unfolding lengths_due lengths_of Among
    of_one_content content one = given_bytes due _ (call desks ∙ ap lengths_of one ∙ ap (λ n. n ∷ []) (only (subst (Among _) (ap lengths_of one) (row_due tag _ r a e))))
      where
        only : Among (length_of r.content) (length_of content ∷ []) → length_of content ≡ length_of r.content
        only (inl q) = sym q
        only (inr n) = absurd n

    at_tag : (t : ℕ) (content : List Item) → tag ≡ t → contents_of t (field_table stations desks) ≡ content ∷ [] → due ≡ Bytes (length_of r.content)
    at_tag t content q one = of_one_content content (ap (λ x. contents_of x (field_table stations desks)) q ∙ one)

    no_row : contents_of tag (field_table stations desks) ≡ [] → due ≡ Bytes (length_of r.content)
    no_row none = absurd (none_due tag _ none _ (row_due tag _ r a e))

    pub sole_row_length : (tag ≡ mosaic_strip_tag → ⊥) → (tag ≡ sorting_strip_tag → ⊥) → (tag ≡ flight_head_tag → ⊥) → due ≡ Bytes (length_of r.content)
    sole_row_length h₁ h₂ h₃ =
        go (ℕ_discrete tag mosaic_head_tag) (ℕ_discrete tag sorting_head_tag) (ℕ_discrete tag flight_block_tag) (ℕ_discrete tag flight_window_block_tag)
        (ℕ_discrete tag flight_order_tag)
      where
        go : Dec (tag ≡ mosaic_head_tag) → Dec (tag ≡ sorting_head_tag) → Dec (tag ≡ flight_block_tag) → Dec (tag ≡ flight_window_block_tag)
            → Dec (tag ≡ flight_order_tag) → due ≡ Bytes (length_of r.content)
        go (yes q) d₂ d₃ d₄ d₅ = at_tag mosaic_head_tag _ q (mosaic_head_content stations desks)
        go (no g₁) (yes q) d₃ d₄ d₅ = at_tag sorting_head_tag _ q (sorting_head_content stations desks)
        go (no g₁) (no g₂) (yes q) d₄ d₅ = at_tag flight_block_tag _ q (flight_block_content stations desks)
        go (no g₁) (no g₂) (no g₃) (yes q) d₅ = at_tag flight_window_block_tag _ q (flight_window_block_content stations desks)
        go (no g₁) (no g₂) (no g₃) (no g₄) (yes q) = at_tag flight_order_tag _ q (flight_order_content stations desks)
        go (no g₁) (no g₂) (no g₃) (no g₄) (no g₅) = no_row (no_content stations desks tag g₁ h₁ g₂ h₂ h₃ g₃ g₄ g₅)

  -- .. and the flight head and the strips the two of theirs
  pub head_lengths_due : tag ≡ flight_head_tag → due ≡ Either 0 2
  unfolding lengths_given
  head_lengths_due e = given_either due 0 2 (call 0 ∙ sym (flight_head_case tag stations 0 2 e refl refl 0))

  pub strip_lengths_due : tag ≡ mosaic_strip_tag → 1 ≤ stations → stations ≤ most_stations → due ≡ Either (2 * stations + 2) (2 * stations + 2 + 1)
  unfolding lengths_given
  strip_lengths_due e lo hi = given_either due _ _ (call 0 ∙ sym (mosaic_strip_case tag stations _ _ e lo hi refl refl 0))

  pub desk_strip_lengths_due : tag ≡ sorting_strip_tag → due ≡ Either 5 6
  unfolding lengths_given
  desk_strip_lengths_due e = given_either due 5 6 (call 0 ∙ sym (sorting_strip_case tag stations 5 6 e refl refl 0))

  pub no_length : (desks : ℕ) → ((r : TableRow) → Among r (field_table stations desks) → tag ≡ r.tag → ⊥) → due ≡ None
  no_length desks none = given_none due (call desks ∙ no_row_due tag (field_table stations desks) none)

  -- so it is for every tag but the eight, and for a strip where the number of stations is not 1 to 4
  pub other_tag_none : (tag ≡ mosaic_head_tag → ⊥) → (tag ≡ mosaic_strip_tag → ⊥) → (tag ≡ sorting_head_tag → ⊥) → (tag ≡ sorting_strip_tag → ⊥)
      → (tag ≡ flight_head_tag → ⊥) → (tag ≡ flight_block_tag → ⊥) → (tag ≡ flight_window_block_tag → ⊥) → (tag ≡ flight_order_tag → ⊥) → due ≡ None
  unfolding lengths_given
  other_tag_none h₁ h₂ h₃ h₄ h₅ h₆ h₇ h₈ = given_none due (call 0 ∙ sym (other_tag_case tag stations h₁ h₂ h₃ h₄ h₅ h₆ h₇ h₈ 0))

  pub other_count_none : tag ≡ mosaic_strip_tag → (1 ≤ stations → stations ≤ most_stations → ⊥) → due ≡ None
  unfolding lengths_given
  other_count_none e other = given_none due (call 0 ∙ sym (other_count_case tag stations e other 0))
