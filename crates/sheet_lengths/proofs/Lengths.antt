-- What the cases of `LengthDue` mean, and the laws by which those of `length_due` are the lengths of the field table (02, Req 05).
-- The idea: for a tag that is known the table computes to the lengths that its contents have; a tag outside the table has no content.
use Rattle.std.specs.Prelude.{ℕ, ◌+◌, ◌*◌, ◌≤◌, ◌≡◌, refl, Bool, true, false, ◌||◌, [], ◌∷◌, eqb}
use Rattle.std.proofs.Math.Path.{sym}
use Rattle.std.proofs.Common.{◌∙◌, arith}
use borrow.Author.Tests.{eqb-true, eqb-false, eq-eqb, ne_eqb}
use Rattle.sheet.specs.Limits.{most_stations}
use Rattle.sheet.specs.Tags.{mosaic_head_tag, mosaic_strip_tag, sorting_head_tag, sorting_strip_tag, flight_head_tag, flight_block_tag, flight_order_tag}
use Rattle.sheet.specs.Tags.{flight_window_block_tag}
use Rattle.sheet.specs.Among.{is_among}
use Rattle.sheet.specs.FieldTable.{mosaic_head, mosaic_strip, sorting_head, sorting_strip, empty_flight_head, turn_flight_head, flight_block, flight_window_block, flight_order}
use Rattle.sheet.specs.FieldTable.{field_table, length_of, contents_of, lengths_of, lengths_due}
use Rattle.sheet.proofs.Contents.{mosaic_head_content, mosaic_strip_contents, no_strip_content, sorting_head_content, sorting_strip_contents, weighted_length}
use Rattle.sheet.proofs.Contents.{flight_head_contents, flight_block_content, flight_window_block_content, flight_order_content, no_content, no_lengths, strip_length}
use Rattle.sheet_lengths.specs.declared.LengthDue.{LengthDue}
use Rattle.sheet_lengths.specs.declared.LengthDue.TheVariants.{Bytes, Either, None}
use Rattle.sheet_lengths.specs.Lengths.{lengths_given, GivesLength}

-- the cases of the eight tags: each is the length of the content that the table has for the tag, those of the strips and of the flight head the lengths of two
module _ (tag stations n : ℕ) where
  pub mosaic_head_case : tag ≡ mosaic_head_tag → n ≡ 3 → GivesLength tag stations (Bytes n)
  unfolding lengths_given lengths_due lengths_of length_of mosaic_head
  mosaic_head_case e h desks = rw (e, h, mosaic_head_content stations desks)

  pub mosaic_strip_case : (m : ℕ) → tag ≡ mosaic_strip_tag → 1 ≤ stations → stations ≤ most_stations → n ≡ 2 * stations + 2 → m ≡ 2 * stations + 2 + 1
      → GivesLength tag stations (Either n m)
  unfolding lengths_given lengths_due lengths_of
  mosaic_strip_case m e lo hi h k desks =
      rw (e, h, k, mosaic_strip_contents stations desks lo hi, weighted_length (mosaic_strip stations), strip_length stations)

  pub sorting_head_case : tag ≡ sorting_head_tag → n ≡ 1 → GivesLength tag stations (Bytes n)
  unfolding lengths_given lengths_due lengths_of length_of sorting_head
  sorting_head_case e h desks = rw (e, h, sorting_head_content stations desks)

  pub sorting_strip_case : (m : ℕ) → tag ≡ sorting_strip_tag → n ≡ 5 → m ≡ 6 → GivesLength tag stations (Either n m)
  unfolding lengths_given lengths_due lengths_of length_of sorting_strip
  sorting_strip_case m e h k desks = rw (e, h, k, sorting_strip_contents stations desks, weighted_length (sorting_strip desks))

  pub flight_head_case : (m : ℕ) → tag ≡ flight_head_tag → n ≡ 0 → m ≡ 2 → GivesLength tag stations (Either n m)
  unfolding lengths_given lengths_due lengths_of length_of empty_flight_head turn_flight_head
  flight_head_case m e h k desks = rw (e, h, k, flight_head_contents stations desks)

  pub flight_block_case : tag ≡ flight_block_tag → n ≡ 6 → GivesLength tag stations (Bytes n)
  unfolding lengths_given lengths_due lengths_of length_of flight_block
  flight_block_case e h desks = rw (e, h, flight_block_content stations desks)

  pub flight_window_block_case : tag ≡ flight_window_block_tag → n ≡ 8 → GivesLength tag stations (Bytes n)
  unfolding lengths_given lengths_due lengths_of length_of flight_window_block
  flight_window_block_case e h desks = rw (e, h, flight_window_block_content stations desks)

  pub flight_order_case : tag ≡ flight_order_tag → n ≡ 8 → GivesLength tag stations (Bytes n)
  unfolding lengths_given lengths_due lengths_of length_of flight_order
  flight_order_case e h desks = rw (e, h, flight_order_content stations desks)

-- no length is due for a strip where the head cannot have so many stations, nor for a tag outside the table
module _ (tag stations : ℕ) where
  none_given : (desks : ℕ) → contents_of tag (field_table stations desks) ≡ [] → lengths_given None ≡ lengths_due tag (field_table stations desks)
  unfolding lengths_given
  none_given desks e = sym (no_lengths tag (field_table stations desks) e)

  pub other_count_case : tag ≡ mosaic_strip_tag → (1 ≤ stations → stations ≤ most_stations → ⊥) → GivesLength tag stations None
  other_count_case e other desks = none_given desks (rw e (no_strip_content stations desks other))

  pub no_strip_case : tag ≡ mosaic_strip_tag → (stations ≡ 1 → ⊥) → (stations ≡ 2 → ⊥) → (stations ≡ 3 → ⊥) → (stations ≡ 4 → ⊥)
      → GivesLength tag stations None
  no_strip_case e h₁ h₂ h₃ h₄ = other_count_case e (λ lo hi. omega arith)

  pub other_tag_case : (tag ≡ mosaic_head_tag → ⊥) → (tag ≡ mosaic_strip_tag → ⊥) → (tag ≡ sorting_head_tag → ⊥) → (tag ≡ sorting_strip_tag → ⊥)
      → (tag ≡ flight_head_tag → ⊥) → (tag ≡ flight_block_tag → ⊥) → (tag ≡ flight_window_block_tag → ⊥) → (tag ≡ flight_order_tag → ⊥)
      → GivesLength tag stations None
  other_tag_case h₁ h₂ h₃ h₄ h₅ h₆ h₇ h₈ desks = none_given desks (no_content stations desks tag h₁ h₂ h₃ h₄ h₅ h₆ h₇ h₈)

pub ruleset cases =
    (mosaic_head_case, sorting_head_case, sorting_strip_case, flight_head_case, flight_block_case, flight_window_block_case, flight_order_case, no_strip_case, other_tag_case)

-- a length is compared with the one that is due, whichever of them stands first
either_first : (a b : ℕ) → eqb a b ≡ eqb b a
either_first a b = go (eqb b a) refl
  where
    go : (c : Bool) → eqb b a ≡ c → eqb a b ≡ c
    go true e = eq-eqb a b (sym (eqb-true b a e))
    go false e = ne_eqb a b (λ h. eqb-false b a e (sym h))

last : (b : Bool) → b ≡ (b || false)
last true = refl
last false = refl

module _ (due : LengthDue) (len : ℕ) where
  pub bytes_compared : (bytes : ℕ) → due ≡ Bytes bytes → eqb bytes len ≡ is_among len (lengths_given due)
  unfolding lengths_given is_among
  bytes_compared bytes e = rw e (last (eqb bytes len))

  pub length_compared : (bytes : ℕ) → due ≡ Bytes bytes → eqb len bytes ≡ is_among len (lengths_given due)
  length_compared bytes e = either_first len bytes ∙ bytes_compared bytes e

  -- of two lengths that are due the first is compared first
  pub either_first_due : (first second : ℕ) → due ≡ Either first second → first ≡ len → eqb first len ≡ is_among len (lengths_given due)
  unfolding lengths_given is_among
  either_first_due first second e h = rw (e, eq-eqb first len h)

  pub either_compared : (first second : ℕ) → due ≡ Either first second → (first ≡ len → ⊥) → eqb second len ≡ is_among len (lengths_given due)
  unfolding lengths_given is_among
  either_compared first second e h = rw (e, ne_eqb first len h) (last (eqb second len))

  pub length_first_due : (first second : ℕ) → due ≡ Either first second → len ≡ first → eqb len first ≡ is_among len (lengths_given due)
  length_first_due first second e h = either_first len first ∙ either_first_due first second e (sym h)

  pub length_second_compared : (first second : ℕ) → due ≡ Either first second → (len ≡ first → ⊥) → eqb len second ≡ is_among len (lengths_given due)
  length_second_compared first second e h = either_first len second ∙ either_compared first second e (λ q. h (sym q))

  pub none_compared : due ≡ None → false ≡ is_among len (lengths_given due)
  unfolding lengths_given is_among
  none_compared e = rw e

pub ruleset compared = (bytes_compared, length_compared, either_first_due, either_compared, length_first_due, length_second_compared, none_compared)
