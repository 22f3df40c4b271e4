-- The lines as they are stored: stores one behind the other are one store of the joined columns, with the line feed behind them.
use Rattle.std.specs.Prelude.{ℕ, ◌+◌, ◌-◌, ◌≤◌, ◌<◌, ◌≡◌, refl, List, [], ◌∷◌, ◌++◌, length, set, take, drop, replicate}
use Rattle.std.proofs.Common.{sym, ap, ◌∙◌, append_assoc, arith, length-set, length-append}
use Rattle.std.proofs.Math.Path.{ap₂}
use Rattle.std.proofs.Math.ListN.{length-take, length-drop}
use Rattle.std.proofs.lemmas.List.Edits.{sets-eq}
use borrow.Rule.Slice.PartMut.{mid_of, put_mid, Post-is}
use Rattle.decimal.specs.Columns.{space, columns}
use Rattle.decimal.proofs.Laws.{length_columns}
use Rattle.field.specs.Put.{put, put_one, joined}
use Rattle.rules.specs.declared.Batch.{Batch}
use Rattle.rules.specs.declared.Job.{Job}
use Rattle.rules.specs.declared.Passes.{Passes}
use Rattle.page_lines.specs.Line.{line_feed, line_length, line_bytes, head_line, member_line, second_field, blanks, batch_line, job_line, block_line}
use Rattle.page_lines.specs.Line.{batch_letter, job_letter, block_letter}
use Rattle.page_lines.proofs.Columns.{second_columns, blanks_columns}
use Rattle.page_lines.specs.LineLaws.{last_fields}

length_first : (letter value : ℕ) → length (letter ∷ columns space 3 value) ≡ 4
length_first letter value = omega (arith, length_columns space 3 value)

-- The stores. A head line: its letter, its figure, the line feed.
module _ (d : List ℕ) (at letter : ℕ) where
  pub first_room : at + 4 ≤ length d → at + 1 + 3 ≤ length (set d at letter)
  first_room h = omega (arith, length-set d at letter)

  pub head_room : at + line_length ≤ length d → at + 1 + 31 ≤ length (set d at letter)
  head_room h = omega (arith, length-set d at letter)

  pub first_kept : (d₁ : List ℕ) → length d₁ ≡ length (set d at letter) → length d₁ ≡ length d
  first_kept d₁ e = e ∙ length-set d at letter

  pub head_feed : (d₁ : List ℕ) → at + line_length ≤ length d → length d₁ ≡ length (set d at letter) → at + 32 < length d₁
  head_feed d₁ h e = omega (arith, e, length-set d at letter)

  pub head_kept : (d₁ : List ℕ) (last : ℕ) → length d₁ ≡ length (set d at letter) → length (set d₁ (at + 32) last) ≡ length d
  head_kept d₁ last e = length-set d₁ (at + 32) last ∙ e ∙ length-set d at letter

  letter_joined : (d₁ : List ℕ) (width value : ℕ) → d₁ ≡ put (set d at letter) (at + 1) (columns space width value)
      → d₁ ≡ put d at (letter ∷ columns space width value)
  letter_joined d₁ width value e = joined d (set d at letter) d₁ at (at + 1) (letter ∷ []) (columns space width value) (put_one d at letter) e refl

  pub first_stored : (d₁ : List ℕ) (first : ℕ) → d₁ ≡ put (set d at letter) (at + 1) (columns space 3 first) → d₁ ≡ put d at (letter ∷ columns space 3 first)
  first_stored d₁ first e = letter_joined d₁ 3 first e

  pub head_stored : (d₁ : List ℕ) (figure : ℕ) → d₁ ≡ put (set d at letter) (at + 1) (columns space 31 figure)
      → set d₁ (at + 32) line_feed ≡ put d at (line_bytes (head_line letter figure))
  unfolding line_bytes head_line
  head_stored d₁ figure e =
      joined d d₁ (set d₁ (at + 32) line_feed) at (at + 32) (letter ∷ columns space 31 figure) (line_feed ∷ []) (letter_joined d₁ 31 figure e)
      (put_one d₁ (at + 32) line_feed)
      (omega (arith, length_columns space 31 figure))

-- the part of the second field, filled with spaces
pub blanks_stored : (d part : List ℕ) (at : ℕ) → at + 4 ≤ length d → part ≡ replicate (length (mid_of at (at + 4 - at) d)) space
    → put_mid at (at + 4 - at) d part ≡ put d at blanks
unfolding put blanks
blanks_stored d part at room e =
    ap₂ (λ (l r : List ℕ). take at d ++ (l ++ r)) (e ∙ ap (λ n. replicate n space) four) (Post-is at (at + 4) d (omega arith))
    ∙ sym (append_assoc (take at d) (space ∷ space ∷ space ∷ space ∷ []) (drop (at + 4) d))
    ∙ sym (sets-eq (space ∷ space ∷ space ∷ space ∷ []) d at room)
  where
    four : length (mid_of at (at + 4 - at) d) ≡ 4
    four = omega (arith, length-take (at + 4 - at) (drop at d), length-drop at d)

pub last_feed : (d d₁ d₂ : List ℕ) (at : ℕ) → at + 25 ≤ length d → length d₁ ≡ length d → length d₂ ≡ length d₁ → at + 24 < length d₂
last_feed d d₁ d₂ at h e₁ e₂ = omega (arith, e₁, e₂)

pub last_kept : (d d₁ d₂ : List ℕ) (at last : ℕ) → length d₁ ≡ length d → length d₂ ≡ length d₁ → length (set d₂ (at + 24) last) ≡ length d
last_kept d d₁ d₂ at last e₁ e₂ = length-set d₂ (at + 24) last ∙ e₂ ∙ e₁

pub last_stored : (d d₁ d₂ : List ℕ) (at third fourth : ℕ) → d₁ ≡ put d at (columns space 12 third) → d₂ ≡ put d₁ (at + 12) (columns space 12 fourth)
    → set d₂ (at + 24) line_feed ≡ put d at (last_fields third fourth)
unfolding last_fields
last_stored d d₁ d₂ at third fourth e₁ e₂ =
    joined d d₂ (set d₂ (at + 24) line_feed) at (at + 24) (columns space 12 third ++ columns space 12 fourth) (line_feed ∷ [])
    (joined d d₁ d₂ at (at + 12) (columns space 12 third) (columns space 12 fourth) e₁ e₂ (omega (arith, length_columns space 12 third)))
    (put_one d₂ (at + 24) line_feed)
    (omega (arith, length-append (columns space 12 third) (columns space 12 fourth), length_columns space 12 third, length_columns space 12 fourth))

-- A member line: its letter and first field, its second field, its last fields.
line_parts : (letter first : ℕ) (second : List ℕ) (third fourth : ℕ)
    → (letter ∷ columns space 3 first) ++ second ++ last_fields third fourth ≡ line_bytes (member_line letter first second third fourth)
unfolding line_bytes member_line last_fields
line_parts letter first second third fourth =
    sym
    (append_assoc ((letter ∷ columns space 3 first) ++ second) (columns space 12 third ++ columns space 12 fourth) (line_feed ∷ []))

module _ (d d₁ d₂ d₃ : List ℕ) (at letter first : ℕ) (second : List ℕ) (third fourth : ℕ) where
  line_stored : length second ≡ 4 → d₁ ≡ put d at (letter ∷ columns space 3 first) → d₂ ≡ put d₁ (at + 4) second → d₃ ≡ put d₂ (at + 8) (last_fields third fourth)
      → d₃ ≡ put d at (line_bytes (member_line letter first second third fourth))
  line_stored h e₁ e₂ e₃ =
      joined d d₂ d₃ at (at + 8) ((letter ∷ columns space 3 first) ++ second) (last_fields third fourth)
      (joined d d₁ d₂ at (at + 4) (letter ∷ columns space 3 first) second e₁ e₂ (ap (λ k. at + k) (sym (length_first letter first))))
      e₃
      (omega (arith, h, length-append (letter ∷ columns space 3 first) second, length_columns space 3 first))
      ∙ ap (put d at) (line_parts letter first second third fourth)

module _ (d d₁ d₂ d₃ : List ℕ) (at : ℕ) where
  pub member_stored : (letter first second third fourth : ℕ) → d₁ ≡ put d at (letter ∷ columns space 3 first) → d₂ ≡ put d₁ (at + 4) (columns space 4 second)
      → d₃ ≡ put d₂ (at + 8) (last_fields third fourth)
      → d₃ ≡ put d at (line_bytes (member_line letter first (second_field second) third fourth))
  unfolding second_field
  member_stored letter first second third fourth e₁ e₂ e₃ =
      line_stored d d₁ d₂ d₃ at letter first (second_field second) third fourth (second_columns second) e₁ e₂ e₃

  pub block_stored : (number : ℕ) (p : Passes) → d₁ ≡ put d at (block_letter ∷ columns space 3 number) → d₂ ≡ put d₁ (at + 4) blanks
      → d₃ ≡ put d₂ (at + 8) (last_fields p.first p.second)
      → d₃ ≡ put d at (line_bytes (block_line number p))
  unfolding block_line
  block_stored number p e₁ e₂ e₃ = line_stored d d₁ d₂ d₃ at block_letter number blanks p.first p.second blanks_columns e₁ e₂ e₃

module _ (d d₁ : List ℕ) (at : ℕ) where
  pub batch_stored : (number : ℕ) (b : Batch) → d₁ ≡ put d at (line_bytes (member_line batch_letter number (second_field b.last) b.start b.finish))
      → d₁ ≡ put d at (line_bytes (batch_line number b))
  unfolding batch_line
  batch_stored number b e = e

  pub job_stored : (j : Job) → d₁ ≡ put d at (line_bytes (member_line job_letter j.desk (second_field j.number) j.scan j.start))
      → d₁ ≡ put d at (line_bytes (job_line j))
  unfolding job_line
  job_stored j e = e
