-- 12 in the words of 01: "plan's tags, lengths or sections wrong", at the "first wrong plan field (plan length if the plan ends before its last section)".
-- Which field is due where follows from "The plan": "Sections are the sheet's, in its order", each its head and then its members.
-- Sections are numbered 1, mosaic; 2, sorting; 3, flight; 0 stands for the start of the plan.
use Rattle.std.specs.Prelude.{ℕ, zero, suc, ◌+◌, ◌*◌, ◌≤◌, ◌<◌, ◌≡◌, true, List, length}
use Rattle.field.specs.Field.{field_at}
use Rattle.field.specs.declared.Field.TheVariants.{Whole}
use Rattle.plan_format.specs.Format.{content_length}
use Rattle.sheet.specs.declared.Sheet.{Sheet}
use Rattle.judge_members.specs.Members.{present, head_form, member_form}

-- the tag and the content length of a section's head ..
abbrev pub head_tag : ℕ → ℕ
head_tag section = (head_form section).tag

abbrev pub head_length : ℕ → ℕ
head_length section = content_length (head_form section)

-- .. and of each of its members
abbrev pub member_tag : ℕ → ℕ
member_tag section = (member_form section).tag

abbrev pub member_length : ℕ → ℕ
member_length section = content_length (member_form section)

-- section j is the next of the sheet's sections behind section k
pub record NextSection (s : Sheet) (k j : ℕ) : Type 0 where
  pub behind : k < j
  pub known : j ≤ 3
  pub there : present s j ≡ true
  pub none_between : (i : ℕ) → k < i → i < j → present s i ≡ true → ⊥

-- A field that is due in section k: the head of the next section, with which that section begins, or one more member of section k.
pub data Due (s : Sheet) (k tag len : ℕ) : ℕ → Type 0 where
  head : {j : ℕ} → NextSection s k j → tag ≡ head_tag j → len ≡ head_length j → Due s k tag len j
  member : 1 ≤ k → tag ≡ member_tag k → len ≡ member_length k → Due s k tag len k

-- The first n fields of the plan are each one that is due there. They end at an offset, in section k.
pub data DueUpTo (s : Sheet) (plan : List ℕ) : ℕ → ℕ → ℕ → Type 0 where
  none : DueUpTo s plan zero 0 0
  more : {n at k j : ℕ} (tag len : ℕ) → DueUpTo s plan n at k → field_at plan at ≡ Whole tag len → Due s k tag len j → DueUpTo s plan (suc n) (at + (3 + len)) j

-- no whole field that is due stands at the offset
unfoldable pub NoneDue : Sheet → List ℕ → ℕ → ℕ → Type 0
NoneDue s plan at k = (tag len j : ℕ) → field_at plan at ≡ Whole tag len → Due s k tag len j → ⊥

-- Every plan field before the place is one that is due there, and the field at the place is not, or the plan ends there before its last section.
pub data LayoutFault (s : Sheet) (plan : List ℕ) (place : ℕ) : Type 0 where
  wrong_field : (n k : ℕ) → DueUpTo s plan n place k → place < length plan → NoneDue s plan place k → LayoutFault s plan place
  ends_early : (n k j : ℕ) → DueUpTo s plan n place k → place ≡ length plan → NextSection s k j → LayoutFault s plan place

-- The plan is laid out right: every field is one that is due there, and no section is missing at its end.
pub record LaidOut (s : Sheet) (plan : List ℕ) : Type 0 where
  pub fields : ℕ
  pub section : ℕ
  pub due : DueUpTo s plan fields (length plan) section
  pub last : (j : ℕ) → NextSection s section j → ⊥

-- Section k of a plan: its head stands where it is due, behind it so many of its members, and no further one.
pub record SectionAt (s : Sheet) (plan : List ℕ) (k head members : ℕ) : Type 0 where
  pub fields : ℕ
  pub before : ℕ
  pub due : DueUpTo s plan fields head before
  pub next : NextSection s before k
  pub head_there : field_at plan head ≡ Whole (head_tag k) (head_length k)
  pub members_there : (i : ℕ) → i < members → field_at plan (head + (3 + head_length k) + (3 + member_length k) * i) ≡ Whole (member_tag k) (member_length k)
  pub no_more : field_at plan (head + (3 + head_length k) + members * (3 + member_length k)) ≡ Whole (member_tag k) (member_length k) → ⊥
