-- What the judge of a member and of a head requires and keeps to, and that what the code reads is what the definitions name.
use Rattle.std.specs.Prelude.{ℕ, ◌+◌, ◌-◌, ◌*◌, ◌^◌, ◌≤◌, ◌<◌, ◌≡◌, true, List, get_or}
use Rattle.sheet.specs.Limits.{most_weight, most_strips, most_blocks, ceiling}
use Rattle.sheet.specs.Sound.{MosaicSound, SheetSound}
use Rattle.sheet.specs.declared.Sheet.{Sheet}
use Rattle.rules.specs.Sorting.{desk_finish}
use Rattle.plan_format.specs.Format.{size_of, flight_head_form, passes_form}
use Rattle.rules.specs.declared.Batch.{Batch}
use Rattle.rules.specs.declared.Job.{Job}
use Rattle.judge_rules.specs.Clauses.{DesksFit, AfterJobPre}
use Rattle.judge_layout.specs.declared.Part.{Part}
use Rattle.judge_members.specs.Members.{member_place, member_follows}
use Rattle.judge_members.specs.Members.{head_follows}
use Rattle.judge_members.specs.declared.Progress.{Progress}

-- the most that one strip adds to a figure: the greatest weight times the ceiling
abbrev pub most_of_strip : ℕ
most_of_strip = most_weight * ceiling

-- what holds as members are judged: each strip judged has added no more than that
pub record Kept (p : Progress) : Type 0 where
  pub desks : DesksFit p.desks
  pub most_last : p.before.last ≤ most_strips
  pub most_figure : p.figure ≤ (p.before.last + get_or p.desks.done 0 0 + get_or p.desks.done 1 0 + get_or p.desks.done 2 0) * most_of_strip

pub record MemberPlacePre (section head k : ℕ) : Type 0 where
  pub room : member_place section head k < 2 ^ 64

pub record MemberFollowsPre (s : Sheet) (p : Progress) : Type 0 where
  pub sound : SheetSound s
  pub kept : Kept p

pub record AfterMemberPre (s : Sheet) (plan : List ℕ) (section place : ℕ) (p : Progress) : Type 0 where
  pub asked : MemberFollowsPre s p
  pub index : ℕ
  pub follows : member_follows s plan section index place p ≡ true

pub record AfterBatchPre (s : Sheet) (p : Progress) (b : Batch) : Type 0 where
  pub sound : MosaicSound s.mosaic
  pub kept : Kept p
  pub rises : p.before.last ≤ b.last
  pub most_last : b.last ≤ most_strips
  pub within : b.finish ≤ ceiling

pub record AfterStripPre (s : Sheet) (p : Progress) (j : Job) : Type 0 where
  pub kept : Kept p
  pub taken : AfterJobPre s.sorting p.desks j
  pub in_turn : j.number ≡ get_or p.desks.done (j.desk - 1) 0 + 1
  pub within : desk_finish s.sorting j ≤ ceiling

pub record HeadNumberPre (s : Sheet) (part : Part) : Type 0 where
  pub sound : SheetSound s
  pub room : part.head + size_of flight_head_form + size_of passes_form * most_blocks < 2 ^ 64

pub record FigureOfPre (s : Sheet) (plan : List ℕ) (section : ℕ) (part : Part) (p : Progress) : Type 0 where
  pub asked : HeadNumberPre s part
  pub follows : head_follows s plan section part p ≡ true
