-- What the tests require of what they are handed: sound sections, and numbers as a plan's fields and earlier members give them.
use Rattle.std.specs.Prelude.{ℕ, ◌≤◌, ◌≡◌, length, get_or}
use Rattle.sheet.specs.Limits.{most_desks, most_strips_of_desk}
use Rattle.sheet.specs.Sound.{MosaicSound, SortingSound, FlightSound}
use Rattle.sheet.specs.declared.MosaicSection.{MosaicSection}
use Rattle.sheet.specs.declared.SortingSection.{SortingSection}
use Rattle.sheet.specs.declared.FlightSection.{FlightSection}
use Rattle.rules.specs.declared.Batch.{Batch}
use Rattle.rules.specs.declared.Job.{Job}
use Rattle.rules.specs.declared.Passes.{Passes}
use Rattle.running.specs.declared.Desks.{Desks}
use Rattle.plan_read.specs.PlanRead.{BatchFits, JobFits, PassesFits}

-- the strips of the desks so far
pub record DesksFit (d : Desks) : Type 0 where
  pub done_length : length d.done ≡ 3
  pub free_length : length d.free ≡ 3
  pub most_done : (i : ℕ) → get_or d.done i 0 ≤ most_strips_of_desk

pub record BatchFollowsPre (m : MosaicSection) (b : Batch) : Type 0 where
  pub sound : MosaicSound m
  pub fits : BatchFits b

pub record JobFollowsPre (s : SortingSection) (d : Desks) (j : Job) : Type 0 where
  pub sound : SortingSound s
  pub desks : DesksFit d
  pub fits : JobFits j

pub record BlockFollowsPre (f : FlightSection) (p : Passes) : Type 0 where
  pub sound : FlightSound f
  pub fits : PassesFits p

-- a job of a known strip, as it is taken
pub record AfterJobPre (s : SortingSection) (d : Desks) (j : Job) : Type 0 where
  pub asked : JobFollowsPre s d j
  pub least_desk : 1 ≤ j.desk
  pub most_desk : j.desk ≤ most_desks
  pub least_number : 1 ≤ j.number
  pub most_number_holds : j.number ≤ most_strips_of_desk
