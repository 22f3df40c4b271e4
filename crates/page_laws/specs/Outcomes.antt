-- The ways out of a page call, read from its contract: 2, a plan that the judge does not allow, and the page.
use Rattle.std.specs.Prelude.{ℕ, ◌≤◌, ◌<◌, ◌≡◌, List, drop}
use Rattle.std.proofs.Common.{◌∙◌}
use Rattle.std.proofs.Math.ListN.{length}
use Rattle.base.specs.Answer.{answer, written}
use Rattle.base.specs.declared.Answer.{Answer}
use Rattle.field.specs.Put.{holding}
use Rattle.sheet.specs.Limits.{page_length}
use Rattle.sheet.specs.Refusals.{buffer_too_small}
use Rattle.judge.specs.Judged.{judged}
use Rattle.page.specs.Call.{page_of}

pub data PageOutcome (sheet plan page page_after : List ℕ) (r : Answer) : Type 0 where
  small : length page < page_length → r ≡ answer buffer_too_small 0 0 → page_after ≡ page → PageOutcome sheet plan page page_after r
  not_allowed :
      page_length ≤ length page → ((judged sheet plan).number ≡ 0 → ⊥)
      → r ≡ answer (judged sheet plan).number (judged sheet plan).place 0 → page_after ≡ page → PageOutcome sheet plan page page_after r
  allowed :
      page_length ≤ length page → (judged sheet plan).number ≡ 0
      → r ≡ answer 0 0 (length (page_of sheet plan)) → page_after ≡ holding (page_of sheet plan) page → PageOutcome sheet plan page page_after r

-- What an accepted call has printed: place 0, the page of the timetable that the plan states, its length, and nothing behind it.
pub record PagePrinted (sheet plan page page_after : List ℕ) (r : Answer) : Type 0 where
  pub large : page_length ≤ length page
  pub no_fault : (judged sheet plan).number ≡ 0
  pub place : r.place ≡ 0
  pub bytes : written r page_after ≡ page_of sheet plan
  pub long : r.length ≡ length (page_of sheet plan)
  pub behind : drop r.length page_after ≡ drop r.length page
