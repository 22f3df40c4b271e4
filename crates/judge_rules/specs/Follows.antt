-- The rules as tests: what is checked at a member and at a head (01, the end of "Turned back"). Crate judge_laws proves that they decide the rules.
use Rattle.std.specs.Prelude.{ℕ, zero, suc, ◌+◌, ◌-◌, ◌*◌, Bool, true, not, ◌&&◌, ◌||◌, List, get_or, ltb, leb, eqb}
use Rattle.order.specs.Order.{is_proper}
use Rattle.order.specs.Passes.{pass_at}
use Rattle.sheet.specs.Limits.{ceiling}
use Rattle.sheet.specs.declared.MosaicSection.{MosaicSection}
use Rattle.sheet.specs.declared.SortingSection.{SortingSection}
use Rattle.sheet.specs.declared.FlightSection.{FlightSection}
use Rattle.rules.specs.Mosaic.{finish_due}
use Rattle.rules.specs.Sorting.{strips_of, scan_end, desk_finish}
use Rattle.rules.specs.Flight.{pass_start, second_due, clear_at}
use Rattle.rules.specs.declared.Batch.{Batch}
use Rattle.rules.specs.declared.Job.{Job}
use Rattle.rules.specs.declared.Passes.{Passes}
use Rattle.running.specs.declared.Desks.{Desks}

-- "At a member: ranges, a member too many, a batch's last strip past that of the batch before"
unfoldable pub batch_in_run : ℕ → ℕ → ℕ → Bool
batch_in_run strips before last = ltb before last && leb last strips

-- "also ready time, finish, .. and times against earlier members": the finish before, and the finish due, which has the ready time (02, Req 08)
unfoldable pub batch_in_time : ℕ → ℕ → ℕ → ℕ → Bool
batch_in_time before start finish due = leb before start && (eqb finish due && leb finish ceiling)

unfoldable pub batch_follows : MosaicSection → Batch → Batch → Bool
batch_follows m before b =
    batch_in_run m.strips before.last b.last && batch_in_time before.finish b.start b.finish (finish_due m before b)

-- "a strip number next in turn": so many of the desk's strips are done
unfoldable pub job_in_turn : ℕ → ℕ → ℕ → ℕ → ℕ → Bool
job_in_turn desks strips done desk number = leb 1 desk && (leb desk desks && (eqb number (done + 1) && leb number strips))

-- "own scan and times against earlier members": the scanner and the desk are free from so on
unfoldable pub job_in_time : ℕ → ℕ → ℕ → ℕ → ℕ → ℕ → Bool
job_in_time scanner free scan scanned start finish = leb scanner scan && (leb scanned start && (leb free start && leb finish ceiling))

unfoldable pub job_follows : SortingSection → Desks → Job → Bool
job_follows s d j =
    job_in_turn s.desks (strips_of s j.desk) (get_or d.done (j.desk - 1) 0) j.desk j.number
    && job_in_time d.scanner (get_or d.free (j.desk - 1) 0) j.scan (scan_end s j) j.start (desk_finish s j)

-- "in flight only the exact delay", ranges and a member too many: the earliest and the latest second start due (02, Req 07: "any delay in the window and no
-- other"), and its end
unfoldable pub block_in_time : ℕ → ℕ → ℕ → ℕ → Bool
block_in_time earliest latest second end = leb earliest second && (leb second latest && leb end ceiling)

unfoldable pub block_follows : FlightSection → ℕ → Passes → Bool
block_follows f i p =
    ltb i f.blocks
    && block_in_time (second_due f i p (get_or f.shortest i 0)) (second_due f i p (get_or f.longest i 0)) p.second (p.second + get_or f.second i 0)

-- "At the head: members missing, order number improper or not the one given, passes not in its order or overlapping." 02, Req 06: "a turn too short is 13 at
-- the head".
unfoldable pub all_done : List ℕ → List ℕ → ℕ → Bool
all_done counts done zero = true
all_done counts done (suc desk) = all_done counts done desk && eqb (get_or done desk 0) (get_or counts desk 0)

unfoldable pub passes_in_order : FlightSection → ℕ → List Passes → ℕ → Bool
passes_in_order f order ps zero = true
passes_in_order f order ps (suc k) =
    passes_in_order f order ps k && leb (clear_at f ps (pass_at f.blocks order k)) (pass_start f ps (pass_at f.blocks order (k + 1)))

unfoldable pub flight_head : FlightSection → ℕ → ℕ → List Passes → Bool
flight_head f members order ps =
    eqb members f.blocks
    && (is_proper f.blocks order
    && ((not f.ordered || eqb order f.order)
    && passes_in_order f order ps (2 * f.blocks - 1)))
