-- The chosen jobs are a lawful timetable, and their figure is the least figure. Each job is read off the state that the list has reached.
use Prim.Native.Nat.{ℕ, ◌*◌}
use Rattle.sheet.specs.Limits.{most_time, most_desks, most_strips_of_desk}

-- no job of the chosen list finishes later: scan and desk time of every strip
abbrev pub latest_finish : ℕ
latest_finish = most_desks * most_strips_of_desk * (2 * most_time)
