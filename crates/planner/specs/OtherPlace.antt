-- Two sheets that are the same but for places: what a call answers and writes for the one and for the other is the same but for the place.
use Rattle.std.specs.Prelude.{ℕ, ◌≡◌, length}
use Rattle.std.proofs.Common.{◌∙◌}
use mathlib.Core.List.{[]}
use Rattle.base.specs.Answer.{answer}
use Rattle.base.specs.declared.Answer.{Answer}
use Rattle.sheet.specs.MovedPlaces.{moved_place}

-- an answer with its place moved
abbrev pub moved_answer : ℕ → ℕ → Answer → Answer
moved_answer d n r = answer r.number (moved_place d n r.place) r.length
