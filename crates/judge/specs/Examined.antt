-- What examining a plan gives: what the judge answers, and where the sections of the plan stand, for whoever reads an allowed plan behind the judge.
use Rattle.std.specs.Prelude.{ℕ, ◌≡◌, Bool, List, eqb}
use Rattle.std.proofs.Math.Path.{refl}
use Rattle.std.proofs.Common.{ap, ◌∙◌}
use Rattle.std.proofs.Math.Bool.{true, false, cond}
use Rattle.sheet.specs.Read.{read_sheet}
use Rattle.sheet.specs.declared.Sheet.{Sheet}
use Rattle.judge_layout.specs.Layout.{mosaic_part, sorting_part, flight_part}
use Rattle.judge_layout.specs.declared.Part.{Part}
use Rattle.judge.specs.Judged.{turned_back, judged_plan, judged}
use Rattle.judge.specs.declared.Examined.{Examined}

unfoldable pub no_part : Part
no_part = record { right = true; head = 0; members = 0; end = 0 }

unfoldable pub examined_plan : Sheet → List ℕ → Examined
examined_plan s plan =
    record { judged = judged_plan s plan; mosaic = mosaic_part s plan; sorting = sorting_part s plan; flight = flight_part s plan }

-- no section is looked for where the sheet is turned back
unfoldable pub examined : List ℕ → List ℕ → Examined
examined sheet plan =
    cond (eqb (read_sheet sheet).number 0)
    (examined_plan (read_sheet sheet) plan)
    (record { judged = turned_back (read_sheet sheet).number (read_sheet sheet).place; mosaic = no_part; sorting = no_part; flight = no_part })

-- what is judged is what the judge answers
module _ (sheet plan : List ℕ) where
  examined_judged : (examined sheet plan).judged ≡ judged sheet plan
  unfolding examined examined_plan judged
  examined_judged = go (eqb (read_sheet sheet).number 0)
    where
      go : (b : Bool)
          → (cond b (examined_plan (read_sheet sheet) plan)
          (record { judged = turned_back (read_sheet sheet).number (read_sheet sheet).place; mosaic = no_part; sorting = no_part; flight = no_part })).judged
          ≡ cond b (judged_plan (read_sheet sheet) plan) (turned_back (read_sheet sheet).number (read_sheet sheet).place)
      go true = refl
      go false = refl

  pub judged_by : (e : Examined) → e ≡ examined sheet plan → e.judged ≡ judged sheet plan
  judged_by e h = ap (λ (x : Examined). x.judged) h ∙ examined_judged
