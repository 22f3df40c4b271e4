-- A lawful plan has room in a page buffer of 3,069 bytes.
use Rattle.std.specs.Prelude.{◌+◌, ◌*◌, ◌≤◌, ◌<◌, ◌≡◌, ◌≢◌, length}
use Rattle.std.proofs.Common.{◌∙◌, arith}
use mathlib.Core.List.{[], ◌∷◌, ◌++◌}
use Rattle.sheet.specs.Limits.{page_length}
use Rattle.sheet.specs.Sound.{SheetSound}
use Rattle.sheet.specs.declared.Sheet.{Sheet}
use Rattle.rules.specs.Plan.{Plan, PlanLawful}
use Rattle.page.specs.Page.{page_bytes}
use Rattle.page_laws.proofs.Lines.{page_length_lem, lines_most}

module _ (s : Sheet) (p : Plan) (sound : SheetSound s) (L : PlanLawful s p) where
  pub page_most : length (page_bytes s p) ≤ page_length
  page_most = omega (arith, page_length_lem s p, lines_most s p sound L)
