-- The reader's loop: wherever it stands, what is left to read gives the sheet's answer.
use Rattle.std.specs.Prelude.{ℕ, ◌+◌, ◌-◌, ◌≤◌, ◌<◌, ◌≡◌, List, length}
use Rattle.std.proofs.Common.{◌∙◌}
use Rattle.sheet.specs.Read.{read_from, read_sheet}
use Rattle.sheet.specs.Invariant.{Kept}
use Rattle.sheet.specs.declared.Reading.{Reading}

pub record Progress (s : List ℕ) (st : Reading) : Type 0 where
  pub kept : Kept s st
  pub steps : ℕ
  pub enough : length s - st.at < steps
  pub same : read_from steps s st ≡ read_sheet s
