-- `section_filled` meets its contract: each way through its tests is one through the definition.
use Rattle.base.specs.Branch.{flags}
use Rattle.sheet.specs.Checks.{section_filled}
use Rattle.sheet_checks.proofs.section_filled.Goals as goal
use Rattle.sheet_checks.proofs.section_filled.Goals.{then-not-ends_section, else-not-ends_section}

pub returns-then-section-eq-NO_SECTION : goal.returns-then-section-eq-NO_SECTION
unfolding section_filled
returns-then-section-eq-NO_SECTION c =
    elim c.if-not-ends_section.branch [
      | then-not-ends_section w ↦ search flags depth 14
      | else-not-ends_section w ↦ search flags depth 14
    ]

pub returns-else-section-eq-NO_SECTION : goal.returns-else-section-eq-NO_SECTION
unfolding section_filled
returns-else-section-eq-NO_SECTION c = search flags depth 14
