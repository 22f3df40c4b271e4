-- `page_sections::print_section` meets its contract. Invariant: the lines of the first i members are stored.
use Rattle.page_sections.specs.SectionLaws.{LinesStored}
use Rattle.page_sections.proofs.print_section.Given as goal

abbrev pub invariant-loop-i : goal.invariant-loop-i
invariant-loop-i g l = LinesStored (g.M.Member.line l.plan l.part.head) l.initial.page l.page l.first l.part.members l.i
