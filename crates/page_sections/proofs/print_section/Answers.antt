-- `page_sections::print_section` meets its contract: its head line and the lines of its members, one behind the other, or nothing.
use native.Mathlib.Omega.{arith}
use Rattle.page_lines.proofs.Columns.{head_columns}
use Rattle.page_sections.specs.SectionLaws.{absent, lines_none, line_asked, lines_more, lines_all, section}
use Rattle.page_sections.proofs.print_section.Goals as goal

pub returns-then-part-lt1 : goal.returns-then-part-lt1
returns-then-part-lt1 g c = absent _ _ _ _ c.if-part-lt1.true

pub loop-i-init : goal.loop-i-init
loop-i-init g c = search lines_none

pub put_line-requires : goal.put_line-requires
put_line-requires g c =
    line_asked _ _ _ _ _ _ _ _ _ c.loop-i.invariant (omega (arith, c.requires.room, c.put_head_line.auto.page)) c.requires.place c.loop-i-test.true
    _
    (omega arith)

pub loop-i-preserved : goal.loop-i-preserved
loop-i-preserved g c =
    lines_more _ (g.met.M.Member.wide c.args.plan.now c.args.part.head) _ _ _ _ _ _ c.loop-i.invariant c.loop-i-test.true c.put_line.ensures

pub returns : goal.returns
returns g c =
    section _ _ _ _ _ _ _ (head_columns _ _) (g.met.M.Member.wide c.args.plan.now c.args.part.head) c.if-part-lt1.false c.put_head_line.ensures
    (lines_all _ _ _ _ _ _ c.loop-i.invariant c.loop-i-test.false)
