-- `strips_of_desk` meets its contract: the count of a desk that there is, and 0 of any other.
use Rattle.std.proofs.Common.{arith}
use Rattle.std.proofs.lemmas.Grind.{common_steps}
use Rattle.sheet.specs.Sections.{strips_of_desk}
use Rattle.sheet.proofs.desks.strips_of_desk.Goals as goal

pub returns : goal.returns
unfolding strips_of_desk
returns c = grind (arith, common_steps)
