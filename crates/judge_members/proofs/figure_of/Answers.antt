-- `figure_of` meets its contract: the flight's figure is that of as many blocks as the sheet has, which its head has been judged for.
use Rattle.judge_members.proofs.Laws.{not_mosaic, not_sorting, figure_flight}
use Rattle.judge_members.proofs.figure_of.Goals as goal

pub returns-in-Flight : goal.returns-in-Flight
returns-in-Flight c = search (figure_flight, not_mosaic, not_sorting)
