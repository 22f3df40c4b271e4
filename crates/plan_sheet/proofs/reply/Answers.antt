-- `plan_sheet::reply` meets its contract: what the call leaves, and what is put for its answer.
use Rattle.plan_sheet.specs.Laws.{sheet_asked, sheet_replied}
use Rattle.plan_sheet.proofs.reply.Goals as goal

pub put_reply-requires : goal.put_reply-requires
put_reply-requires c = search sheet_asked

pub returns : goal.returns
returns c = search sheet_replied
