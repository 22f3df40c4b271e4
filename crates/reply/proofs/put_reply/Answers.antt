-- `put_reply` meets its contract: what an accepted call wrote stays, and the field of a refusal is what is put.
use Rattle.reply.specs.Reply.{reply_kept, reply_refused}
use Rattle.reply.proofs.put_reply.Goals as goal

pub returns-then-answer-eq0 : goal.returns-then-answer-eq0
returns-then-answer-eq0 c = search reply_kept

pub returns : goal.returns
returns c = search reply_refused
