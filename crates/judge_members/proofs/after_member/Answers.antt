-- `after_member` meets its contract: the member that is stored follows what was judged before it.
use Rattle.judge_members.proofs.Laws.{of_mosaic, of_sorting, after_batch_asked, after_strip_asked}
use Rattle.judge_members.proofs.after_member.Goals as goal

pub after_batch-requires : goal.after_batch-requires
after_batch-requires c = search (after_batch_asked, of_mosaic)

pub after_strip-requires : goal.after_strip-requires
after_strip-requires c = search (after_strip_asked, of_sorting)
