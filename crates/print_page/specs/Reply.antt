-- What the program writes for a sheet and a plan: the page, or one field of tag E0 where the judge does not allow the plan.
use Rattle.std.specs.Prelude.{ℕ, List}
use Rattle.page.specs.Call.{printed_answer, printed}
use Rattle.reply.specs.Reply.{reply_bytes}

-- with a page buffer that is large enough
unfoldable pub page_reply : List ℕ → List ℕ → List ℕ
page_reply sheet plan = reply_bytes (printed_answer sheet plan) (printed sheet plan)
